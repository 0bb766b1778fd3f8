-- What an INIT ACK and a COOKIE-ECHO make of an association.
use Rattle.std.proofs.Common.{◌≡◌, ℕ, Bool, true, false, List, None, refl, ap, sym, inl, inr, ◌∙◌}
use Rattle.std.proofs.lemmas.Bool.{cases_Bool, false≢true, lt-ltb, ltb-true}
use Rattle.std.specs.Prelude.{◌↔◌, ◌<◌, ◌-◌, ◌||◌, IsTrue, Ok, Err, Result, is_some, nat_lt}
use Rattle.sctp_association.proofs.AcksOn.{told_as}
use Rattle.sctp_association.proofs.Rows.{follows_step}
use Rattle.sctp_association.specs.AcksDue.{AcksTold, acks_of}
use Rattle.sctp_association.specs.Cookies.{IsSealedAt}
use Rattle.sctp_association.specs.Openings.{Echoes, echo_step}
use Rattle.sctp_association.specs.Expected.{speaks}
use Rattle.sctp_association.specs.Rows.{FollowsAnswer}
use Rattle.sctp_association.specs.declared.association.Association.{Association}
use Rattle.sctp_handshake.specs.Cookies.{on_cookie_echo}
use Rattle.sctp_handshake.specs.Machines.{Takes}
use Rattle.sctp_handshake.specs.declared.answer.Answer.{Answer}
use Rattle.sctp_handshake.specs.declared.machine.Machine.{Machine}
use Rattle.sctp_handshake.specs.declared.ticket.Ticket.{Ticket}

old-is : (b : Bool) (x y : ℕ) → IsTrue b ↔ (x < y) → b ≡ nat_lt x y
old-is true x y e = sym (lt-ltb x y (e.0 refl))
old-is false x y e = elim (cases_Bool (nat_lt x y)) [
  | inl is ↦ absurd (false≢true (e.1 (ltb-true x y is)))
  | inr is ↦ sym is
]

-- the machine took the step of the ticket, and its answer was followed
pub echoes_by : (tag : ℕ) (cookie : List ℕ) (now : ℕ) (a b : Association) (moment : ℕ) (made : IsSealedAt moment a.key tag cookie) (stale : Bool)
    → IsTrue stale ↔ (a.config.cookie_life < now - moment) → (n : Machine) (r : Answer) → Takes (on_cookie_echo made.ticket stale a.machine) n r
    → b.machine ≡ n → FollowsAnswer r made.ticket.peer.tag a.machine.state now a b
    → AcksTold r.told a.config.sack_delay (acks_of a.inbound) (acks_of b.inbound) → Echoes tag cookie now (on_cookie_echo made.ticket stale a.machine) a b
echoes_by tag cookie now a b moment made stale old n r takes kept h acks = record {
  moment = moment;
  made = made;
  is = ap (λ (s : Bool). on_cookie_echo made.ticket s a.machine) (old-is stale a.config.cookie_life (now - moment) old);
  follows = follows_step (on_cookie_echo made.ticket stale a.machine) made.ticket.peer.tag now a b n r takes.machine takes.answer kept h;
  acks = told_as a.config.sack_delay (acks_of a.inbound) (acks_of b.inbound) r _ takes.answer acks;
}

-- ## What is expected is not refused

-- where neither is answered the machine does not speak
silent-none : (r : Answer) → r.reply ≡ None → r.told ≡ None → speaks r ≡ true → ⊥
silent-none r reply told e = false≢true (sym (ap (λ o. is_some o || is_some r.told) reply ∙ ap (λ o. false || is_some o) told) ∙ e)

module _ (now : ℕ) (a : Association) (moment : ℕ) (ticket : Ticket) (stale : Bool) (old : IsTrue stale ↔ (a.config.cookie_life < now - moment)) where
  -- the step was taken, and the machine spoke
  pub echo_expected : (n : Machine) (r : Answer) → Takes (on_cookie_echo ticket stale a.machine) n r → (k : ℕ) (t : Ticket) → moment ≡ k → ticket ≡ t
      → speaks (echo_step now k t a).answer ≡ true → r.reply ≡ None → r.told ≡ None → ⊥
  echo_expected n r takes k t same one e reply told = silent-none r reply told (
      ap speaks takes.answer ∙ ap (λ (s : Bool). speaks (on_cookie_echo ticket s a.machine).answer) (old-is stale a.config.cookie_life (now - moment) old)
      ∙ ap (λ m. speaks (echo_step now m ticket a).answer) same ∙ ap (λ (t : Ticket). speaks (echo_step now k t a).answer) one ∙ e
      )

-- the ticket that was read is the one that is in the payload
pub err_ok : {T E : Type 0} (x : T) (e : E) → Err e ≡ Ok x → ⊥
err_ok x e is = cc

pub ok_same : {T E : Type 0} (r : Result T E) (x y : T) → r ≡ Ok x → r ≡ Ok y → x ≡ y
ok_same r x y is e = cc
