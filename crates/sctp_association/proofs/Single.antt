-- A chunk by itself.
use Rattle.std.proofs.Common.{◌≡◌, ℕ, Bool, true, false, List, arith, refl, ap, sym, subst, ◌∙◌}
use Rattle.std.proofs.lemmas.Bool.{false≢true, ne_eqb}
use Rattle.std.specs.Prelude.{Result, Ok, Err, IfOk, ◌==◌, ◌||◌, not}
use Rattle.sctp_association.specs.AcksOn.{AcksOn}
use Rattle.sctp_association.specs.Single.{AloneOn, CauseOn, OffersOn}
use Rattle.sctp_association.specs.Beats.{AnswersOn, BeatsOn}
use Rattle.sctp_association.specs.Brought.{BringsOnly}
use Rattle.sctp_association.specs.Causes.{cause_after, cause_in}
use Rattle.sctp_association.specs.Cookies.{cookie_in}
use Rattle.sctp_association.specs.Openings.{EchoesOn, InitAckOn}
use Rattle.sctp_association.specs.Reconfigs.{ReconfigOn}
use Rattle.sctp_association.specs.Rows.{RowOn, has_row}
use Rattle.sctp_association.specs.Shutting.{ShutsOn}
use Rattle.sctp_association.specs.declared.association.Association.{Association}
use Rattle.sctp_association.specs.declared.association.Reason.{Reason}
use Rattle.sctp_association.specs.declared.association.arrivals.Step.{Step}
use Rattle.sctp_association.specs.declared.association.arrivals.Step.TheVariants.{Next, Stop, Cut, Refused}
use Rattle.sctp_association.specs.declared.fault.Fault.{Fault}
use Rattle.sctp_datagram.specs.declared.datagram.ChunkPlace.{ChunkPlace}

-- ## By its type

-- of a chunk of this type only the row is said
abbrev pub is_plain : ℕ → Bool
is_plain typ = not ((typ == 1) || ((typ == 2) || ((typ == 4) || ((typ == 5) || ((typ == 7) || ((typ == 9) || ((typ == 10) || (typ == 130))))))))

module _ (c : ChunkPlace) (tag : ℕ) (d : List ℕ) (now : ℕ) (a b : Association) where
  pub alone_refused : (r : Reason) → BringsOnly c d a b → AloneOn c tag d now (Refused r) a b
  alone_refused r brings = record {
    reconfig = λ is. tt;
    init = λ is. tt;
    init_ack = λ is. tt;
    heartbeat = λ is. tt;
    heartbeat_ack = λ is. tt;
    shutdown = λ is. tt;
    error = λ is. tt;
    cookie_echo = λ is. tt;
    row = λ is. tt;
    acks = λ is. tt;
    events = brings;
  }

  module _ (r : Result Step Fault) (brings : BringsOnly c d a b) where
    pub alone_by : (has_row c.typ ≡ true → IfOk r (λ s. AcksOn c d now s a b)) → (c.typ ≡ 130 → IfOk r (λ s. ReconfigOn c d now s a b))
        → (c.typ ≡ 1 → IfOk r (λ s. OffersOn c d now s a b)) → (c.typ ≡ 2 → IfOk r (λ s. InitAckOn c d now s a b))
        → (c.typ ≡ 4 → IfOk r (λ s. AnswersOn c.at d s a b)) → (c.typ ≡ 5 → IfOk r (λ s. BeatsOn c.at d now s a b))
        → (c.typ ≡ 7 → IfOk r (λ s. ShutsOn c.at d now s a.outbound b.outbound)) → (c.typ ≡ 9 → IfOk r (λ s. CauseOn c d s a b))
        → (c.typ ≡ 10 → IfOk r (λ s. EchoesOn tag (cookie_in d c) now s a b))
        → (has_row c.typ ≡ true → IfOk r (λ s. RowOn c d now s a b)) → IfOk r (λ s. AloneOn c tag d now s a b)
    alone_by acks reconfig init init_ack heartbeat heartbeat_ack shutdown error cookie_echo row = by r refl
      where
        by : (q : Result Step Fault) → r ≡ q → IfOk q (λ s. AloneOn c tag d now s a b)
        by (Ok s) is = record {
          reconfig = λ e. subst (λ (x : Result Step Fault). IfOk x (λ s. ReconfigOn c d now s a b)) is (reconfig e);
          init = λ e. subst (λ (x : Result Step Fault). IfOk x (λ s. OffersOn c d now s a b)) is (init e);
          init_ack = λ e. subst (λ (x : Result Step Fault). IfOk x (λ s. InitAckOn c d now s a b)) is (init_ack e);
          heartbeat = λ e. subst (λ (x : Result Step Fault). IfOk x (λ s. AnswersOn c.at d s a b)) is (heartbeat e);
          heartbeat_ack = λ e. subst (λ (x : Result Step Fault). IfOk x (λ s. BeatsOn c.at d now s a b)) is (heartbeat_ack e);
          shutdown = λ e. subst (λ (x : Result Step Fault). IfOk x (λ s. ShutsOn c.at d now s a.outbound b.outbound)) is (shutdown e);
          error = λ e. subst (λ (x : Result Step Fault). IfOk x (λ s. CauseOn c d s a b)) is (error e);
          cookie_echo = λ e. subst (λ (x : Result Step Fault). IfOk x (λ s. EchoesOn tag (cookie_in d c) now s a b)) is (cookie_echo e);
          row = λ e. subst (λ (x : Result Step Fault). IfOk x (λ s. RowOn c d now s a b)) is (row e);
          acks = λ e. subst (λ (x : Result Step Fault). IfOk x (λ s. AcksOn c d now s a b)) is (acks e);
          events = brings;
        }
        by (Err e) is = tt

    -- a type n is another one than k
    none : (n k : ℕ) → c.typ ≡ n → is_plain n ≡ true → is_plain k ≡ false → c.typ ≡ k → ⊥
    none n k typ plain other is = false≢true (sym other ∙ sym (ap is_plain is) ∙ ap is_plain typ ∙ plain)

    pub alone_plain : (n : ℕ) → c.typ ≡ n → is_plain n ≡ true → IfOk r (λ s. AcksOn c d now s a b)
        → IfOk r (λ s. RowOn c d now s a b) → IfOk r (λ s. AloneOn c tag d now s a b)
    alone_plain n typ plain acks row = alone_by (λ e. acks) (λ is. absurd (none n 130 typ plain refl is))
        (λ is. absurd (none n 1 typ plain refl is)) (λ is. absurd (none n 2 typ plain refl is))
        (λ is. absurd (none n 4 typ plain refl is)) (λ is. absurd (none n 5 typ plain refl is)) (λ is. absurd (none n 7 typ plain refl is))
        (λ is. absurd (none n 9 typ plain refl is)) (λ is. absurd (none n 10 typ plain refl is)) (λ e. row)

    -- of a RE-CONFIG the row is said, and what it makes
    pub alone_reconfig : c.typ ≡ 130 → IfOk r (λ s. AcksOn c d now s a b) → IfOk r (λ s. RowOn c d now s a b)
        → IfOk r (λ s. ReconfigOn c d now s a b) → IfOk r (λ s. AloneOn c tag d now s a b)
    alone_reconfig typ acks row made = alone_by (λ e. acks) (λ e. made) (λ is. absurd (omega (arith, is, typ))) (λ is. absurd (omega (arith, is, typ)))
        (λ is. absurd (omega (arith, is, typ))) (λ is. absurd (omega (arith, is, typ))) (λ is. absurd (omega (arith, is, typ)))
        (λ is. absurd (omega (arith, is, typ))) (λ is. absurd (omega (arith, is, typ))) (λ e. row)

-- an ERROR that is taken tells its cause
pub cause_on : (c : ChunkPlace) (d : List ℕ) (s : Step) (a b : Association) → (s ≡ Stop → ⊥) → (s ≡ Cut → ⊥)
    → b.events.peer_error ≡ cause_after (cause_in d c) a.events.peer_error → CauseOn c d s a b
cause_on c d Next a b stop cut h = h
cause_on c d Stop a b stop cut h = absurd (stop refl)
cause_on c d Cut a b stop cut h = absurd (cut refl)
cause_on c d (Refused r) a b stop cut h = tt

-- none of these types
pub plain_other : (typ : ℕ) → (typ ≡ 1 → ⊥) → (typ ≡ 2 → ⊥) → (typ ≡ 4 → ⊥) → (typ ≡ 5 → ⊥) → (typ ≡ 7 → ⊥) → (typ ≡ 9 → ⊥) → (typ ≡ 10 → ⊥)
    → (typ ≡ 130 → ⊥) → is_plain typ ≡ true
plain_other typ n1 n2 n4 n5 n7 n9 n10 n130 =
    rw (ne_eqb typ 1 n1) (rw (ne_eqb typ 2 n2) (rw (ne_eqb typ 4 n4) (rw (ne_eqb typ 5 n5) (rw (ne_eqb typ 7 n7) (rw (ne_eqb typ 9 n9)
    (rw (ne_eqb typ 10 n10) (rw (ne_eqb typ 130 n130) refl)))))))
