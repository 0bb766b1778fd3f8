-- What is due again as the timer of the state expires, and when that timer runs on.
use Rattle.std.proofs.Common.{◌≡◌, ◌⊎◌, inl, inr, ℕ, Bool, true, false, Option, Some, refl, ap, sym, subst, ◌∙◌}
use Rattle.std.specs.Prelude.{◌&&◌, if◌then◌else◌, nat_lt}
use Rattle.sctp_association.specs.Again.{IsAgain, IsRunOut, IsSentAgain, RunsAgain, expired, expired_where, missed_where, run_in, stopped_where}
use Rattle.sctp_association.specs.BackOff.{IsAsIdle, doubled_where, is_awaited, is_control_due, is_missed, rto_behind}
use Rattle.sctp_association.specs.Rows.{owed_by}
use Rattle.sctp_association.specs.Timers.{guard_in}
use Rattle.sctp_association.specs.declared.association.Association.{Association}
use Rattle.sctp_association.specs.declared.config.Config.{Config}
use Rattle.sctp_association.specs.declared.due.Due.{Due}
use Rattle.sctp_association.specs.declared.outbound.Outbound.{Outbound}
use Rattle.sctp_handshake.specs.Machines.{Takes, failed}
use Rattle.sctp_handshake.specs.States.{timer}
use Rattle.sctp_handshake.specs.Timeouts.{on_timed_out, sent_again, timed_out_row}
use Rattle.sctp_handshake.specs.declared.answer.Answer.{Answer}
use Rattle.sctp_handshake.specs.declared.answer.Reply.{Reply}
use Rattle.sctp_handshake.specs.declared.answer.Reply.TheVariants as reply
use Rattle.sctp_handshake.specs.declared.machine.Machine.{Machine}
use Rattle.sctp_handshake.specs.declared.state.State.{State}
use Rattle.sctp_handshake.specs.declared.state.State.TheVariants.{Closed, CookieWait, CookieEchoed, Established}
use Rattle.sctp_handshake.specs.declared.state.State.TheVariants.{ShutdownPending, ShutdownSent, ShutdownReceived, ShutdownAckSent}
use Rattle.sctp_path.specs.Rto.{Timeout}
use Rattle.sctp_path.specs.Timers.{is_due}
use Rattle.sctp_path.specs.declared.heartbeat.Heartbeat.{Heartbeat}
use Rattle.sctp_path.specs.declared.timer.Timer.{Timer}
use Rattle.sctp_reset.specs.Own.{after_failed}

-- ## The timer of the state expires

sent-if : (b : Bool) (r : Reply) (m : Machine) → IsSentAgain (Some r) → IsSentAgain (if b then sent_again r m else failed m).answer.reply
sent-if true r m h = h
sent-if false r m h = tt

sent-row : (s : State) (m : Machine) → IsSentAgain (timed_out_row s m).answer.reply
sent-row Closed m = tt
sent-row CookieWait m = sent-if (nat_lt m.attempts m.limits.max_init_retransmits) reply.Init m tt
sent-row CookieEchoed m = sent-if (nat_lt m.attempts m.limits.max_init_retransmits) reply.CookieEcho m tt
sent-row Established m = tt
sent-row ShutdownPending m = tt
sent-row ShutdownSent m = sent-if (nat_lt m.attempts m.limits.association_max_retrans) reply.Shutdown m tt
sent-row ShutdownReceived m = tt
sent-row ShutdownAckSent m = sent-if (nat_lt m.attempts m.limits.association_max_retrans) reply.ShutdownAck m tt

-- the reply is due again
pub owed_again : (m : Machine) (n : Machine) (r : Answer) (d e : Due) → Takes (on_timed_out m) n r → (IsSentAgain r.reply → e ≡ owed_by r.reply 0 d)
    → e ≡ owed_by (on_timed_out m).answer.reply 0 d
owed_again m n r d e takes owed = owed (subst (λ (x : Answer). IsSentAgain x.reply) (sym takes.answer) (sent-row m.state m))
    ∙ ap (λ (x : Answer). owed_by x.reply 0 d) takes.answer

-- it expired, or did not
pub record Ran (now : ℕ) (a b : Association) : Type 0 where
  pub machine : b.machine ≡ (expired now a).machine
  pub due : b.due ≡ owed_by (expired now a).answer.reply 0 a.due
  pub control : b.control.at ≡ stopped_where (is_control_due now a) a.control.at
  pub rest : b ≡ record a { machine = b.machine; due = b.due; control = b.control; outbound = b.outbound }

ran-by : (now : ℕ) (a b : Association) (d : Bool) → is_control_due now a ≡ d → b.machine ≡ (expired_where d a.machine).machine
    → b.due ≡ owed_by (expired_where d a.machine).answer.reply 0 a.due → b.control.at ≡ stopped_where d a.control.at
    → b ≡ record a { machine = b.machine; due = b.due; control = b.control; outbound = b.outbound } → Ran now a b
ran-by now a b d is machine due control rest = record {
  machine = machine ∙ ap (λ (d : Bool). (expired_where d a.machine).machine) (sym is);
  due = due ∙ ap (λ (d : Bool). owed_by (expired_where d a.machine).answer.reply 0 a.due) (sym is);
  control = control ∙ ap (λ (d : Bool). stopped_where d a.control.at) (sym is);
  rest = rest;
}

pub ran_out : (now : ℕ) (a b : Association) → is_control_due now a ≡ true → IsRunOut a b → Ran now a b
ran_out now a b is h = ran-by now a b true is h.machine h.due h.control h.rest

pub ran_not : (now : ℕ) (a b : Association) → is_control_due now a ≡ false → b ≡ a → Ran now a b
ran_not now a b is same = subst (Ran now a) (sym same) (ran-by now a a false is refl refl refl refl)

-- so the RTO doubled, or did not
pub doubled_by : (b : Bool) (d : Bool) (t u : Timeout) → b ≡ d → u ≡ doubled_where d t → u ≡ doubled_where b t
doubled_by b d t u is e = e ∙ ap (λ (k : Bool). doubled_where k t) (sym is)

-- ## Then it runs on

module _ (now : ℕ) (a b s g : Association) (start : s ≡ record b { control = s.control }) (guard : g ≡ record s { guard = g.guard })
    (runs : s.control.at ≡ run_in (timer b.machine.state) now b.outbound.rto.rto b.control.at)
    (guarded : g.guard.at ≡ guard_in s.machine.state now s.config.shutdown_guard s.guard.at)
    (rto : b.outbound.rto ≡ doubled_where (is_control_due now a) a.outbound.rto) where
  all : g ≡ record b { control = s.control; guard = g.guard }
  all = subst (λ (x : Association). g ≡ record x { guard = g.guard }) start guard

  machine-same : g.machine ≡ b.machine
  machine-same = ap (λ (x : Association). x.machine) all

  runs_again : Ran now a b → RunsAgain now a g
  runs_again h = record {
    machine = machine-same ∙ h.machine;
    due = ap (λ (x : Association). x.due) all ∙ h.due;
    control = ap (λ (x : Association). x.control.at) guard ∙ runs
        ∙ ap (λ (t : Timeout). run_in (timer b.machine.state) now t.rto b.control.at) rto
        ∙ ap (λ (at : Option ℕ). run_in (timer b.machine.state) now (doubled_where (is_control_due now a) a.outbound.rto).rto at) h.control
        ∙ ap (λ (m : Machine). run_in (timer m.state) now (doubled_where (is_control_due now a) a.outbound.rto).rto
        (stopped_where (is_control_due now a) a.control.at)) (sym machine-same);
    guard = guarded ∙ ap (λ (x : Association). guard_in x.machine.state now x.config.shutdown_guard x.guard.at) start
        ∙ ap (λ (c : Config). guard_in b.machine.state now c.shutdown_guard b.guard.at) (ap (λ (x : Association). x.config) h.rest)
        ∙ ap (λ (t : Timer). guard_in b.machine.state now a.config.shutdown_guard t.at) (ap (λ (x : Association). x.guard) h.rest)
        ∙ ap (λ (m : Machine). guard_in m.state now a.config.shutdown_guard a.guard.at) (sym machine-same);
    rest = subst (λ (x : Association). x ≡ record a {
      machine = x.machine;
      due = x.due;
      control = x.control;
      guard = x.guard;
      outbound = x.outbound;
      requests = x.requests;
      heartbeat = x.heartbeat;
    })
        (sym all) (subst (λ (y : Association). record y { control = s.control; guard = g.guard }
        ≡ record a {
          machine = y.machine;
          due = y.due;
          control = s.control;
          guard = g.guard;
          outbound = y.outbound;
          requests = y.requests;
          heartbeat = y.heartbeat;
        }) (sym h.rest) refl);
  }

  pub runs_or_over : (b.is_over ≡ true) ⊎ Ran now a b → (g.is_over ≡ true) ⊎ RunsAgain now a g
  runs_or_over (inl over) = inl (ap (λ (x : Association). x.is_over) all ∙ over)
  runs_or_over (inr h) = inr (runs_again h)

-- ## Behind it the sending half, the requests and the HEARTBEATs change

-- what does not depend on these
pub again_then : (now : ℕ) (a x z : Association) → RunsAgain now a x
    → z ≡ record x { outbound = z.outbound; requests = z.requests; heartbeat = z.heartbeat } → RunsAgain now a z
again_then now a x z h rest = record {
  machine = ap (λ (y : Association). y.machine) rest ∙ h.machine;
  due = ap (λ (y : Association). y.due) rest ∙ h.due;
  control = ap (λ (y : Association). y.control.at) rest ∙ h.control
      ∙ ap (λ (y : Association). run_in (timer y.machine.state) now (doubled_where (is_control_due now a) a.outbound.rto).rto
      (stopped_where (is_control_due now a) a.control.at)) (sym rest);
  guard = ap (λ (y : Association). y.guard.at) rest ∙ h.guard
      ∙ ap (λ (y : Association). guard_in y.machine.state now a.config.shutdown_guard a.guard.at) (sym rest);
  rest = subst (λ (y : Association). y ≡ record a {
    machine = y.machine;
    due = y.due;
    control = y.control;
    guard = y.guard;
    outbound = y.outbound;
    requests = y.requests;
    heartbeat = y.heartbeat;
  }) (sym rest)
      (subst (λ (y : Association). record y { outbound = z.outbound; requests = z.requests; heartbeat = z.heartbeat }
      ≡ record a {
        machine = y.machine;
        due = y.due;
        control = y.control;
        guard = y.guard;
        outbound = z.outbound;
        requests = z.requests;
        heartbeat = z.heartbeat;
      }) (sym h.rest) refl);
}

pub is_again : (now : ℕ) (a x z : Association) (out : Outbound) → RunsAgain now a x
    → z ≡ record x { outbound = z.outbound; requests = z.requests; heartbeat = z.heartbeat } → x.requests ≡ a.requests → x.heartbeat ≡ a.heartbeat
    → IsAsIdle a.machine.state x.machine.state → out.rto ≡ rto_behind now a → z.requests ≡ after_failed now x.requests
    → z.heartbeat ≡ missed_where (is_missed now x.machine.state out.rto.rto x.heartbeat) x.heartbeat → IsAgain now a z
is_again now a x z out h rest requests heartbeat idle rto failed missed = record {
  runs = again_then now a x z h rest;
  requests = failed ∙ ap (after_failed now) requests;
  heartbeat = missed
      ∙ (ap (λ (o : Option Heartbeat). missed_where (is_missed now x.machine.state out.rto.rto o) o) heartbeat
      ∙ (ap (λ (at : Option ℕ). missed_where (is_due now at && is_awaited a.heartbeat) a.heartbeat) (idle out.rto.rto a.heartbeat)
      ∙ ap (λ (t : Timeout). missed_where (is_missed now a.machine.state t.rto a.heartbeat) a.heartbeat) rto));
}
