-- What an expiry of the timer of the state has due again, and when that timer runs on (RFC 9260 5.1, 6.3.3 E2, 8.3, 9.2). Moments are nanoseconds.
use Rattle.std.specs.Prelude.{◌≡◌, ⊤, ℕ, Bool, true, false, Option, Some, None}
use Rattle.sctp_association.specs.BackOff.{doubled_where, is_control_due, is_missed, rto_behind}
use Rattle.sctp_association.specs.Rows.{owed_by}
use Rattle.sctp_association.specs.Timers.{guard_in}
use Rattle.sctp_association.specs.declared.association.Association.{Association}
use Rattle.sctp_handshake.specs.Machines.{Step, dropped}
use Rattle.sctp_handshake.specs.States.{timer}
use Rattle.sctp_handshake.specs.Timeouts.{on_timed_out}
use Rattle.sctp_handshake.specs.declared.answer.Reply.{Reply}
use Rattle.sctp_handshake.specs.declared.answer.Reply.TheVariants as reply
use Rattle.sctp_handshake.specs.declared.machine.Machine.{Machine}
use Rattle.sctp_handshake.specs.declared.state.Timer.{Timer}
use Rattle.sctp_path.specs.Timers.{started}
use Rattle.sctp_path.specs.declared.heartbeat.Heartbeat.{Heartbeat}
use Rattle.sctp_reset.specs.Own.{after_failed}

-- what an expiry of T1-init, T1-cookie or T2-shutdown sends again, if it does
abbrev pub IsSentAgain : Option Reply → Type 0
IsSentAgain None = ⊤
IsSentAgain (Some reply.Init) = ⊤
IsSentAgain (Some reply.CookieEcho) = ⊤
IsSentAgain (Some reply.Shutdown) = ⊤
IsSentAgain (Some reply.ShutdownAck) = ⊤
IsSentAgain _ = ⊥

-- where the timer of the state expires, what waits for its answer is sent again
abbrev pub expired_where : Bool → Machine → Step
expired_where true m = on_timed_out m
expired_where false m = dropped m

abbrev pub expired : (now : ℕ) → Association → Step
expired now a = expired_where (is_control_due now a) a.machine

-- a timer that expired runs no more
abbrev pub stopped_where : Bool → Option ℕ → Option ℕ
stopped_where true at = None
stopped_where false at = at

-- a state that has a timer starts it, where it does not run; a state without one stops it
abbrev pub run_in : Option Timer → (now rto : ℕ) → Option ℕ → Option ℕ
run_in None now rto at = None
run_in (Some t) now rto at = started now rto at

-- A reply is due again where the timer of the state expires, and that timer then runs for the RTO that doubled. Else it runs on. T5-shutdown-guard
-- runs in ShutdownSent. No other reply comes to be due, and all beside the sending half, the requests and the HEARTBEATs stays.
pub record RunsAgain (now : ℕ) (old new : Association) : Type 0 where
  pub machine : new.machine ≡ (expired now old).machine
  pub due : new.due ≡ owed_by (expired now old).answer.reply 0 old.due
  pub control : new.control.at ≡ run_in (timer new.machine.state) now
      (doubled_where (is_control_due now old) old.outbound.rto).rto
      (stopped_where (is_control_due now old) old.control.at)
  pub guard : new.guard.at
      ≡ guard_in new.machine.state now old.config.shutdown_guard old.guard.at
  pub rest : new ≡ record old {
    machine = new.machine;
    due = new.due;
    control = new.control;
    guard = new.guard;
    outbound = new.outbound;
    requests = new.requests;
    heartbeat = new.heartbeat;
  }

-- so it is as that timer expires: it stops, and the RTO doubles
pub record IsRunOut (old new : Association) : Type 0 where
  pub machine : new.machine ≡ (on_timed_out old.machine).machine
  pub due : new.due ≡ owed_by (on_timed_out old.machine).answer.reply 0 old.due
  pub control : new.control.at ≡ None
  pub rest : new ≡ record old {
    machine = new.machine;
    due = new.due;
    control = new.control;
    outbound = new.outbound;
  }

-- a HEARTBEAT that was not answered in time waits for its answer no more, so that it counts once (8.3)
abbrev pub missed_where : Bool → Option Heartbeat → Option Heartbeat
missed_where b None = None
missed_where false (Some h) = Some h
missed_where true (Some h) = Some (record h { asked = None })

-- so a request to reset streams counts once for each sending (RFC 6525 5.1.1)
pub record IsAgain (now : ℕ) (old new : Association) : Type 0 where
  pub runs : RunsAgain now old new
  pub requests : new.requests ≡ after_failed now old.requests
  pub heartbeat : new.heartbeat ≡ missed_where
      (is_missed now old.machine.state (rto_behind now old).rto old.heartbeat) old.heartbeat
