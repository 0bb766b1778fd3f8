-- When the RTO doubles, and what is counted, as time passes (RFC 9260 6.3.3 E2, 8.1, 8.3; RFC 6525 5.1.1).
use Rattle.std.specs.Prelude.{◌≡◌, ℕ, Bool, true, false, not, ◌&&◌, ◌||◌, Option, Some, None, is_some}
use Rattle.sctp_association.specs.declared.association.Association.{Association}
use Rattle.sctp_association.specs.Still.{heartbeat_in}
use Rattle.sctp_handshake.specs.declared.state.State.{State}
use Rattle.sctp_path.specs.Congestion.{Control, after_timeout}
use Rattle.sctp_path.specs.Rto.{Timeout, after_back_off}
use Rattle.sctp_path.specs.Timers.{is_due, is_passed, one_more}
use Rattle.sctp_path.specs.declared.failures.Failures.{Failures}
use Rattle.sctp_path.specs.declared.heartbeat.Heartbeat.{Heartbeat}
use Rattle.sctp_reset.specs.Own.{has_failed}

-- ## What an expiry changes

-- the RTO doubles, up to RTO.Max (6.3.3 E2)
abbrev pub doubled_where : Bool → Timeout → Timeout
doubled_where true t = after_back_off t
doubled_where false t = t

-- one failure more is counted (8.1)
abbrev pub counted_where : Bool → Failures → Failures
counted_where true f = one_more f
counted_where false f = f

-- T3-rtx expired: ssthresh and cwnd fall (7.2.3)
abbrev pub reduced_where : Bool → Control → Control
reduced_where true c = after_timeout c
reduced_where false c = c

-- ## What expires

-- the timer of the state, T1-init, T1-cookie or T2-shutdown
abbrev pub is_control_due : (now : ℕ) → Association → Bool
is_control_due now a = is_due now a.control.at

abbrev pub is_t3_due : (now : ℕ) → Association → Bool
is_t3_due now a = is_due now a.outbound.timer.at

-- a HEARTBEAT waits for its answer
abbrev pub is_awaited : Option Heartbeat → Bool
is_awaited None = false
is_awaited (Some h) = is_some h.asked

-- HEARTBEATs are due in the one state as in the other
abbrev pub IsAsIdle : (old new : State) → Type 0
IsAsIdle old new = (rto : ℕ) (h : Option Heartbeat) → heartbeat_in new rto h ≡ heartbeat_in old rto h

-- with this RTO the next HEARTBEAT is due, and the last one was not answered (8.3)
abbrev pub is_missed : (now : ℕ) → State → (rto : ℕ) → Option Heartbeat → Bool
is_missed now s rto h = is_due now (heartbeat_in s rto h) && is_awaited h

-- with this RTO: a request to reset (RFC 6525 5.1.1) or a HEARTBEAT was not answered in time
abbrev pub is_unanswered : (now rto : ℕ) → Association → Bool
is_unanswered now rto a =
    has_failed now a.requests.under_way || is_missed now a.machine.state rto a.heartbeat

-- ## The RTO and the failures, in the order in which these are looked at

-- after the timer of the state, and T3-rtx
abbrev pub rto_behind : (now : ℕ) → Association → Timeout
rto_behind now a = doubled_where (is_t3_due now a)
    (doubled_where (is_control_due now a) a.outbound.rto)

abbrev pub failures_behind : (now : ℕ) → Association → Failures
failures_behind now a = counted_where (is_t3_due now a) a.outbound.failures

-- T3-rtx expired once too often: nothing else is looked at
abbrev pub t3_fails : (now : ℕ) → Association → Bool
t3_fails now a = is_t3_due now a && is_passed (failures_behind now a)

-- what else was not answered counts once
abbrev pub counts_once : (now : ℕ) → Association → Bool
counts_once now a = not (t3_fails now a) && is_unanswered now (rto_behind now a).rto a

abbrev pub rto_after : (now : ℕ) → Association → Timeout
rto_after now a = doubled_where (counts_once now a) (rto_behind now a)

abbrev pub failures_after : (now : ℕ) → Association → Failures
failures_after now a = counted_where (counts_once now a) (failures_behind now a)
