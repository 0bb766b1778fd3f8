-- When something is to be done though nothing comes (RFC 9260 5.1, 6.3.2, 9.2; RFC 6525 5.1.1).
use Rattle.std.specs.Prelude.{◌≡◌, ℕ, ◌-◌, ◌^◌, ◌==◌, ◌<◌, ◌≤◌, ◌⊎◌, max, Bool, true, false, not, ◌&&◌, ◌||◌, if◌then◌else◌, [], Option, Some, None, is_some}
use Rattle.std.specs.Prelude.{is_none}
use Rattle.std.specs.Option.{option_map}
use Rattle.sctp_association.specs.declared.association.Association.{Association}
use Rattle.sctp_association.specs.Sending.{is_none_of, t3_time}
use Rattle.sctp_association.specs.declared.inbound.Inbound.{Inbound}
use Rattle.sctp_handshake.specs.declared.state.State.{State}
use Rattle.sctp_handshake.specs.declared.state.State.TheVariants.{Closed, CookieWait, CookieEchoed, Established}
use Rattle.sctp_handshake.specs.declared.state.State.TheVariants.{ShutdownPending, ShutdownSent, ShutdownReceived, ShutdownAckSent}
use Rattle.sctp_handshake.specs.States.{timer}
use Rattle.sctp_outbound.specs.pending_queue.PendingQueue.{chunk_count}
use Rattle.sctp_path.specs.declared.heartbeat.Heartbeat.{Heartbeat}
use Rattle.sctp_path.specs.Heartbeats.{next_at}
use Rattle.sctp_path.specs.Timers.{earliest}
use Rattle.sctp_reset.specs.Own.{is_idle, time_of}
use Rattle.sctp_reset.specs.Requests.{Request}

-- a moment is answered, and none past that one, where that is one
abbrev pub IsBy : Option ℕ → Option ℕ → Type 0
IsBy None result = Unit {0}
IsBy (Some at) None = ⊥
IsBy (Some at) (Some r) = r ≤ at

-- nothing waits, nothing is in flight, and no handshake, shutdown or reset is under way
pub record IsQuiet (a : Association) : Type 0 where
  pub timer : timer a.machine.state ≡ None
  pub in_flight : a.outbound.sender.flight.queue.inflight.chunks ≡ []
  pub waiting : chunk_count a.outbound.sender.flight.queue.pending ≡ 0
  pub requests : is_idle a.requests ≡ true

-- nothing is to be done: the association is over, it was not begun, or it is quiet
abbrev pub IsStill : Association → Type 0
IsStill a = (a.is_over ≡ true) ⊎ ((a.machine.state ≡ Closed) ⊎ IsQuiet a)

-- ## What no timer brings

abbrev pub is_closed : State → Bool
is_closed Closed = true
is_closed CookieWait = false
is_closed CookieEchoed = false
is_closed Established = false
is_closed ShutdownPending = false
is_closed ShutdownSent = false
is_closed ShutdownReceived = false
is_closed ShutdownAckSent = false

-- nothing is in flight, and what waits, or a request to reset, can go
abbrev pub can_go : Association → Bool
can_go a = is_none_of a.outbound.sender.flight.queue.inflight.chunks
    && (not (chunk_count a.outbound.sender.flight.queue.pending == 0)
    || (is_none a.requests.under_way && not (is_idle a.requests)))

-- the timer of the state is to begin; in states without one something can go
abbrev pub is_behind : Association → Bool
is_behind a = if is_some (timer a.machine.state) then is_none a.control.at
    else not (is_closed a.machine.state) && can_go a

-- ## What leaves once at a moment

-- a time that passes the greatest moment does not come
abbrev pub comes : ℕ → Option ℕ
comes at = if at == 2 ^ 64 - 1 then None else Some at

-- it does not come, or later than now
abbrev pub IsLater : ℕ → Option ℕ → Type 0
IsLater now None = Unit {0}
IsLater now (Some at) = now < at

-- an RTO of 0 counts as a nanosecond
abbrev pub heartbeat_by : ℕ → Option Heartbeat → Option ℕ
heartbeat_by rto None = None
heartbeat_by rto (Some h) = comes (next_at (max rto 1) h)

abbrev pub heartbeat_in : State → ℕ → Option Heartbeat → Option ℕ
heartbeat_in Established rto h = heartbeat_by rto h
heartbeat_in _ rto h = None

-- when a HEARTBEAT is due (8.3)
abbrev pub heartbeat_time : Association → Option ℕ
heartbeat_time a = heartbeat_in a.machine.state a.outbound.rto.rto a.heartbeat

abbrev pub request_by : Option Request → Option ℕ
request_by None = None
request_by (Some r) = comes r.at

-- when the request to reset streams that is under way is due (RFC 6525 5.1.1)
abbrev pub request_time : Association → Option ℕ
request_time a = request_by a.requests.under_way

-- ## The next moment

-- when a SACK is due, where a packet with DATA waits for one (6.2)
abbrev pub sack_time : Option Inbound → Option ℕ
sack_time None = None
sack_time (Some i) = i.delay.due

-- when T3-rtx expires; 0 where it is to be started (6.3.2)
abbrev pub t3_of : Association → Option ℕ
t3_of a = t3_time a.outbound.sender.flight.queue.inflight.chunks a.outbound.timer.at

-- the first at which T1-init, T1-cookie, T2-shutdown, T3-rtx or T5-shutdown-guard expires, or a request to reset, a SACK or a HEARTBEAT is due
abbrev pub first_moment : Association → Option ℕ
first_moment a = earliest (earliest (earliest (earliest (earliest a.control.at (t3_of a))
    a.guard.at) (option_map time_of a.requests.under_way)) (sack_time a.inbound))
    (heartbeat_time a)

-- when something is to be done, though nothing comes: 0 where it is to be done now, and never once the association is over
abbrev pub timeout_of : Association → Option ℕ
timeout_of a =
    if a.is_over then None else (if is_behind a then Some 0 else first_moment a)
