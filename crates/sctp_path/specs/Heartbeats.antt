-- Heartbeats (RFC 9260 8.3). A moment is a number of nanoseconds.
use Rattle.std.specs.Prelude.{ℕ, ◌+◌, ◌-◌, ◌==◌, if◌then◌else◌, Option, Some, None}
use Rattle.sctp_path.specs.Timers.{later}
use Rattle.sctp_path.specs.declared.heartbeat.Asked.{Asked}
use Rattle.sctp_path.specs.declared.heartbeat.Heartbeat.{Heartbeat}

-- the next one is due once the path was idle for an RTO and HB.interval
abbrev pub next_at : ℕ → Heartbeat → ℕ
next_at rto h = later h.used (rto + h.interval)

-- one was sent with this nonce; an earlier one that is not answered is forgotten
abbrev pub after_asking : ℕ → ℕ → Heartbeat → Heartbeat
after_asking now nonce h = record h { used = now; asked = Some (record { nonce = nonce; at = now }) }

-- a HEARTBEAT ACK has the nonce of the one that waits: the time since, 0 where the clock went back
abbrev pub trip_of : ℕ → ℕ → Option Asked → Option ℕ
trip_of now nonce None = None
trip_of now nonce (Some a) = if a.nonce == nonce then Some (now - a.at) else None

-- then none waits
abbrev pub asked_after : ℕ → Option Asked → Option Asked
asked_after nonce None = None
asked_after nonce (Some a) = if a.nonce == nonce then None else Some a
