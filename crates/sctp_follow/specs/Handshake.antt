-- When the chunks of a handshake were seen (RFC 9260 5.1).
use Rattle.std.specs.Prelude.{◌≡◌, ℕ, ◌+◌, ◌≤◌, Bool, false, ◌&&◌, ◌==◌, nat_lt, if◌then◌else◌, List, length, Option, Some, None, is_some}
use Rattle.sctp_chunks.specs.Framing.{type_at}
use Rattle.sctp_capture.specs.declared.record.Time.{Time}
use Rattle.sctp_show.specs.declared.time.Elapsed.{Elapsed}
use Rattle.sctp_show.specs.Time.{total_of}
use Rattle.sctp_follow.specs.declared.packet.Arrived.{Arrived}
use Rattle.sctp_follow.specs.declared.handshake.Handshake.{Handshake}

-- none was seen
abbrev pub unseen : Handshake
unseen = record { init = None; init_ack = None; cookie_echo = None; cookie_ack = None }

-- with which record a chunk of a type came first, behind another chunk
abbrev pub first_of : ℕ → Option Arrived → List ℕ → Arrived → Option Arrived
first_of typ known chunk arrived =
    if is_some known then known
    else if nat_lt 0 (length chunk) && (type_at chunk == typ) then Some arrived
    else None

-- behind a chunk of the association, of either way
abbrev pub with_chunk : List ℕ → Arrived → Handshake → Handshake
with_chunk chunk arrived seen =
    record {
      init = first_of 1 seen.init chunk arrived;
      init_ack = first_of 2 seen.init_ack chunk arrived;
      cookie_echo = first_of 10 seen.cookie_echo chunk arrived;
      cookie_ack = first_of 11 seen.cookie_ack chunk arrived;
    }

-- each of its chunks was seen
abbrev pub is_complete : Handshake → Bool
is_complete seen =
    is_some seen.init && is_some seen.init_ack && is_some seen.cookie_echo
    && is_some seen.cookie_ack

-- the time of a record, if it is known
abbrev pub time_of : Option Arrived → Option Time
time_of None = None
time_of (Some arrived) = arrived.time

-- from the INIT to another chunk, where both have times, and the INIT has the earlier one
abbrev pub IsAfter : Handshake → Option Arrived → Elapsed → Type 0
IsAfter seen other e =
    (from : Time) × (to : Time) × (time_of seen.init ≡ Some from) × (time_of other ≡ Some to)
    × (e.is_before ≡ false) × (total_of from + e.nanoseconds ≡ total_of to)

-- both have times, and the INIT has no later one
abbrev pub HasAfter : Handshake → Option Arrived → Type 0
HasAfter seen other =
    (from : Time) × (to : Time) × (time_of seen.init ≡ Some from) × (time_of other ≡ Some to)
    × (total_of from ≤ total_of to)
