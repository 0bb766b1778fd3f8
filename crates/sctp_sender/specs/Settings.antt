-- What is set of a sender and of its streams.
use Rattle.std.specs.Prelude.{ℕ, ◌≤◌, Bool, not, ◌||◌, if◌then◌else◌, length, map, Option, Some, None, IfSome}
use Rattle.std.specs.List.{list_any}
use Rattle.sctp_util.specs.Lists.{change_where}
use Rattle.sctp_serial.specs.DataChunks.{is_on}
use Rattle.sctp_sender.specs.declared.sender.refusal.SenderRefusal.{SenderRefusal}
use Rattle.sctp_sender.specs.declared.sender.refusal.SenderRefusal.TheVariants.{StreamUnknown, StreamBusy}
use Rattle.sctp_sender.specs.Outgoing.{has_number, with_size, with_low, from_first}
use Rattle.sctp_sender.specs.Sender.{Transmission, is_open, with_streams}

-- later writes are cut into fragments of this size, on every stream
abbrev pub with_fragment_size : ℕ → Transmission → Transmission
with_fragment_size size t =
    record t { streams = map (with_size size) t.streams; fragment_size = size }

-- what is kept of what was reported goes no farther than what is in flight
abbrev pub IsKeptWithin : Transmission → Type 0
IsKeptWithin t = IfSome t.kept (λ ks. length ks ≤ length t.flight.queue.inflight.chunks)

abbrev pub with_low_on : ℕ → ℕ → Transmission → Transmission
with_low_on s bytes t =
    with_streams (change_where (has_number s) (with_low bytes) t.streams) t

-- nothing of the stream waits or is in flight
abbrev pub is_drained : ℕ → Transmission → Bool
is_drained s t =
    not ((list_any (is_on s) t.flight.queue.pending.unordered
    || list_any (is_on s) t.flight.queue.pending.ordered)
    || list_any (is_on s) t.flight.queue.inflight.chunks)

-- the next ordered message of the stream has the number 0
abbrev pub reset_on : ℕ → Transmission → Transmission
reset_on s t = with_streams (change_where (has_number s) from_first t.streams) t

abbrev pub reset_refusal : ℕ → Transmission → Option SenderRefusal
reset_refusal s t =
    if not (is_open s t) then Some StreamUnknown
    else (if is_drained s t then None else Some StreamBusy)
