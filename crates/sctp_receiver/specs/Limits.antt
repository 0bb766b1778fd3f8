-- What the limits of a receiver refuse, and what they leave of its window (RFC 4960 6.2, 3.3.4).
use Rattle.std.specs.Prelude.{ℕ, ◌+◌, ◌*◌, ◌-◌, ◌/◌, ◌^◌, ◌&&◌, Bool, nat_lt, nat_le, min, max, if◌then◌else◌, List, Option, Some, None}
use Rattle.std.specs.List.{sum_by}
use Rattle.sctp_util.specs.Serial.{distance, comes_before}
use Rattle.sctp_reassembly.specs.reassembly_queue.ReassemblyQueue.{held_chunks}
use Rattle.sctp_receiver.specs.declared.receiver.inbound_streams.InboundStream.{InboundStream}
use Rattle.sctp_receiver.specs.declared.receiver.limits.Limits.{Limits}
use Rattle.sctp_receiver.specs.declared.receiver.refusal.ReceiverRefusal.{ReceiverRefusal}
use Rattle.sctp_receiver.specs.declared.receiver.refusal.ReceiverRefusal.TheVariants.{TsnTooFar, WindowFull}
use Rattle.sctp_receiver.specs.TsnFilter.{Filter, highest_tsn}

-- what a chunk that is held counts for, beside its bytes: no less than it takes on the heap
abbrev pub chunk_cost : ℕ
chunk_cost = 400

-- what a stream holds counts for: its bytes, and the cost of each chunk
abbrev pub cost_of : InboundStream → ℕ
cost_of l = l.queue.bytes + chunk_cost * held_chunks l.queue.held

-- up to the greatest usize
abbrev pub cost_within : InboundStream → ℕ
cost_within l = min (cost_of l) (2 ^ 64 - 1)

-- and what all streams hold, up to the greatest usize
abbrev pub held_cost : List InboundStream → ℕ
held_cost ls = min (sum_by cost_of ls) (2 ^ 64 - 1)

-- past the highest TSN that came, with nothing left of the window
abbrev pub is_beyond_window : ℕ → ℕ → Filter → List InboundStream → Bool
is_beyond_window window tsn f ls =
    comes_before (highest_tsn f) tsn && nat_le window (held_cost ls)

-- why limits refuse a new TSN
abbrev pub refusal_within : Limits → ℕ → Filter → List InboundStream → Option ReceiverRefusal
refusal_within l tsn f ls =
    if nat_lt l.reach (distance f.cumulative_tsn tsn) then Some TsnTooFar
    else (if is_beyond_window l.window tsn f ls then Some WindowFull else None)

-- where there are none, nothing is refused for them
abbrev pub refusal_by : Option Limits → ℕ → Filter → List InboundStream → Option ReceiverRefusal
refusal_by None tsn f ls = None
refusal_by (Some l) tsn f ls = refusal_within l tsn f ls

-- what is left of the window, up to the greatest u32
abbrev pub window_left : Option Limits → List InboundStream → ℕ
window_left None ls = 2 ^ 32 - 1
window_left (Some l) ls = min (l.window - held_cost ls) (2 ^ 32 - 1)

-- how many fragments of so many bytes each, but the last, a message has; a fragment has some bytes
abbrev pub fragments_of : ℕ → ℕ → ℕ
fragments_of bytes fragment = (bytes + (max 1 fragment - 1)) / max 1 fragment

-- what a message of so many bytes counts for, in such fragments
abbrev pub least_window : ℕ → ℕ → ℕ
least_window bytes fragment = bytes + chunk_cost * fragments_of bytes fragment
