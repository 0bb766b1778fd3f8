-- Which stream sequence numbers can be told from those that are still to be read (RFC 1982 3.2; RFC 4960 6.5, 6.6; RFC 3758 3.6).
use Rattle.std.specs.Prelude.{ℕ, ◌+◌, ◌-◌, ◌^◌, ◌==◌, Bool, true, false, not, ◌&&◌, ◌||◌, nat_lt, nat_le, if◌then◌else◌, List, [], ◌∷◌, Option, Some, None}
use Rattle.std.specs.Prelude.{is_some}
use Rattle.sctp_util.specs.Serial.{distance16, comes_before16, at_or_before16}
use Rattle.sctp_data.specs.ChunkSet.{ChunkSet}
use Rattle.sctp_data.specs.declared.chunk.chunk_payload_data.ChunkPayloadData.{ChunkPayloadData}
use Rattle.sctp_data.specs.declared.chunk.chunk_forward_tsn.ChunkForwardTsnStream.{ChunkForwardTsnStream}
use Rattle.sctp_reassembly.specs.reassembly_queue.ReassemblyQueue.{Reassembly, front_readable}
use Rattle.sctp_receiver.specs.declared.receiver.inbound_streams.InboundStream.{InboundStream}

-- the number of the front set, where that is not after the next one, else the next one
abbrev pub lowest_among : ℕ → List ChunkSet → ℕ
lowest_among next [] = next
lowest_among next (set ∷ sets) = if at_or_before16 set.ssn next then set.ssn else next

-- the number of the ordered message that is read first of those still to be read: below the next one where complete messages wait
-- that a FORWARD-TSN went past
abbrev pub lowest_ssn : Reassembly → ℕ
lowest_ssn q = lowest_among q.next_ssn q.ordered

-- that message is complete
abbrev pub is_lowest_complete : Reassembly → Bool
is_lowest_complete q = is_some (front_readable q.next_ssn q.ordered)

-- how far past the lowest number it lies, modulo 2^16
abbrev pub ssn_distance : ℕ → Reassembly → ℕ
ssn_distance ssn q = distance16 (lowest_ssn q) ssn

-- ## DATA

-- half the circle or more
abbrev pub is_ssn_too_far : ℕ → Reassembly → Bool
is_ssn_too_far ssn q = nat_le (2 ^ 15) (ssn_distance ssn q)

-- the chunk is ordered, and its number is so on its stream, where that is open
abbrev pub is_too_far_on : ChunkPayloadData → Option InboundStream → Bool
is_too_far_on c None = false
is_too_far_on c (Some l) =
    not c.unordered && is_ssn_too_far c.stream_sequence_number l.queue.held

-- the queue keeps it, since it is not before the next number; or it lies before that from the lowest one on, so that a FORWARD-TSN
-- went past its message
abbrev pub is_kept_or_passed : ℕ → Reassembly → Bool
is_kept_or_passed ssn q =
    not (comes_before16 ssn q.next_ssn)
    || nat_lt (ssn_distance ssn q) (ssn_distance q.next_ssn q)

-- so of an ordered chunk on its stream, where that is open
abbrev pub is_kept_on : ChunkPayloadData → Option InboundStream → Bool
is_kept_on c None = true
is_kept_on c (Some l) = c.unordered || is_kept_or_passed c.stream_sequence_number l.queue.held

-- ## A name of a FORWARD-TSN

-- from half the circle on, but for the last 2^14 numbers before the lowest one, which are of old names; and one less than half
-- the circle, where the lowest message is complete: the next number would then be half the circle past it
abbrev pub is_name_too_far : ℕ → Reassembly → Bool
is_name_too_far ssn q =
    (nat_le (2 ^ 15) (ssn_distance ssn q) && nat_lt (ssn_distance ssn q) (2 ^ 15 + 2 ^ 14))
    || ((ssn_distance ssn q == 2 ^ 15 - 1) && is_lowest_complete q)

-- it is so on its stream, where that is open
abbrev pub is_named_too_far : ChunkForwardTsnStream → Option InboundStream → Bool
is_named_too_far n None = false
is_named_too_far n (Some l) = is_name_too_far n.sequence l.queue.held
