-- Which chunks of a way are outstanding, and what acknowledges each.
use Rattle.std.specs.Prelude.{◌≡◌, ℕ, ◌+◌, Bool, false, ◌&&◌, ◌||◌, not, leb, nat_lt, if◌then◌else◌, List, length, drop, sum_by, ◌==◌, map, filter, Option, Some, None, is_some}
use Rattle.std.specs.List.{list_any}
use Rattle.sctp_util.specs.Serial.{distance, comes_before, at_or_before}
use Rattle.sctp_util.specs.Field.{u32_at}
use Rattle.sctp_chunks.specs.Framing.{type_at}
use Rattle.sctp_data.specs.declared.chunk.chunk_selective_ack.GapAckBlock.{GapAckBlock}
use Rattle.sctp_data.specs.declared.chunk.chunk_selective_ack.ChunkSelectiveAck.{ChunkSelectiveAck}
use Rattle.sctp_capture.specs.declared.record.Time.{Time}
use Rattle.sctp_show.specs.declared.time.Elapsed.{Elapsed}
use Rattle.sctp_show.specs.Time.{total_of}
use Rattle.sctp_follow.specs.Flow.{counted}
use Rattle.sctp_follow.specs.declared.packet.Arrived.{Arrived}
use Rattle.sctp_follow.specs.declared.outstanding.Sent.{Sent}
use Rattle.sctp_follow.specs.declared.outstanding.Passed.{Passed}
use Rattle.sctp_follow.specs.declared.outstanding.Sending.{Sending}
use Rattle.sctp_follow.specs.declared.outstanding.Sending.TheVariants.{First, Again, Late}
use Rattle.sctp_follow.specs.declared.outstanding.Cause.{Cause}
use Rattle.sctp_follow.specs.declared.outstanding.Cause.TheVariants.{Gap, Timer, Acknowledged}

-- a TSN that lies so far behind the cumulative TSN of a SACK is in this gap ack block
abbrev pub is_in_block : ℕ → GapAckBlock → Bool
is_in_block offset block = leb block.start offset && leb offset block.end

-- a SACK acknowledges the TSNs up to its cumulative one, and those in its gap ack blocks (RFC 9260 3.3.4)
abbrev pub acknowledges : ChunkSelectiveAck → ℕ → Bool
acknowledges sack tsn =
    at_or_before tsn sack.cumulative_tsn_ack
    || list_any (is_in_block (distance sack.cumulative_tsn_ack tsn)) sack.gap_ack_blocks.items

-- it is the first SACK that acknowledges the chunk
abbrev pub is_newly : ChunkSelectiveAck → Sent → Bool
is_newly sack sent = acknowledges sack sent.tsn && not (is_some sent.acknowledged)

-- the other chunk has a later TSN, and was sent behind this one
abbrev pub is_behind : Sent → Sent → Bool
is_behind sent other = comes_before sent.tsn other.tsn && nat_lt sent.last.number other.last.number

-- A SACK reports a chunk missing that it does not acknowledge, where it is the first one to acknowledge a later one, which was sent behind it: then it
-- counts for a fast retransmission (RFC 9260 7.2.4).
abbrev pub reports_missing : ChunkSelectiveAck → List Sent → Sent → Bool
reports_missing sack newly sent =
    not (acknowledges sack sent.tsn) && list_any (is_behind sent) newly

-- why a chunk is sent again: three SACKs reported it missing, or else its timer expired; or a SACK had acknowledged it
abbrev pub cause_of : Sent → Cause
cause_of sent =
    if is_some sent.acknowledged then Acknowledged
    else if leb 3 sent.reports then Gap
    else Timer

-- the time from the sending to the acknowledgement
abbrev pub IsRoundTrip : Sent → Option Time → Elapsed → Type 0
IsRoundTrip sent acknowledged e =
    (from : Time) × (to : Time) × (sent.first.time ≡ Some from) × (acknowledged ≡ Some to)
    × (e.is_before ≡ false) × (total_of from + e.nanoseconds ≡ total_of to)

-- ---- what was acknowledged cumulatively

-- the SACK that acknowledged a TSN so, or a later one
abbrev pub passed_with : Option Passed → ℕ → Option Arrived
passed_with None tsn = None
passed_with (Some p) tsn = if at_or_before tsn p.tsn then Some p.arrived else None

-- behind a SACK of a record: a cumulative TSN that does not go back
abbrev pub passed_after : Option Passed → ℕ → Arrived → Option Passed
passed_after passed tsn arrived =
    if is_some (passed_with passed tsn) then passed
    else Some (record { tsn = tsn; arrived = arrived })

-- what sending a chunk is, of which so much is known: acknowledged cumulatively or not, and sent before or not
abbrev pub sending_of : Option Arrived → Option Sent → Sending
sending_of (Some arrived) known = Late arrived
sending_of None (Some sent) = Again sent
sending_of None None = First

-- ---- what is known of a chunk

-- once it is sent for the first time, with so many bytes of user data, or again
abbrev pub sent_with : ℕ → ℕ → ℕ → Arrived → Option Sent → Sent
sent_with tsn stream bytes arrived None =
    record {
      tsn = tsn;
      stream = stream;
      bytes = bytes;
      first = arrived;
      last = arrived;
      sends = 1;
      reports = 0;
      acknowledged = None;
    }
sent_with tsn stream bytes arrived (Some sent) =
    record {
      tsn = sent.tsn;
      stream = sent.stream;
      bytes = sent.bytes;
      first = sent.first;
      last = arrived;
      sends = counted sent.sends 1;
      reports = 0;
      acknowledged = sent.acknowledged;
    }

-- behind a SACK of a record, the first one to acknowledge these chunks
abbrev pub after_sack : ChunkSelectiveAck → List Sent → Arrived → Sent → Sent
after_sack sack newly arrived sent =
    record {
      tsn = sent.tsn;
      stream = sent.stream;
      bytes = sent.bytes;
      first = sent.first;
      last = sent.last;
      sends = sent.sends;
      reports = if reports_missing sack newly sent then counted sent.reports 1 else sent.reports;
      acknowledged = if is_newly sack sent then Some arrived else sent.acknowledged;
    }

-- ---- which chunks are left

-- the new cumulative TSN of a FORWARD-TSN (RFC 3758 3.2) or an I-FORWARD-TSN (RFC 8260 2.3.1)
abbrev pub forward_of : List ℕ → Option ℕ
forward_of bytes =
    if leb 8 (length bytes) && ((type_at bytes == 192) || (type_at bytes == 194))
    then Some (u32_at bytes 4)
    else None

-- no SACK acknowledged the chunk
abbrev pub is_left : Sent → Bool
is_left sent = not (is_some sent.acknowledged)

-- the user data of a chunk that is outstanding: no SACK acknowledged it, neither cumulatively nor by a gap ack block
abbrev pub bytes_of : Sent → ℕ
bytes_of sent = if is_left sent then sent.bytes else 0

-- how many bytes of user data are outstanding, of these chunks
abbrev pub outstanding_bytes : List Sent → ℕ
outstanding_bytes chunks = sum_by bytes_of chunks

-- of as many chunks as are kept at most, the lowest one is let go
abbrev pub with_room : List (ℕ × Sent) → List (ℕ × Sent)
with_room entries = if leb 4096 (length entries) then drop 1 entries else entries

-- the chunk has a TSN up to this one
abbrev pub is_passed : ℕ → Sent → Bool
is_passed tsn sent = at_or_before sent.tsn tsn

-- a FORWARD-TSN abandons a chunk that no SACK acknowledged
abbrev pub is_abandoned : ℕ → Sent → Bool
is_abandoned tsn sent = is_passed tsn sent && is_left sent

-- those that a SACK does not acknowledge cumulatively
abbrev pub left_by : ChunkSelectiveAck → List Sent → Arrived → List (ℕ × Sent) → List (ℕ × Sent)
left_by sack newly arrived entries =
    map (λ e. (e.0, after_sack sack newly arrived e.1))
    (filter (λ e. not (is_passed sack.cumulative_tsn_ack e.1)) entries)
