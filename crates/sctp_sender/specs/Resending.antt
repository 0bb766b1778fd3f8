-- Which chunks in flight are sent again (RFC 4960 6.3.3, 7.2.4; RFC 7496 3.1).
use Rattle.std.specs.Prelude.{◌≡◌, ℕ, ◌+◌, ◌-◌, ◌^◌, ◌≤◌, ◌==◌, Bool, true, false, not, ◌&&◌, ◌||◌, nat_le, nat_lt, if◌then◌else◌, List, ◌++◌, length, map, min}
use Rattle.std.specs.Prelude.{take, drop}
use Rattle.std.specs.Prelude.{Option, Some, None}
use Rattle.std.specs.List.{filter, find, list_all, list_any}
use Rattle.sctp_util.specs.Lists.{change_where}
use Rattle.sctp_util.specs.Padding.{padded_length}
use Rattle.sctp_util.specs.Serial.{distance, comes_before}
use Rattle.sctp_data.specs.PayloadTypes.{is_dcep}
use Rattle.sctp_data.specs.declared.chunk.chunk_payload_data.ChunkPayloadData.{ChunkPayloadData}
use Rattle.sctp_data.specs.declared.chunk.chunk_payload_data.ReliabilityType.{ReliabilityType}
use Rattle.sctp_data.specs.declared.chunk.chunk_payload_data.ReliabilityType.TheVariants.{Rexmit}
use Rattle.sctp_outbound.specs.Marks.{is_outstanding, with_retransmit}
use Rattle.sctp_outbound.specs.Outstanding as outstanding
use Rattle.sctp_outbound.specs.outbound_queue.OutboundQueue.{with_inflight}
use Rattle.sctp_serial.specs.DataChunks.{has_tsn}
use Rattle.sctp_sender.specs.Flight.{Flight, with_queue}

-- the same with these chunks in flight
abbrev pub with_chunks : List ChunkPayloadData → Flight → Flight
with_chunks chunks f = with_queue f (with_inflight f.queue chunks)

-- ## A chunk is sent again

-- sent so often, the last time at this moment, and marked no more
abbrev pub sent_again : ℕ → ℕ → ChunkPayloadData → ChunkPayloadData
sent_again count now c = record c { nsent = count; since = Some now; retransmit = false }

-- how often a chunk was sent after one sending more, counted up to the greatest number of 32 bits
abbrev pub count_again : ChunkPayloadData → ℕ
count_again c = min (c.nsent + 1) (2 ^ 32 - 1)

-- the chunk in flight with a TSN, which is this one, is sent once more
abbrev pub resent_at : ℕ → ℕ → ChunkPayloadData → Flight → Flight
resent_at tsn now c f =
    with_chunks
    (change_where (has_tsn tsn) (sent_again (count_again c) now) f.queue.inflight.chunks) f

-- ## Marks

-- each outstanding chunk is marked
abbrev pub all_marked : Flight → Flight
all_marked f =
    with_chunks (change_where is_outstanding (with_retransmit true) f.queue.inflight.chunks) f

-- marked, and outstanding
abbrev pub is_to_resend : ChunkPayloadData → Bool
is_to_resend c = outstanding.is_to_resend c

-- of the chunks in flight so many are not marked, from the first one on
pub record AreUnmarked (count : ℕ) (chunks : List ChunkPayloadData) : Type 0 where
  pub within : count ≤ length chunks
  pub each : list_any (λ c. c.retransmit) (take count chunks) ≡ false

-- as a DATA chunk of a packet it takes at most so many bytes: 16, and its user data with padding (RFC 9260 3.3.1)
abbrev pub fits : ℕ → ChunkPayloadData → Bool
fits room c = nat_le (16 + padded_length (length c.user_data)) room

abbrev pub if_it_fits : ℕ → Option ChunkPayloadData → Option ChunkPayloadData
if_it_fits room None = None
if_it_fits room (Some c) = if fits room c then Some c else None

-- the first chunk in flight that is marked and outstanding, if it takes at most so many bytes of a packet
abbrev pub next_within : ℕ → Flight → Option ChunkPayloadData
next_within room f = if_it_fits room (find is_to_resend f.queue.inflight.chunks)

-- ## Missing

-- how many chunks in flight have TSNs before this one: none where it is not past the acknowledged one
abbrev pub count_before : ℕ → Flight → ℕ
count_before tsn f =
    if comes_before f.acked_tsn tsn
    then min (distance f.acked_tsn tsn - 1) (length f.queue.inflight.chunks) else 0

-- outstanding, and not counted as missing three times
abbrev pub can_miss : ChunkPayloadData → Bool
can_miss c = is_outstanding c && nat_lt c.miss_indicator 3

-- counted as missing once more than so often; the third time it is marked
abbrev pub missed_after : ℕ → ChunkPayloadData → ChunkPayloadData
missed_after count c =
    record c { miss_indicator = count + 1; retransmit = (count == 2) || c.retransmit }

abbrev pub missed : ChunkPayloadData → ChunkPayloadData
missed c = missed_after c.miss_indicator c

-- each of the first so many chunks in flight that can miss is counted as missing once more
abbrev pub after_misses : ℕ → Flight → Flight
after_misses count f =
    with_chunks (change_where can_miss missed (take count f.queue.inflight.chunks)
    ++ drop count f.queue.inflight.chunks) f

-- not marked, and the next time is the third
abbrev pub is_third : ChunkPayloadData → Bool
is_third c = can_miss c && (c.miss_indicator == 2 && not c.retransmit)

-- those of the first so many that are missing for the third time, and marked by that
abbrev pub thirds : ℕ → Flight → List ChunkPayloadData
thirds count f = filter is_third (take count f.queue.inflight.chunks)

-- ## Limited retransmissions

abbrev pub limit_of : ReliabilityType → ℕ → Option ℕ
limit_of Rexmit limit = Some limit
limit_of _ value = None

-- how often a chunk may be sent after the first time, where that is limited
abbrev pub rexmit_limit : Option (ReliabilityType × ℕ) → Option ℕ
rexmit_limit None = None
rexmit_limit (Some r) = limit_of r.0 r.1

abbrev pub is_over : ℕ → Option ℕ → Bool
is_over count None = false
is_over count (Some limit) = nat_lt limit count

-- marked and outstanding, though it was sent again as often as it may be; none of a DCEP message
abbrev pub is_worn : ChunkPayloadData → Bool
is_worn c =
    is_to_resend c && (not (is_dcep c.payload_type)
    && is_over c.nsent (rexmit_limit c.reliability))

abbrev pub worn_tsns : Flight → List ℕ
worn_tsns f = map (λ c. c.tsn) (filter is_worn f.queue.inflight.chunks)

-- its TSN is one of these, if it is worn
abbrev pub is_listed : List ℕ → ChunkPayloadData → Bool
is_listed tsns c = not (is_worn c) || list_any (λ t. has_tsn t c) tsns

-- that of each worn chunk in flight is
abbrev pub are_listed : List ℕ → Flight → Bool
are_listed tsns f = list_all (is_listed tsns) f.queue.inflight.chunks
