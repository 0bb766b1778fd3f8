-- What taking a SACK looks at: a bound of its turns. A turn is one look at a gap ack block, of the SACK or of the one taken before it, at
-- a distance up to the greatest that blocks report, or at a chunk in flight.
use Rattle.std.specs.Prelude.{◌≡◌, ◌<◌, ◌≤◌, [], ℕ, zero, suc, ◌+◌, ◌*◌, ◌-◌, Bool, true, false, not, ◌&&◌, if◌then◌else◌, List, Option, length, slice_index_or}
use Rattle.std.specs.List.{count_by, filter, list_any, sum_by}
use Rattle.sctp_data.specs.declared.chunk.chunk_payload_data.ChunkPayloadData.{ChunkPayloadData}
use Rattle.sctp_data.specs.declared.chunk.chunk_selective_ack.GapAckBlock.{GapAckBlock}
use Rattle.sctp_data.specs.SelectiveAck.{Sack}
use Rattle.sctp_outbound.specs.payload_queue.Blocks.{is_in_blocks}
use Rattle.sctp_sender.specs.Flight.{Flight, reports, reports_anew}
use Rattle.sctp_sender.specs.Keeping.{answered_back, places_kept, with_restored}
use Rattle.sctp_sender.specs.Reporting.{after_blocks, ascends_from}
use Rattle.sctp_sender.specs.SideBySide.{is_number, messages_of}
use Rattle.sctp_sender.specs.Telling.{is_reached}

-- how many distances the blocks report, one by one
abbrev pub distances_in : List GapAckBlock → ℕ
distances_in blocks = sum_by (λ b. b.end + 1 - b.start) blocks

-- of so many places from one on, those that known blocks do not report; the place k is the distance k + 1
abbrev pub unknown_from : List GapAckBlock → ℕ → ℕ → ℕ
unknown_from known from zero = 0
unknown_from known from (suc many) =
    unknown_from known from many + (if is_in_blocks known (suc (from + many)) then 0 else 1)

-- of the first so many places, and of those at the distances behind them that blocks report
abbrev pub unknown_in : List GapAckBlock → ℕ → List GapAckBlock → ℕ
unknown_in known count blocks =
    unknown_from known 0 count
    + sum_by (λ b. unknown_from known (count + b.start - 1) (b.end + 1 - b.start)) blocks

-- blocks that do not ascend are sorted: so many distances are looked at
abbrev pub to_sort : List GapAckBlock → ℕ
to_sort blocks = if ascends_from 0 blocks then 0 else after_blocks blocks

-- so many of the chunks are of one of the messages
abbrev pub chunks_of : List ℕ → List ChunkPayloadData → ℕ
chunks_of messages chunks = count_by (λ m. list_any (is_number m) messages) (messages_of chunks)

-- the messages of the chunks that a SACK reports anew, one by one
abbrev pub messages_anew : Sack → List ChunkPayloadData → List ℕ
messages_anew s chunks = messages_of (filter (reports_anew s) chunks)

-- five for each block, and three for each distance up to the greatest, where they do not ascend; one for each chunk in flight that was
-- acknowledged before; three for each that the SACK reports, and three more where it does so anew; and one for each of a message of
-- which it reports a chunk anew
abbrev pub sack_turns : Sack → Flight → ℕ
sack_turns s f =
    5 * length s.gap_ack_blocks + 3 * to_sort s.gap_ack_blocks
    + count_by (λ c. c.acked) f.queue.inflight.chunks
    + 3 * count_by (reports s) f.queue.inflight.chunks
    + 3 * count_by (reports_anew s) f.queue.inflight.chunks
    + chunks_of (messages_anew s f.queue.inflight.chunks) f.queue.inflight.chunks

-- beside its blocks and what was acknowledged before, what a SACK costs goes by what it reports anew
pub record CostsByWhatIsNew : Type 0 where
  pub any : (s : Sack) (f : Flight) → sack_turns s f
      ≤ 5 * length s.gap_ack_blocks + 3 * to_sort s.gap_ack_blocks
      + 4 * count_by (λ c. c.acked) f.queue.inflight.chunks
      + 6 * count_by (reports_anew s) f.queue.inflight.chunks
      + chunks_of (messages_anew s f.queue.inflight.chunks) f.queue.inflight.chunks
  pub of_nothing_new : (s : Sack) (f : Flight) → filter (reports_anew s) f.queue.inflight.chunks ≡ []
      → sack_turns s f ≤ 5 * length s.gap_ack_blocks + 3 * to_sort s.gap_ack_blocks
      + 4 * count_by (λ c. c.acked) f.queue.inflight.chunks

-- ## Where reported chunks are kept (RFC 4960 6.2.1 D iv)

-- the chunk is acknowledged, and the SACK does not report it
abbrev pub is_left_out : Sack → ChunkPayloadData → Bool
is_left_out s c = c.acked && not (reports s c)

-- it picks the chunk at each place that is listed, is not one of the first so many, and which the blocks do not report
abbrev pub PicksLeftOut : (ChunkPayloadData → Bool) → ℕ → List GapAckBlock → List GapAckBlock
    → List ChunkPayloadData → Type 0
PicksLeftOut q count listed blocks chunks =
    (k : ℕ) (d : ChunkPayloadData) → is_in_blocks listed (suc k) ≡ true
    → is_reached count blocks k ≡ false
    → (k < length chunks) × (q (slice_index_or chunks k d) ≡ true)

-- seven for each block, and four for each distance up to the greatest, where they do not ascend; two for each chunk in flight that is
-- acknowledged, and one for each such that the SACK does not report; five for each that comes back; and one
abbrev pub take_back_turns : Sack → Flight → ℕ → ℕ
take_back_turns s f backs =
    7 * length s.gap_ack_blocks + 4 * to_sort s.gap_ack_blocks
    + 2 * count_by (λ c. c.acked) f.queue.inflight.chunks
    + count_by (is_left_out s) f.queue.inflight.chunks + 5 * backs + 1

-- what a SACK makes of what is kept: seven for each block, and six for each distance up to the greatest, where they do not ascend; three
-- for each chunk in flight that was acknowledged before, and one for each such that the SACK does not report; two for each that it
-- reports, and one more where it does so anew; and one
abbrev pub anew_turns : Sack → Flight → ℕ
anew_turns s f =
    7 * length s.gap_ack_blocks + 6 * to_sort s.gap_ack_blocks
    + 3 * count_by (λ c. c.acked) f.queue.inflight.chunks
    + count_by (is_left_out s) f.queue.inflight.chunks
    + 2 * count_by (reports s) f.queue.inflight.chunks
    + count_by (reports_anew s) f.queue.inflight.chunks + 1

-- beside `sack_turns`, where so many places come to those at which something is kept: `anew_turns`, one for each block, one for each chunk
-- in flight that the SACK reports, and two more where it does so anew, and one for each of these places
abbrev pub keeping_turns : Sack → Flight → ℕ → ℕ
keeping_turns s f places =
    anew_turns s f + length s.gap_ack_blocks + count_by (reports s) f.queue.inflight.chunks
    + 2 * count_by (reports_anew s) f.queue.inflight.chunks + places

-- a sender that takes back by a SACK what came back, and takes it then: what both cost together goes by its blocks, what was acknowledged
-- before, what it reports anew, what comes back, and the places that come to those at which something is kept
pub record CostsTogether : Type 0 where
  pub any : (s : Sack) (f g : Flight) (ks bs : List (Option (List ℕ))) → g ≡ with_restored bs f
      → take_back_turns s f (length (answered_back bs f.queue.inflight.chunks))
      + (sack_turns s g + keeping_turns s g (places_kept s g ks))
      ≤ 20 * length s.gap_ack_blocks + 13 * to_sort s.gap_ack_blocks
      + 14 * count_by (λ c. c.acked) f.queue.inflight.chunks
      + 12 * count_by (reports_anew s) g.queue.inflight.chunks
      + chunks_of (messages_anew s g.queue.inflight.chunks) g.queue.inflight.chunks
      + 5 * length (answered_back bs f.queue.inflight.chunks) + places_kept s g ks + 2
