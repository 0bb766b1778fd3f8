-- What is in flight, and what a SACK makes of it (RFC 4960 6.2.1).
use Rattle.std.specs.Prelude.{◌≡◌, ℕ, zero, suc, ◌+◌, ◌-◌, ◌%◌, ◌^◌, ◌<◌, Bool, false, not, ◌&&◌, ◌||◌, ◌==◌, nat_eq, nat_lt, nat_le, if◌then◌else◌, List, []}
use Rattle.std.specs.Prelude.{◌∷◌, length, map, min, max, Option, Some, None, is_some}
use Rattle.std.specs.List.{list_all, list_any, find, filter}
use Rattle.sctp_util.specs.Lists.{change_where}
use Rattle.sctp_util.specs.Serial.{distance, comes_before, at_or_before}
use Rattle.sctp_data.specs.declared.chunk.chunk_payload_data.ChunkPayloadData.{ChunkPayloadData}
use Rattle.sctp_data.specs.declared.chunk.chunk_selective_ack.GapAckBlock.{GapAckBlock}
use Rattle.sctp_data.specs.SelectiveAck.{Sack}
use Rattle.sctp_outbound.specs.Marks.{as_acknowledged, is_outstanding, with_nsent}
use Rattle.sctp_outbound.specs.outbound_queue.OutboundQueue.{Outbound, new_outbound, with_inflight, abandoned_of, has_tail, to_abandon, tsn_after_of}
use Rattle.sctp_outbound.specs.payload_queue.Blocks.{is_in_blocks}
use Rattle.sctp_outbound.specs.payload_queue.PayloadQueue.{past}
use Rattle.sctp_sender.specs.declared.sender.flight.Released.{Released}
use Rattle.sctp_sender.specs.SideBySide.{StandSideBySide, messages_in_line}
use Rattle.sctp_sender.specs.declared.sender.refusal.SenderRefusal.{SenderRefusal}
use Rattle.sctp_sender.specs.declared.sender.refusal.SenderRefusal.TheVariants.{InflightQueueTsnPop, TsnRequestNotExist}
use Rattle.sctp_outbound.specs.pending_queue.PendingQueue.{next_pending}
use Rattle.sctp_outbound.specs.pending_queue.Whole.{partially_sent}
use Rattle.sctp_serial.specs.DataChunks.{has_tsn, following_tsn, preceding_tsn, tsns}

-- what waits and what is in flight, the next TSN, and the TSN up to which all was acknowledged
pub record Flight : Type 0 where
  pub queue : Outbound
  pub next_tsn : ℕ
  pub acked_tsn : ℕ

-- so many TSNs from one on
abbrev pub tsns_from : ℕ → ℕ → List ℕ
tsns_from tsn zero = []
tsns_from tsn (suc count) = tsn ∷ tsns_from (following_tsn tsn) count

-- each TSN from the one behind the acknowledged ones to the one before the next is in flight: fewer than half the circle;
-- and the chunks of each message stand side by side
pub record IsContiguous (f : Flight) : Type 0 where
  pub in_range : f.acked_tsn < 2 ^ 32
  pub run : tsns f.queue.inflight.chunks
      ≡ tsns_from (following_tsn f.acked_tsn) (length f.queue.inflight.chunks)
  pub next : f.next_tsn ≡ (f.acked_tsn + 1 + length f.queue.inflight.chunks) % 2 ^ 32
  pub few : length f.queue.inflight.chunks < 2 ^ 31
  pub side_by_side : StandSideBySide (messages_in_line f.queue)

abbrev pub with_queue : Flight → Outbound → Flight
with_queue f queue = record f { queue = queue }

-- nothing waits, and the first TSN is the next
abbrev pub at_first : ℕ → Flight
at_first tsn = record {
  queue = new_outbound;
  next_tsn = tsn;
  acked_tsn = preceding_tsn tsn;
}

-- ## Sending

-- with room for so many more in flight
abbrev pub with_room : ℕ → Outbound → Outbound
with_room sends q = record q { inflight = record q.inflight { room = max sends q.inflight.room } }

-- a further TSN may be given out
abbrev pub may_send : Flight → Bool
may_send f = nat_lt (length f.queue.inflight.chunks + 1) (2 ^ 31)

-- the next TSN goes up where something waits
abbrev pub next_after_send : Flight → ℕ
next_after_send f =
    if is_some (next_pending f.queue.pending) then following_tsn f.next_tsn else f.next_tsn

-- in flight, and neither acknowledged nor abandoned
abbrev pub is_outstanding_in : Option ChunkPayloadData → Bool
is_outstanding_in None = false
is_outstanding_in (Some c) = is_outstanding c

abbrev pub can_resend : ℕ → Flight → Bool
can_resend tsn f = is_outstanding_in (find (has_tsn tsn) f.queue.inflight.chunks)

-- a chunk is sent once more, counted up to the greatest number of 32 bits
abbrev pub resent : ℕ → ChunkPayloadData → Flight → Flight
resent tsn c f =
    with_queue f (with_inflight f.queue (change_where (has_tsn tsn)
    (with_nsent (min (c.nsent + 1) (2 ^ 32 - 1))) f.queue.inflight.chunks))

-- ## A SACK

-- it reports the chunk: cumulatively, or in a gap ack block
abbrev pub reports : Sack → ChunkPayloadData → Bool
reports s c =
    at_or_before c.tsn s.cumulative_tsn_ack
    || is_in_blocks s.gap_ack_blocks (distance s.cumulative_tsn_ack c.tsn)

-- it reports it, and no earlier one did
abbrev pub reports_anew : Sack → ChunkPayloadData → Bool
reports_anew s c = not c.acked && reports s c

-- a later one was taken before
abbrev pub is_outdated : Sack → Flight → Bool
is_outdated s f = comes_before s.cumulative_tsn_ack f.acked_tsn

-- how many TSNs in flight it reports cumulatively
abbrev pub count_acked : Sack → Flight → ℕ
count_acked s f = distance f.acked_tsn s.cumulative_tsn_ack

-- the block reports nothing, or only what is in flight beyond the cumulative TSN
abbrev pub is_within : ℕ → GapAckBlock → Bool
is_within left b = nat_lt b.end b.start || (nat_lt 0 b.start && nat_le b.end left)

-- why it is not taken: its cumulative TSN was not given out, or a block reports other TSNs than those in flight beyond that one
abbrev pub sack_refusal : Sack → Flight → Option SenderRefusal
sack_refusal s f =
    if is_outdated s f then None else (
    if nat_lt (length f.queue.inflight.chunks) (count_acked s f) then Some InflightQueueTsnPop
    else (
    if list_all (is_within (length f.queue.inflight.chunks - count_acked s f)) s.gap_ack_blocks
    then None else Some TsnRequestNotExist
    )
    )

-- what it reports anew is acknowledged, and what it reports cumulatively is in flight no more
abbrev pub take_sack : Sack → Flight → Flight
take_sack s f =
    record f {
      queue = with_inflight f.queue
          (past s.cumulative_tsn_ack (change_where
          (reports_anew s) as_acknowledged f.queue.inflight.chunks));
      acked_tsn = s.cumulative_tsn_ack;
    }

abbrev pub after_sack : Sack → Flight → Flight
after_sack s f = if is_outdated s f then f else take_sack s f

-- it leaves the chunk unacknowledged, or of a message that is abandoned
abbrev pub leaves_open : Sack → ChunkPayloadData → Bool
leaves_open s c = c.abandoned || not (c.acked || reports s c)

-- the messages of which it leaves a chunk in flight so
abbrev pub open_messages : Sack → List ChunkPayloadData → List ℕ
open_messages s chunks = map (λ c. c.message_id) (filter (leaves_open s) chunks)

-- it is the message that is partially sent, if there is one
abbrev pub is_half : Option ℕ → ℕ → Bool
is_half None m = false
is_half (Some n) m = n == m

-- the message is acknowledged whole: none of it waits, and it leaves none of it open
abbrev pub is_whole : Sack → Flight → ℕ → Bool
is_whole s f m =
    not (is_half (partially_sent f.queue.pending) m)
    && not (list_any (nat_eq m) (open_messages s f.queue.inflight.chunks))

-- what is told of a chunk, where it is known which messages are acknowledged whole
abbrev pub released_of : (ℕ → Bool) → ChunkPayloadData → Released
released_of whole c = record {
  tsn = c.tsn;
  stream = c.stream_identifier;
  bytes = length c.user_data;
  nsent = c.nsent;
  since = c.since;
  message = c.message_id;
  is_message_acked = whole c.message_id;
  is_low = false;
}

abbrev pub released_by : Sack → Flight → List Released
released_by s f =
    if is_outdated s f then []
    else map (released_of (is_whole s f)) (filter (reports_anew s) f.queue.inflight.chunks)

-- ## Abandoning

-- the message of a TSN in flight that is to be abandoned: none where it was before
abbrev pub message_to_abandon : ℕ → Flight → Option ℕ
message_to_abandon tsn f = to_abandon (find (has_tsn tsn) f.queue.inflight.chunks)

-- some of it still waits: it needs a terminal chunk
abbrev pub has_tail_at : Flight → ℕ → Bool
has_tail_at f tsn = has_tail (message_to_abandon tsn f) f.queue

-- a message is abandoned, where there is one; its terminal chunk takes the next TSN
abbrev pub after_abandonment : Option ℕ → Flight → Flight
after_abandonment message f = record f {
  queue = abandoned_of message f.next_tsn f.queue;
  next_tsn = tsn_after_of message f.next_tsn f.queue;
}
