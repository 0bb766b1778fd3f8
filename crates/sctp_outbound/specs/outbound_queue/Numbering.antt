-- Runs of calls of an outbound queue, each of which is handed the next TSN as the one before left it.
use Rattle.std.specs.Prelude.{◌≡◌, ℕ, ◌==◌, Bool, true, ◌&&◌, List, [], ◌∷◌, Option, Some, None, is_some, max, if◌then◌else◌}
use Rattle.std.specs.List.{find, list_any, filter}
use Rattle.std.specs.Option.{option_map}
use Rattle.sctp_data.specs.declared.chunk.chunk_payload_data.ChunkPayloadData.{ChunkPayloadData}
use Rattle.sctp_util.specs.Lists.{change_where}
use Rattle.sctp_serial.specs.DataChunks.{has_tsn, following_tsn}
use Rattle.sctp_outbound.specs.Marks.{as_acknowledged, is_of, is_outstanding, with_miss_indicator, with_nsent, with_retransmit, with_since}
use Rattle.sctp_outbound.specs.outbound_queue.OutboundQueue.{Outbound, new_outbound, abandoned_of, all_started, terminal_chunk, expired_of, expiring}
use Rattle.sctp_outbound.specs.outbound_queue.OutboundQueue.{expiring_tail, message_of, as_sent, sent_next, to_abandon, tsn_after_of, with_inflight}
use Rattle.sctp_outbound.specs.outbound_queue.OutboundQueue.{with_message}
use Rattle.sctp_outbound.specs.payload_queue.PayloadQueue.{without_front}
use Rattle.sctp_outbound.specs.pending_queue.PendingQueue as pending
use Rattle.sctp_outbound.specs.pending_queue.Whole.{IsMessageOrNone}

-- a call that is not refused, with its arguments but the next TSN
pub data Call : Type 0 where
  push : List ChunkPayloadData → Call
  start_timed_messages : ℕ → Call
  send_next : ℕ → Call
  abandon : ℕ → Call
  expire_pending : ℕ → Call
  expire_pending_tail : ℕ → Call
  pop : ℕ → Call
  mark_as_acked : ℕ → Call
  mark_all_to_retransmit : Call
  set_retransmit : ℕ → Bool → Call
  set_nsent : ℕ → ℕ → Call
  set_since : ℕ → Option ℕ → Call
  set_miss_indicator : ℕ → ℕ → Call
  reserve : ℕ → ℕ → Call
  reserve_inflight : ℕ → Call

-- what a push asks of its chunks
abbrev pub IsFit : Call → Type 0
IsFit (push chunks) = IsMessageOrNone chunks
IsFit _ = Unit {0}

abbrev pub AreFit : List Call → Type 0
AreFit [] = Unit {0}
AreFit (c ∷ cs) = IsFit c × AreFit cs

-- ## One call

-- the queue after a call, as the call ensures it
abbrev pub queue_after : Call → Outbound → ℕ → Outbound
queue_after (push chunks) q next = with_message chunks q
queue_after (start_timed_messages now) q next = all_started now q
queue_after (send_next now) q next = sent_next q next now
queue_after (abandon tsn) q next =
    abandoned_of (to_abandon (find (has_tsn tsn) q.inflight.chunks)) next q
queue_after (expire_pending now) q next = expired_of (expiring now q) q
queue_after (expire_pending_tail now) q next =
    abandoned_of (message_of (expiring_tail now q)) next q
queue_after (pop tsn) q next = with_inflight q (without_front tsn q.inflight.chunks)
queue_after (mark_as_acked tsn) q next =
    with_inflight q (change_where (has_tsn tsn) as_acknowledged q.inflight.chunks)
queue_after mark_all_to_retransmit q next =
    with_inflight q (change_where is_outstanding (with_retransmit true) q.inflight.chunks)
queue_after (set_retransmit tsn retransmit) q next =
    with_inflight q (change_where (has_tsn tsn) (with_retransmit retransmit) q.inflight.chunks)
queue_after (set_nsent tsn nsent) q next =
    with_inflight q (change_where (has_tsn tsn) (with_nsent nsent) q.inflight.chunks)
queue_after (set_since tsn since) q next =
    with_inflight q (change_where (has_tsn tsn) (with_since since) q.inflight.chunks)
queue_after (set_miss_indicator tsn count) q next =
    with_inflight q (change_where (has_tsn tsn) (with_miss_indicator count) q.inflight.chunks)
queue_after (reserve ordered unordered) q next =
    record q { pending = pending.with_room q.pending ordered unordered }
queue_after (reserve_inflight sends) q next =
    record q { inflight = record q.inflight { room = max sends q.inflight.room } }

-- the next TSN after a call, as the call ensures it; most calls are not handed it
abbrev pub next_after : Call → Outbound → ℕ → ℕ
next_after (send_next now) q next =
    if is_some (pending.next_pending q.pending) then following_tsn next else next
next_after (abandon tsn) q next =
    tsn_after_of (to_abandon (find (has_tsn tsn) q.inflight.chunks)) next q
next_after (expire_pending_tail now) q next = tsn_after_of (message_of (expiring_tail now q)) next q
next_after _ q next = next

-- the terminal chunk of a message that is abandoned, where it has a tail
abbrev pub terminal_chunk_of : Option ℕ → Outbound → ℕ → Option ChunkPayloadData
terminal_chunk_of None q next = None
terminal_chunk_of (Some message) q next =
    option_map (terminal_chunk next) (pending.last_removed message q.pending)

-- the chunk that a call puts in flight
abbrev pub put_by : Call → Outbound → ℕ → Option ChunkPayloadData
put_by (send_next now) q next =
    option_map (as_sent next now) (pending.next_pending (all_started now q).pending)
put_by (abandon tsn) q next =
    terminal_chunk_of (to_abandon (find (has_tsn tsn) q.inflight.chunks)) q next
put_by (expire_pending_tail now) q next =
    terminal_chunk_of (message_of (expiring_tail now q)) q next
put_by _ q next = None

-- ## A run of calls

-- the queue, the next TSN, and all that was put in flight so far, the last one first
pub record Stand : Type 0 where
  pub queue : Outbound
  pub next : ℕ
  pub put : List ChunkPayloadData

abbrev pub put_before : Option ChunkPayloadData → List ChunkPayloadData → List ChunkPayloadData
put_before None cs = cs
put_before (Some c) cs = c ∷ cs

abbrev pub after : Call → Stand → Stand
after c s =
    record {
      queue = queue_after c s.queue s.next;
      next = next_after c s.queue s.next;
      put = put_before (put_by c s.queue s.next) s.put;
    }

abbrev pub after_all : List Call → Stand → Stand
after_all [] s = s
after_all (c ∷ cs) s = after_all cs (after c s)

-- a new queue, and the first TSN
abbrev pub at_first : ℕ → Stand
at_first tsn = record {
  queue = new_outbound;
  next = tsn;
  put = [];
}

-- P after each run of calls on a new queue, whatever the first TSN
abbrev pub AfterEachRun : (Stand → Type 0) → Type 0
AfterEachRun P = (tsn : ℕ) (calls : List Call) → AreFit calls → P (after_all calls (at_first tsn))

-- ## The law

-- a chunk has the TSN behind that of the one before it, which is of its message where any was
abbrev pub StandsBehind : ChunkPayloadData → List ChunkPayloadData → Type 0
StandsBehind c [] = Unit {0}
StandsBehind c (d ∷ ds) =
    (c.tsn ≡ following_tsn d.tsn) × (list_any (is_of c.message_id) (d ∷ ds) ≡ true → d.message_id
    ≡ c.message_id)

-- each chunk stands behind those that were put in flight before it: so the chunks of one message stand side by side
abbrev pub StandInLine : List ChunkPayloadData → Type 0
StandInLine [] = Unit {0}
StandInLine (c ∷ cs) = StandsBehind c cs × StandInLine cs

-- TSNs rise by one, from the last chunk of the list to its first
abbrev pub RiseByOne : List ChunkPayloadData → Type 0
RiseByOne [] = Unit {0}
RiseByOne (c ∷ []) = Unit {0}
RiseByOne (c ∷ d ∷ ds) = (c.tsn ≡ following_tsn d.tsn) × RiseByOne (d ∷ ds)

-- the chunks of each message, its terminal chunk included, have consecutive TSNs
abbrev pub AreConsecutive : List ChunkPayloadData → Type 0
AreConsecutive put = (message : ℕ) → RiseByOne (filter (is_of message) put)

-- whether the chunk is of the message and has the TSN
abbrev pub is_at : ℕ → ℕ → ChunkPayloadData → Bool
is_at message tsn c = (c.message_id == message) && (c.tsn == tsn)

-- what is in flight was put there, as a chunk of that message, under that TSN
abbrev pub WasPut : List ChunkPayloadData → List ChunkPayloadData → Type 0
WasPut inflight put =
    (message tsn : ℕ) → list_any (is_at message tsn) inflight ≡ true
    → list_any (is_at message tsn) put ≡ true

-- the chunk that a call puts in flight is there after it
abbrev pub PutsInFlight : Type 0
PutsInFlight =
    (c : Call) (q : Outbound) (next : ℕ) (t : ChunkPayloadData) → put_by c q next ≡ Some t
    → list_any (is_at t.message_id t.tsn) (queue_after c q next).inflight.chunks ≡ true
