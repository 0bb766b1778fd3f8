-- Calls that end a session exist (RFC 4960 6.2, 6.3.3; RFC 3758 3.5, 3.6).
use Rattle.std.specs.Prelude.{◌≡◌, ℕ, ◌+◌, ◌*◌, ◌^◌, ◌<◌, ◌≤◌, Bool, true, false, ◌==◌, ◌&&◌, nat_le, nat_lt, List, [], length, Option, Some, None}
use Rattle.std.specs.Prelude.{◌-◌, ◌||◌, max, min, not}
use Rattle.std.specs.List.{filter, list_all, sum_by}
use Rattle.sctp_outbound.specs.declared.pending_queue.Selected.{Selected}
use Rattle.sctp_outbound.specs.Marks.{is_of}
use Rattle.sctp_outbound.specs.pending_queue.PendingQueue.{Pending, chunk_count}
use Rattle.sctp_data.specs.declared.chunk.chunk_payload_data.ChunkPayloadData.{ChunkPayloadData}
use Rattle.sctp_data.specs.SelectiveAck.{Sack}
use Rattle.sctp_receiver.specs.declared.receiver.arrival.Arrival.{Arrival}
use Rattle.sctp_receiver.specs.declared.receiver.limits.Limits.{Limits}
use Rattle.sctp_receiver.specs.declared.receiver.inbound_streams.InboundStream.{InboundStream}
use Rattle.sctp_receiver.specs.Credit.{cost_held_on, cost_of_chunks}
use Rattle.sctp_receiver.specs.Drains.{due_on}
use Rattle.sctp_receiver.specs.Limits.{chunk_cost, cost_of}
use Rattle.sctp_receiver.specs.Receiver.{Reception, filter_of}
use Rattle.sctp_receiver.specs.TsnFilter.{has_come}
use Rattle.sctp_sender.specs.declared.sender.flight.Released.{Released}
use Rattle.sctp_sender.specs.Sender.{Transmission}
use Rattle.sctp_sender.specs.SenderRuns.{held_by_sender}
use Rattle.sctp_delivery.specs.Abandoned.{EachOtherIsReadOnce, abandoned_in}
use Rattle.sctp_delivery.specs.Complete.{EachIsReadOnce, is_exhausted}
use Rattle.sctp_delivery.specs.ReceiverCalls.{takes}
use Rattle.sctp_delivery.specs.Rounds.{chunks_left}
use Rattle.sctp_delivery.specs.Sacks.{tsns_given}
use Rattle.sctp_delivery.specs.SenderCalls.{forwards, resends, sends, takes_sack}
use Rattle.sctp_delivery.specs.Session.{Call, Follows, RunsTo, Session, at_start, of_receiver, of_sender}

-- ## Sessions that can go on

-- how many chunks wait to be sent
abbrev pub chunks_waiting : Transmission → ℕ
chunks_waiting t = chunk_count t.flight.queue.pending

-- P of the messages that were abandoned and of the session, after each session that leaves a TSN for each chunk that waits: with
-- these, fewer than 2^31 are given out. The first TSN is a number of 32 bits, and fragments have some bytes
abbrev pub AfterEachSessionWithTsnsLeft : (List ℕ → Session → Type 0) → Type 0
AfterEachSessionWithTsnsLeft P =
    (tsn size max most : ℕ) (limits : Option Limits) (calls : List Call) (s : Session)
    → tsn < 2 ^ 32 → 0 < size → (run : RunsTo (at_start tsn size max most limits) calls s)
    → tsns_given (at_start tsn size max most limits) calls s run
    + chunks_waiting s.sending.sender < 2 ^ 31
    → P (abandoned_in (at_start tsn size max most limits) calls s run) s

-- what waits and what is in flight counts for: its bytes, and the cost of each chunk, as a receiver counts what it holds
abbrev pub cost_left : Transmission → ℕ
cost_left t = held_by_sender t + chunk_cost * chunks_left t

-- there are no limits; or the reach is no less than the chunks that are left, and the window is more than what they and all that is held
-- count for together
abbrev pub has_room : Option Limits → Transmission → Reception → Bool
has_room None t r = true
has_room (Some l) t r =
    nat_le (chunks_left t) l.reach
    && nat_lt (sum_by cost_of r.streams + cost_left t) l.window

-- ## A window for one message after another

-- what the chunks of a message that wait count for
abbrev pub waiting_cost : ℕ → Pending → ℕ
waiting_cost message q =
    cost_of_chunks (filter (is_of message) q.ordered)
    + cost_of_chunks (filter (is_of message) q.unordered)

-- of the partially sent message, where there is one
abbrev pub rest_cost : Option Selected → Pending → ℕ
rest_cost None q = 0
rest_cost (Some s) q = waiting_cost s.message_id q

-- what waits of each message counts for no more than that
abbrev pub each_within : ℕ → Pending → Bool
each_within most q =
    list_all (λ c. nat_le (waiting_cost c.message_id q) most) q.ordered
    && list_all (λ c. nat_le (waiting_cost c.message_id q) most) q.unordered

-- it is in flight, did not come, and is of no message that is abandoned
abbrev pub is_to_come : Reception → ChunkPayloadData → Bool
is_to_come r c = not (c.abandoned || has_come c.tsn (filter_of r))

-- what has to come before another message is begun: such chunks, and what waits of the partially sent message
abbrev pub begun_cost : Transmission → Reception → ℕ
begun_cost t r =
    cost_of_chunks (filter (is_to_come r) t.flight.queue.inflight.chunks)
    + rest_cost t.flight.queue.pending.selected t.flight.queue.pending

-- what a stream holds counts for without the messages that are to be read now, and no more than it counts
abbrev pub left_on : InboundStream → ℕ
left_on l =
    min (cost_of l)
    (cost_held_on l - sum_by (λ set. cost_of_chunks set.chunks) (due_on (Some l)))

-- there are no limits; or the reach is no less than the chunks in flight, nor than one where any waits; and the window is no less than what
-- is held, and is not to be read, and what has to come first count for together, if any has to, nor than what waits of each message. All that
-- waits may be more
abbrev pub has_window : Option Limits → Transmission → Reception → Bool
has_window None t r = true
has_window (Some l) t r =
    nat_le (max (length t.flight.queue.inflight.chunks) (min 1 (chunks_waiting t))) l.reach
    && ((begun_cost t r == 0 || nat_le (sum_by left_on r.streams + begun_cost t r) l.window)
    && each_within l.window t.flight.queue.pending)

-- so it is of the receiver, and it takes messages as long as the sender writes
abbrev pub takes_each_of : Transmission → Reception → Bool
takes_each_of t r = has_window r.limits t r && nat_le t.max_message_size r.max_message_size

-- ## The end

-- at this moment the sender sends a chunk, for the first time or again, makes a FORWARD-TSN, or takes a SACK; or it is a call of the
-- receiver. None of these writes, abandons a message, or lets one expire
abbrev pub is_delivery : ℕ → Call → Bool
is_delivery now (of_sender (sends moment)) = moment == now
is_delivery now (of_sender (resends tsn moment c)) = moment == now
is_delivery now (of_sender (forwards tsn f)) = true
is_delivery now (of_sender (takes_sack sack gone)) = true
is_delivery now (of_sender call) = false
is_delivery now (of_receiver call) = true

-- such calls, one after another, none of which is refused for a reason, lead to where nothing waits, nothing is in flight, and nothing
-- is to be read: each chunk that waited got a TSN, no more SACKs were made than chunks were left, and no more than three times as many DATA
-- chunks and FORWARD-TSNs; and each write was read exactly once, but for messages that had been abandoned
pub record CanEnd (now : ℕ) (gone : List ℕ) (s : Session) : Type 0 where
  pub calls : List Call
  pub ended : Session
  pub run : RunsTo s calls ended
  pub delivery : list_all (is_delivery now) calls ≡ true
  pub given : tsns_given s calls ended run ≡ chunks_waiting s.sending.sender
  pub written : ended.written ≡ s.written
  pub sacks : length ended.sacks ≤ length s.sacks + chunks_left s.sending.sender
  pub made : length ended.made ≤ length s.made + 3 * chunks_left s.sending.sender
  pub exhausted : is_exhausted ended.sending.sender ended.receiving.receiver ≡ true
  pub read : EachOtherIsReadOnce gone ended

-- so a session ends, at whatever moment, where the receiver takes one message after another
abbrev pub EndsWhereTaken : List ℕ → Session → Type 0
EndsWhereTaken gone s =
    takes_each_of s.sending.sender s.receiving.receiver ≡ true → (now : ℕ) → CanEnd now gone s

-- and where no message had been abandoned, each write was read exactly once then
abbrev pub EndsWithAllRead : List ℕ → Session → Type 0
EndsWithAllRead gone s =
    gone ≡ [] → takes_each_of s.sending.sender s.receiving.receiver ≡ true
    → (now : ℕ) → (e : CanEnd now gone s) × EachIsReadOnce e.ended

-- ## What a call makes

-- a call, with its arguments and its answer, leads from a session to one other alone
abbrev pub EachMakesOneStep : Type 0
EachMakesOneStep = (call : Call) (s t u : Session) → Follows call s t → Follows call s u → t ≡ u

-- the answer of a chunk that comes is settled by the receiver
abbrev pub ArrivalsAreDetermined : Type 0
ArrivalsAreDetermined =
    (c : ChunkPayloadData) (a b : Arrival) (s t u : Session) → Follows (of_receiver (takes c a)) s t
    → Follows (of_receiver (takes c b)) s u → a ≡ b

-- and what a SACK makes, with the answer of the chunks that it releases, is settled by the sender
abbrev pub ReleasesAreDetermined : Type 0
ReleasesAreDetermined =
    (sack : Sack) (gone other : List Released) (s t u : Session)
    → Follows (of_sender (takes_sack sack gone)) s t
    → Follows (of_sender (takes_sack sack other)) s u → (gone ≡ other) × (t ≡ u)
