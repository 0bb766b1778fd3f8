-- What is pending and what is in flight, as callers see it.
use Rattle.std.specs.Prelude.{◌≡◌, ℕ, zero, suc, ◌+◌, ◌-◌, ◌==◌, ◌++◌, List, [], ◌∷◌, length, map, Bool, true, false, not, ◌&&◌, ◌||◌, nat_le, Option, Some}
use Rattle.std.specs.Prelude.{None}
use Rattle.std.specs.Prelude.{if◌then◌else◌}
use Rattle.std.specs.List.{filter}
use Rattle.sctp_data.specs.PayloadTypes.{is_dcep}
use Rattle.sctp_data.specs.Reliability.{is_past}
use Rattle.sctp_data.specs.declared.chunk.chunk_payload_data.ChunkPayloadData.{ChunkPayloadData}
use Rattle.sctp_util.specs.Lists.{change_where}
use Rattle.sctp_outbound.specs.Marks.{is_of, as_abandoned}
use Rattle.sctp_outbound.specs.payload_queue.PayloadQueue as payload
use Rattle.sctp_outbound.specs.pending_queue.PendingQueue as pending
use Rattle.sctp_outbound.specs.pending_queue.Whole.{waits}
use Rattle.sctp_serial.specs.DataChunks.{bytes_of, following_tsn}

-- the queues, the number of the next message, and the number from which on lifetimes were not started
pub record Outbound : Type 0 where
  pub pending : pending.Pending
  pub inflight : payload.Payload
  pub next_message_id : ℕ
  pub next_unstarted : ℕ

-- of a new queue
abbrev pub new_outbound : Outbound
new_outbound = record {
  pending =
      record {
        ordered = [];
        unordered = [];
        selected = None;
        ordered_room = 0;
        unordered_room = 0;
      };
  inflight = record { chunks = []; duplicates = []; room = 0 };
  next_message_id = 0;
  next_unstarted = 0;
}

-- the bytes of all
abbrev pub total_bytes : Outbound → ℕ
total_bytes q = pending.total_bytes q.pending + bytes_of q.inflight.chunks

-- the same with these chunks in flight
abbrev pub with_inflight : Outbound → List ChunkPayloadData → Outbound
with_inflight q chunks = record q { inflight = payload.with_chunks q.inflight chunks }

-- ## Push

abbrev pub with_message_id : ℕ → ChunkPayloadData → ChunkPayloadData
with_message_id message c = record c { message_id = message }

-- chunks behind those of a list
abbrev pub append_chunks : Bool → List ChunkPayloadData → pending.Pending → pending.Pending
append_chunks true chunks q =
    record q {
      unordered = q.unordered ++ chunks;
      unordered_room = q.unordered_room
          - length chunks;
    }
append_chunks false chunks q =
    record q { ordered = q.ordered ++ chunks; ordered_room = q.ordered_room - length chunks }

-- a message with the next number
abbrev pub with_message : List ChunkPayloadData → Outbound → Outbound
with_message [] q = q
with_message (c ∷ cs) q =
    record q {
      pending = append_chunks c.unordered
          (map (with_message_id q.next_message_id) (c ∷ cs)) q.pending;
      next_message_id = q.next_message_id + 1;
    }

-- whether there is room for the chunks
abbrev pub has_room : List ChunkPayloadData → Outbound → Bool
has_room [] q = true
has_room (c ∷ cs) q = nat_le (length (c ∷ cs)) (pending.room_for q.pending c.unordered)

-- ## Lifetimes

-- the lifetimes of the messages pushed since the last time start
abbrev pub all_started : ℕ → Outbound → Outbound
all_started now q =
    if q.next_unstarted == q.next_message_id then q
    else record q {
      pending = pending.start_pending q.next_unstarted now q.pending;
      next_unstarted = q.next_message_id;
    }

-- ## Sending

-- the chunk with its TSN, sent once
abbrev pub as_sent : ℕ → ℕ → ChunkPayloadData → ChunkPayloadData
as_sent tsn now c = record c { tsn = tsn; since = Some now; nsent = 1 }

-- the chunk leaves its list and is in flight under the TSN
abbrev pub sent_of : Option ChunkPayloadData → Outbound → ℕ → ℕ → Outbound
sent_of None q tsn now = q
sent_of (Some c) q tsn now =
    record q {
      pending = pending.rest_after c.beginning_fragment c.unordered q.pending;
      inflight = payload.push_chunk q.inflight (as_sent tsn now c);
    }

abbrev pub sent_peeked : Outbound → ℕ → ℕ → Outbound
sent_peeked q tsn now = sent_of (pending.next_pending q.pending) q tsn now

-- lifetimes start, and the peeked chunk is sent
abbrev pub sent_next : Outbound → ℕ → ℕ → Outbound
sent_next q tsn now = sent_peeked (all_started now q) tsn now

-- the pending queue after a send, and after so many
abbrev pub taken_of : Option ChunkPayloadData → pending.Pending → pending.Pending
taken_of None q = q
taken_of (Some c) q = pending.rest_after c.beginning_fragment c.unordered q

abbrev pub after_sends : ℕ → pending.Pending → pending.Pending
after_sends zero q = q
after_sends (suc n) q = after_sends n (taken_of (pending.next_pending q) q)

-- ## Abandonment

-- an empty ending chunk under the TSN, abandoned: it stands for the tail that was never sent
abbrev pub terminal_chunk : ℕ → ChunkPayloadData → ChunkPayloadData
terminal_chunk tsn c =
    record c {
      tsn = tsn;
      beginning_fragment = false;
      ending_fragment = true;
      abandoned = true;
      retransmit = false;
      user_data = [];
    }

abbrev pub with_terminal_chunk : Option ChunkPayloadData → ℕ → payload.Payload → payload.Payload
with_terminal_chunk None tsn q = q
with_terminal_chunk (Some c) tsn q = payload.push_chunk q (terminal_chunk tsn c)

-- what is in flight of the message is abandoned, and its tail is gone but for a terminal chunk
abbrev pub abandon_chunks : ℕ → ℕ → Outbound → Outbound
abandon_chunks message tsn q =
    record q {
      pending = pending.without message q.pending;
      inflight = with_terminal_chunk (pending.last_removed message q.pending) tsn
          (payload.with_chunks q.inflight
          (change_where (is_of message) as_abandoned q.inflight.chunks));
    }

-- the TSN is taken where a tail was
abbrev pub tsn_after : ℕ → ℕ → Outbound → ℕ
tsn_after message tsn q = if waits message q.pending then following_tsn tsn else tsn

-- the message of a chunk in flight that is to be abandoned
abbrev pub to_abandon : Option ChunkPayloadData → Option ℕ
to_abandon None = None
to_abandon (Some c) = if c.abandoned then None else Some c.message_id

abbrev pub abandoned_of : Option ℕ → ℕ → Outbound → Outbound
abandoned_of None tsn q = q
abandoned_of (Some message) tsn q = abandon_chunks message tsn q

abbrev pub tsn_after_of : Option ℕ → ℕ → Outbound → ℕ
tsn_after_of None tsn q = tsn
tsn_after_of (Some message) tsn q = tsn_after message tsn q

-- whether the message that is to be abandoned has a tail
abbrev pub has_tail : Option ℕ → Outbound → Bool
has_tail None q = false
has_tail (Some message) q = waits message q.pending

-- ## Expiry

-- a first fragment past its deadline, with bytes, of no DCEP message: in front of what waits, its message is wholly unsent
abbrev pub is_expired : ℕ → ChunkPayloadData → Bool
is_expired now c =
    c.beginning_fragment && (not (length c.user_data == 0)
    && (not (is_dcep c.payload_type) && is_past now c.deadline))

-- a later fragment past its deadline, of no DCEP message
abbrev pub is_expired_tail : ℕ → ChunkPayloadData → Bool
is_expired_tail now c =
    not c.beginning_fragment && (not (is_dcep c.payload_type) && is_past now c.deadline)

-- the chunk, if it passes
abbrev pub passing : (ChunkPayloadData → Bool) → Option ChunkPayloadData → Option ChunkPayloadData
passing p None = None
passing p (Some c) = if p c then Some c else None

-- without the message of the chunk, and the later numbers of its stream closed up where it is ordered
abbrev pub expired_of : Option ChunkPayloadData → Outbound → Outbound
expired_of None q = q
expired_of (Some c) q =
    record q {
      pending = if c.unordered then pending.without c.message_id q.pending
          else pending.closed_up c.stream_identifier (pending.without c.message_id q.pending);
    }

-- the message in front, past its deadline, wholly unsent
abbrev pub expiring : ℕ → Outbound → Option ChunkPayloadData
expiring now q = passing (is_expired now) (pending.next_pending q.pending)

-- so many messages in front expire, one after another
abbrev pub expired_times : ℕ → ℕ → Outbound → Outbound
expired_times now zero q = q
expired_times now (suc n) q =
    expired_of (expiring now (expired_times now n q)) (expired_times now n q)

-- the stream of a message, and whether it is unordered
abbrev pub stream_and_kind : Option ChunkPayloadData → Option (ℕ × Bool)
stream_and_kind None = None
stream_and_kind (Some c) = Some (c.stream_identifier, c.unordered)

-- each of so many is of the stream, and unordered or not
abbrev pub AreExpiredOf : ℕ → Bool → ℕ → ℕ → Outbound → Type 0
AreExpiredOf stream unordered now zero q = Unit {0}
AreExpiredOf stream unordered now (suc n) q =
    AreExpiredOf stream unordered now n q
    × (stream_and_kind (expiring now (expired_times now n q)) ≡ Some (stream, unordered))

-- the chunk begins an expired message with this number, of the stream, and unordered or not
abbrev pub IsOfRun : ℕ → ℕ → Bool → ℕ → Option ChunkPayloadData → Type 0
IsOfRun now stream unordered message None = ⊥
IsOfRun now stream unordered message (Some c) =
    (is_expired now c ≡ true) × (c.stream_identifier ≡ stream) × (c.unordered ≡ unordered)
    × (c.message_id ≡ message)

-- the numbers of the stream closed up behind so many messages that were removed, where these were ordered
abbrev pub closed_run : ℕ → Bool → ℕ → Outbound → Outbound
closed_run stream unordered by q =
    if unordered then q else record q { pending = pending.lowered stream by q.pending }

-- the rest of a message in front, past its deadline
abbrev pub expiring_tail : ℕ → Outbound → Option ChunkPayloadData
expiring_tail now q = passing (is_expired_tail now) (pending.next_pending q.pending)

abbrev pub message_of : Option ChunkPayloadData → Option ℕ
message_of None = None
message_of (Some c) = Some c.message_id

-- a chunk in flight past its deadline that is not abandoned, and either is not acknowledged or is of a message with a tail
abbrev pub is_late : ℕ → pending.Pending → ChunkPayloadData → Bool
is_late now q c =
    not c.abandoned && (is_past now c.deadline && (not c.acked || waits c.message_id q))

abbrev pub late_tsns : ℕ → Outbound → List ℕ
late_tsns now q = map (λ c. c.tsn) (filter (is_late now q.pending) q.inflight.chunks)

-- the bytes in an answer
abbrev pub released_of : Option (ℕ × ℕ) → ℕ
released_of None = 0
released_of (Some a) = a.1

abbrev pub expired_bytes : Option (ℕ × Bool × ℕ) → ℕ
expired_bytes None = 0
expired_bytes (Some a) = a.2

abbrev pub tail_bytes : Option (ℕ × ℕ × ℕ) → ℕ
tail_bytes None = 0
tail_bytes (Some a) = a.2
