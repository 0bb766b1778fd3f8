-- A pending queue as callers see it.
use Rattle.std.specs.Prelude.{ℕ, ◌+◌, ◌-◌, ◌%◌, ◌^◌, ◌==◌, ◌++◌, ◌∷◌, [], List, length, max, Bool, true, false, not, ◌&&◌, nat_le, is_none, Option, Some, None}
use Rattle.std.specs.Prelude.{slice_get, if◌then◌else◌}
use Rattle.std.specs.List.{filter}
use Rattle.sctp_data.specs.declared.chunk.chunk_payload_data.ChunkPayloadData.{ChunkPayloadData}
use Rattle.sctp_data.specs.declared.chunk.chunk_payload_data.ReliabilityType.{ReliabilityType}
use Rattle.sctp_data.specs.PayloadTypes.{is_dcep}
use Rattle.sctp_data.specs.Reliability.{is_timed, deadline_at}
use Rattle.sctp_util.specs.Lists.{change_where}
use Rattle.sctp_outbound.specs.declared.pending_queue.Selected.{Selected}
use Rattle.sctp_outbound.specs.Marks.{is_of}
use Rattle.sctp_serial.specs.DataChunks.{bytes_of, is_on}

-- an ordered and an unordered list, each first in first out, the partially sent message, and how many pushes to each list take no memory
pub record Pending : Type 0 where
  pub ordered : List ChunkPayloadData
  pub unordered : List ChunkPayloadData
  pub selected : Option Selected
  pub ordered_room : ℕ
  pub unordered_room : ℕ

abbrev pub chunk_count : Pending → ℕ
chunk_count q = length q.ordered + length q.unordered

abbrev pub total_bytes : Pending → ℕ
total_bytes q = bytes_of q.ordered + bytes_of q.unordered

-- ## Push

-- the room in the list of the chunk
abbrev pub room_for : Pending → Bool → ℕ
room_for q unordered = if unordered then q.unordered_room else q.ordered_room

abbrev pub with_room : Pending → ℕ → ℕ → Pending
with_room q ordered unordered =
    record q {
      ordered_room = max ordered q.ordered_room;
      unordered_room = max unordered q.unordered_room;
    }

-- the chunk behind those of its list
abbrev pub push_pending : Pending → ChunkPayloadData → Pending
push_pending q c =
    if c.unordered then record q {
      unordered = q.unordered ++ c ∷ [];
      unordered_room = q.unordered_room - 1;
    }
    else record q { ordered = q.ordered ++ c ∷ []; ordered_room = q.ordered_room - 1 }

-- ## Peek and pop

abbrev pub list_of : Bool → Pending → List ChunkPayloadData
list_of true q = q.unordered
list_of false q = q.ordered

abbrev pub front_of : List ChunkPayloadData → List ChunkPayloadData → Option ChunkPayloadData
front_of [] ys = slice_get ys 0
front_of (x ∷ xs) ys = Some x

-- the front of the partially sent message's list; with none partially sent the unordered front, else the ordered one
abbrev pub next_pending_of : Option Selected → Pending → Option ChunkPayloadData
next_pending_of (Some s) q = slice_get (list_of s.unordered q) 0
next_pending_of None q = front_of q.unordered q.ordered

abbrev pub next_pending : Pending → Option ChunkPayloadData
next_pending q = next_pending_of q.selected q

-- whether a pop takes from the unordered list, where it takes at all
abbrev pub list_to_pop : Option Selected → Bool → Bool → Option Bool
list_to_pop (Some s) beginning unordered = Some s.unordered
list_to_pop None beginning unordered = if beginning then Some unordered else None

abbrev pub chunk_to_pop_from : Option Bool → Pending → Option ChunkPayloadData
chunk_to_pop_from None q = None
chunk_to_pop_from (Some unordered) q = slice_get (list_of unordered q) 0

abbrev pub chunk_to_pop : Bool → Bool → Pending → Option ChunkPayloadData
chunk_to_pop beginning unordered q =
    chunk_to_pop_from (list_to_pop q.selected beginning unordered) q

-- a message is partially sent from its first fragment on until its ending one
abbrev pub selected_after : Option Selected → Bool → ChunkPayloadData → Option Selected
selected_after None unordered c =
    if c.ending_fragment then None else Some
    (record { message_id = c.message_id; unordered = unordered })
selected_after (Some s) unordered c =
    if c.ending_fragment && (c.message_id == s.message_id) then None else Some s

-- without the front of a list
abbrev pub rest_of : Bool → Pending → List ChunkPayloadData → Pending
rest_of unordered q [] = q
rest_of true q (c ∷ cs) = record q { unordered = cs; selected = selected_after q.selected true c }
rest_of false q (c ∷ cs) = record q { ordered = cs; selected = selected_after q.selected false c }

abbrev pub rest_from : Option Bool → Pending → Pending
rest_from None q = q
rest_from (Some unordered) q = rest_of unordered q (list_of unordered q)

abbrev pub rest_after : Bool → Bool → Pending → Pending
rest_after beginning unordered q = rest_from (list_to_pop q.selected beginning unordered) q

-- ## Removal

abbrev pub without_message : ℕ → List ChunkPayloadData → List ChunkPayloadData
without_message message xs = filter (λ c. not (is_of message c)) xs

abbrev pub removed_bytes : ℕ → List ChunkPayloadData → ℕ
removed_bytes message xs = bytes_of (filter (is_of message) xs)

abbrev pub last_of : List ChunkPayloadData → Option ChunkPayloadData
last_of [] = None
last_of (c ∷ []) = Some c
last_of (c ∷ d ∷ ds) = last_of (d ∷ ds)

-- the ordered ones go first
abbrev pub last_removed : ℕ → Pending → Option ChunkPayloadData
last_removed message q =
    last_of (filter (is_of message) q.ordered ++ filter (is_of message) q.unordered)

-- a message that is removed is partially sent no more
abbrev pub selected_without : ℕ → Option Selected → Option Selected
selected_without message None = None
selected_without message (Some s) = if s.message_id == message then None else Some s

abbrev pub without : ℕ → Pending → Pending
without message q =
    record q {
      ordered = without_message message q.ordered;
      unordered = without_message message q.unordered;
      selected = selected_without message q.selected;
    }

-- ## Stream sequence numbers

abbrev pub one_lower : ChunkPayloadData → ChunkPayloadData
one_lower c =
    record c { stream_sequence_number = (c.stream_sequence_number + (2 ^ 16 - 1)) % 2 ^ 16 }

-- so many numbers lower, of which there are fewer than 65,536
abbrev pub lower_by : ℕ → ChunkPayloadData → ChunkPayloadData
lower_by by c =
    record c { stream_sequence_number = (c.stream_sequence_number + (2 ^ 16 - by)) % 2 ^ 16 }

-- each ordered chunk of the stream so many numbers lower
abbrev pub lowered : ℕ → ℕ → Pending → Pending
lowered stream by q =
    record q { ordered = change_where (is_on stream) (lower_by by) q.ordered }

-- each ordered chunk of the stream one number lower
abbrev pub closed_up : ℕ → Pending → Pending
closed_up stream q = record q { ordered = change_where (is_on stream) one_lower q.ordered }

-- ## Lifetimes

abbrev pub has_lifetime : Option (ReliabilityType × ℕ) → Bool
has_lifetime None = false
has_lifetime (Some r) = is_timed r.0

abbrev pub lifetime_of : Option (ReliabilityType × ℕ) → ℕ
lifetime_of None = 0
lifetime_of (Some r) = r.1

-- timed, not DCEP, without a deadline, and of a message numbered from first on
abbrev pub is_to_start : ℕ → ChunkPayloadData → Bool
is_to_start first c =
    nat_le first c.message_id && (is_none c.deadline
    && (not (is_dcep c.payload_type) && has_lifetime c.reliability))

abbrev pub with_deadline : ℕ → ChunkPayloadData → ChunkPayloadData
with_deadline now c = record c { deadline = deadline_at now (lifetime_of c.reliability) }

abbrev pub start_pending : ℕ → ℕ → Pending → Pending
start_pending first now q =
    record q {
      ordered = change_where (is_to_start first) (with_deadline now) q.ordered;
      unordered = change_where (is_to_start first) (with_deadline now) q.unordered;
    }
