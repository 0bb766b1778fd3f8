-- What calls of a receiver look at: bounds of their turns. A turn is one look at a TSN that is held beyond the cumulative one, at a
-- name of a FORWARD-TSN that is followed, or at a stream that it visits.
use Rattle.std.specs.Prelude.{◌≡◌, ℕ, ◌+◌, ◌*◌, ◌-◌, ◌≤◌, true, false, length, Option, Some, None}
use Rattle.sctp_data.specs.declared.chunk.chunk_payload_data.ChunkPayloadData.{ChunkPayloadData}
use Rattle.sctp_data.specs.ForwardTsn.{ForwardTsn}
use Rattle.sctp_serial.specs.Turns.{IsWithinDigits}
use Rattle.sctp_reassembly.specs.reassembly_queue.Costs.{ordered_push_looks, ordered_push_walk, FitsInOrder, Joins, JoinsAtEnd, unordered_push_looks}
use Rattle.sctp_reassembly.specs.reassembly_queue.Costs.{unordered_push_walk}
use Rattle.sctp_reassembly.specs.reassembly_queue.Orders.{digits, IsOrderly}
use Rattle.sctp_reassembly.specs.reassembly_queue.ReassemblyQueue.{ReassemblyState, held_after_ordered_push}
use Rattle.sctp_receiver.specs.declared.receiver.inbound_streams.InboundStream.{InboundStream}
use Rattle.sctp_receiver.specs.Receiver.{Reception, stream_of}
use Rattle.sctp_receiver.specs.Visited.{to_visit}

-- at most 34 turns for each of so many gap ack blocks, one more, and as many as the number of TSNs held beyond has binary digits
abbrev pub IsWithinBlocks : ℕ → ℕ → ℕ → Type 0
IsWithinBlocks blocks beyond turns = IsWithinDigits beyond (turns - 34 * blocks - 1)

-- a FORWARD-TSN that is followed by its names alone: one for each name, one for each stream that has unassembled fragments or ordered
-- messages that were not read, one for each TSN beyond that leaves, and one more
abbrev pub names_turns : ForwardTsn → Reception → Reception → ℕ
names_turns f old new =
    length f.streams + length (to_visit old.streams) + (length old.beyond - length new.beyond) + 1

-- and what no name of it covers: one more for each such stream
abbrev pub forward_turns : ForwardTsn → Reception → Reception → ℕ
forward_turns f old new = names_turns f old new + length (to_visit old.streams)

-- ## DATA: a turn is one look at a TSN that is held beyond or that leaves, at the stream, or at a set or a fragment of its queue

-- so many looks are no more than a push of the chunk takes in the queue, as that says
pub record IsWithinPush (x : ChunkPayloadData) (q : ReassemblyState) (turns : ℕ) : Type 0 where
  pub ordered : x.unordered ≡ false → IsOrderly q.held.ordered
      → IsOrderly (held_after_ordered_push x q.held).ordered → turns ≤ ordered_push_looks x q.held
  pub ordered_walk : x.unordered ≡ false → turns ≤ ordered_push_walk x q.held
  pub unordered : x.unordered ≡ true → FitsInOrder x q.held → (first last : ℕ)
      → Joins x q.held first last → turns ≤ unordered_push_looks q.held first last
  pub unordered_few : x.unordered ≡ true → FitsInOrder x q.held → (first last : ℕ)
      → JoinsAtEnd x q first last → turns ≤ digits (length q.held.unassembled) + 9
  pub unordered_walk : x.unordered ≡ true → turns ≤ unordered_push_walk q.held

-- the same of its stream, and none where that is not open
abbrev pub IsWithinPushOn : ChunkPayloadData → Option InboundStream → ℕ → Type 0
IsWithinPushOn x None turns = turns ≡ 0
IsWithinPushOn x (Some l) turns = IsWithinPush x l.queue turns

-- beside its stream's queue: three times the digits of the number of TSNs beyond, and five more, however many of them leave
abbrev pub filter_looks : Reception → ℕ
filter_looks r = 3 * digits (length r.beyond) + 5

-- and all
pub record IsWithinData (x : ChunkPayloadData) (old new : Reception) (turns : ℕ) : Type 0 where
  pub pushing : ℕ
  pub others : turns ≤ filter_looks old + pushing
  pub pushes : IsWithinPushOn x (stream_of x.stream_identifier old) pushing
