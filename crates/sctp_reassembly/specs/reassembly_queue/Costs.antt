-- What calls of a queue look at, counted in turns.
use Rattle.std.specs.Prelude.{◌≡◌, ◌⊎◌, ℕ, ◌+◌, ◌-◌, ◌*◌, ◌^◌, ◌<◌, ◌≤◌, false, length}
use Rattle.sctp_util.specs.Lists.{insert_before}
use Rattle.sctp_data.specs.declared.chunk.chunk_payload_data.ChunkPayloadData.{ChunkPayloadData}
use Rattle.sctp_reassembly.specs.reassembly_queue.Counts.{set_chunks}
use Rattle.sctp_reassembly.specs.reassembly_queue.Fragments.{chunks_of_ssn}
use Rattle.sctp_reassembly.specs.reassembly_queue.Loose.{place_among}
use Rattle.sctp_reassembly.specs.reassembly_queue.Orders.{digits}
use Rattle.sctp_reassembly.specs.reassembly_queue.ReassemblyQueue.{Reassembly, ReassemblyState}
use Rattle.sctp_serial.specs.DataChunks.{bytes_of, chunk_before}
use Rattle.sctp_serial.specs.Runs.{HasNoRun, IsStretch}
use Rattle.sctp_serial.specs.Window.{IsSerial}

-- what an ordered push looks at in orderly sets: twice the digits of their number, those of the fragments of its set, and 16 more
abbrev pub ordered_push_looks : ChunkPayloadData → Reassembly → ℕ
ordered_push_looks x q =
    2 * digits (length q.ordered)
    + digits (length (chunks_of_ssn x.stream_sequence_number q.ordered)) + 16

-- what it looks at in any sets: each set four times, each fragment of its set three times, and 16 more
abbrev pub ordered_push_walk : ChunkPayloadData → Reassembly → ℕ
ordered_push_walk x q =
    4 * length q.ordered + 3 * length (chunks_of_ssn x.stream_sequence_number q.ordered) + 16

-- what a read looks at, whatever is held: each ordered set twice, each of their fragments and each complete unordered message once, and 3 more
abbrev pub read_walk : Reassembly → ℕ
read_walk q = 2 * length q.ordered + set_chunks q.ordered + length q.unordered + 3

-- ## Unassembled fragments

-- an unordered chunk would stand in serial order with them, no message is complete among them, and all their bytes can be counted
pub record FitsInOrder (x : ChunkPayloadData) (q : Reassembly) : Type 0 where
  pub serial : IsSerial (insert_before chunk_before x q.unassembled)
  pub incomplete : HasNoRun q.unassembled
  pub bytes : bytes_of q.unassembled + length x.user_data < 2 ^ 64 - 1

-- the fragments with which it makes the longest stretch of TSNs up by one stand from one place to another, itself among them
abbrev pub Joins : ChunkPayloadData → Reassembly → ℕ → ℕ → Type 0
Joins x q first last =
    IsStretch (insert_before chunk_before x q.unassembled)
    (place_among x.tsn q.unassembled) first last

-- it stands at an end of these, and its message goes on beyond: at the back it does not end, or at the front it does not begin
abbrev pub IsAtEnd : ChunkPayloadData → ℕ → ℕ → ℕ → Type 0
IsAtEnd x place first last =
    ((last ≡ place) × (x.ending_fragment ≡ false))
    ⊎ ((first ≡ place) × (x.beginning_fragment ≡ false))

-- and with all unassembled fragments it is no longer than one message may be: so of a message that comes in order, or reversed
pub record JoinsAtEnd (x : ChunkPayloadData) (q : ReassemblyState) (first last : ℕ) : Type 0 where
  pub joins : Joins x q.held first last
  pub at_end : IsAtEnd x (place_among x.tsn q.held.unassembled) first last
  pub short : bytes_of q.held.unassembled + length x.user_data ≤ q.max_message_size

-- what its push looks at: the digits of the number of unassembled fragments, each other fragment of the stretch five times, and 17 more
abbrev pub unordered_push_looks : Reassembly → ℕ → ℕ → ℕ
unordered_push_looks q first last = digits (length q.unassembled) + 5 * (last - first) + 17

-- what it looks at whatever is held: each unassembled fragment twelve times, and 18 more
abbrev pub unordered_push_walk : Reassembly → ℕ
unordered_push_walk q = 12 * length q.unassembled + 18

-- unassembled fragments stand in serial order, no message is complete among them, and all their bytes can be counted
pub record StandsInOrder (q : Reassembly) : Type 0 where
  pub serial : IsSerial q.unassembled
  pub incomplete : HasNoRun q.unassembled
  pub bytes : bytes_of q.unassembled < 2 ^ 64 - 1

-- what their skip looks at, whatever is held: each of them six times, and one more
abbrev pub unordered_skip_walk : Reassembly → ℕ
unordered_skip_walk q = 6 * length q.unassembled + 1

-- ## Skips of ordered messages, whatever is held

-- those up to a number: each set five times, and each of their fragments twice
abbrev pub ordered_skip_walk : Reassembly → ℕ
ordered_skip_walk q = 5 * length q.ordered + 2 * set_chunks q.ordered

-- those that no number names: each set eight times, and each of their fragments four times
abbrev pub incomplete_skip_walk : Reassembly → ℕ
incomplete_skip_walk q = 8 * length q.ordered + 4 * set_chunks q.ordered
