-- What the receiver's queues hold: functions of the record, in the queues' words.
use Rattle.std.specs.Prelude.{ℕ, Bool, ◌&&◌, List, length, map}
use Rattle.sctp_util.specs.Kept.{numbers_where}
use Rattle.sctp_util.specs.Lists.{Seen}
use Rattle.sctp_data.specs.declared.chunk.chunk_payload_data.ChunkPayloadData.{ChunkPayloadData}
use Rattle.sctp_data.specs.ChunkSet.{ChunkSet}
use Rattle.sctp_reassembly.specs.reassembly_queue.ReassemblyQueue.{Reassembly}
use Rattle.sctp_model.specs.LinkRecord.{LinkRecord}
use Rattle.sctp_model.specs.Messages.{stream_of, has_fragment}
use Rattle.sctp_model.specs.Receiver.{arrived_at, held_on}
use Rattle.sctp_model.specs.Contents.{chunk_at}
use Rattle.sctp_model.specs.Queues
use Rattle.sctp_model.specs.Queues.{set_of, complete_set_of, is_unassembled}

-- the slots of message n that arrived
abbrev pub has_come : LinkRecord → ℕ → ℕ → Bool
has_come w n place = has_fragment w n place && arrived_at w place

-- their chunks
abbrev pub chunks_come : LinkRecord → ℕ → List ChunkPayloadData
chunks_come w n = map (chunk_at w) (numbers_where (has_come w n) 0 (length w.slots))

-- the sets of the ordered messages of stream s that wait to be read
abbrev pub ordered_sets : LinkRecord → ℕ → List ChunkSet
ordered_sets w s = map (set_of w) (held_on w s)

-- the complete unordered messages of stream s
abbrev pub complete_sets : LinkRecord → ℕ → List ChunkSet
complete_sets w s = map (complete_set_of w) (stream_of w s).complete

-- the unassembled fragments of stream s
abbrev pub unassembled_chunks : LinkRecord → ℕ → List ChunkPayloadData
unassembled_chunks w s = map (chunk_at w) (numbers_where (is_unassembled w s) 0 (length w.slots))

-- what the reassembly queue of stream s holds, as the queue has it
abbrev pub reassembly_of : LinkRecord → ℕ → Reassembly
reassembly_of w s =
    record {
      next_ssn = (Queues.reassembly_of w s).next_ssn;
      ordered = (Queues.reassembly_of w s).ordered;
      unordered = (Queues.reassembly_of w s).unordered;
      unassembled = (Queues.reassembly_of w s).unassembled;
    }

-- what the filter of TSNs knows: the cumulative TSN and the TSNs held past it
abbrev pub seen_of : LinkRecord → Seen
seen_of w = record { cum = (Queues.filter_of w).cumulative; held = (Queues.filter_of w).held }
