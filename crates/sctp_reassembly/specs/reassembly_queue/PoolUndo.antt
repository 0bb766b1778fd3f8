-- What puts unassembled fragments back as they were.
use Rattle.std.specs.Prelude.{◌≡◌, ℕ, ◌+◌, ◌-◌, ◌^◌, ◌<◌, ◌≤◌, ◌++◌, List, length, min, take, drop, remove}
use Rattle.sctp_data.specs.declared.chunk.chunk_payload_data.ChunkPayloadData.{ChunkPayloadData}
use Rattle.sctp_serial.specs.DataChunks.{bytes_of}
use Rattle.sctp_reassembly.specs.declared.reassembly_queue.pool.undo.PoolUndo.{PoolUndo}
use Rattle.sctp_reassembly.specs.declared.reassembly_queue.unassembled.InsertionUndo.{InsertionUndo}
use Rattle.sctp_reassembly.specs.declared.reassembly_queue.unassembled.Flags.{Flags}
use Rattle.sctp_reassembly.specs.reassembly_queue.Loose.{Unassembled, IsFlag, IsOrderFlag}

-- neighbours put back at a place
abbrev pub put_back : ℕ → List ChunkPayloadData → List ChunkPayloadData → List ChunkPayloadData
put_back first kept xs = take first xs ++ kept ++ drop first xs

-- those taken out are put back, and then the one put in is removed
abbrev pub insertion_undone : InsertionUndo → List ChunkPayloadData → Unassembled → Unassembled
insertion_undone u kept p =
    record {
      chunks = remove (put_back u.first kept p.chunks) u.place;
      places = u.flags.places;
    }

-- what is noted of the fragments holds of them
pub record IsNoted (m : Flags) (p : Unassembled) : Type 0 where
  pub counted : m.n_bytes ≡ min (bytes_of p.chunks) (2 ^ 64 - 1)
  pub order : IsOrderFlag m.serial p.chunks
  pub places : m.places ≡ p.places

-- both places are there, all fit without memory, and what was noted before will hold again
pub record CanUndoInsertion (u : InsertionUndo) (kept : List ChunkPayloadData) (p : Unassembled)
    : Type 0 where
  pub first : u.first ≤ length p.chunks
  pub place : u.place < length p.chunks + length kept
  pub room : length p.chunks + length kept ≤ p.places
  pub fewer : u.flags.places ≤ p.places
  pub noted : IsNoted u.flags (insertion_undone u kept p)

-- ## With the mark of a search: no run was there, where it is on

abbrev pub pool_undone : PoolUndo → List ChunkPayloadData → Unassembled → Unassembled
pool_undone u run p = insertion_undone u.put run p

pub record CanUndoPut (u : PoolUndo) (run : List ChunkPayloadData) (p : Unassembled) : Type 0 where
  pub put : CanUndoInsertion u.put run p
  pub flag : IsFlag u.searched (pool_undone u run p).chunks
