-- Chunks in a deque.
use Rattle.std.specs.Prelude.{◌≡◌, ℕ, ◌≤◌, false, IfSome, List}
use Rattle.std.specs.List.{All}
use Rattle.sctp_data.specs.declared.chunk.chunk_payload_data.ChunkPayloadData.{ChunkPayloadData}

-- the chunks in order, and how many more take no memory
pub record Stored : Type 0 where
  pub chunks : List ChunkPayloadData
  pub room : ℕ

-- the same with these chunks
abbrev pub with_chunks : Stored → List ChunkPayloadData → Stored
with_chunks s chunks = record s { chunks = chunks }

-- the chunk is abandoned, or has no deadline before the moment
abbrev pub IsNotBefore : ℕ → ChunkPayloadData → Type 0
IsNotBefore moment c = c.abandoned ≡ false → IfSome c.deadline (λ t. moment ≤ t)

-- no chunk that is not abandoned has a deadline before the moment
abbrev pub NoneBefore : ℕ → List ChunkPayloadData → Type 0
NoneBefore moment chunks = All (IsNotBefore moment) chunks
