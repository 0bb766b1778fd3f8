-- Chunks whose TSNs lie close behind the cumulative TSN 0.
use Rattle.std.specs.Prelude.{ℕ, ◌<◌, List}
use Rattle.std.specs.List.{All}
use Rattle.sctp_data.specs.declared.chunk.chunk_payload_data.ChunkPayloadData.{ChunkPayloadData}

-- each TSN is at least 1, and below the bound
abbrev pub AreBelow : ℕ → List ChunkPayloadData → Type 0
AreBelow bound chunks = All (λ c. (0 < c.tsn) × (c.tsn < bound)) chunks
