-- A payload queue as callers see it.
use Rattle.std.specs.Prelude.{◌≡◌, ℕ, ◌-◌, ◌<◌, ◌++◌, ◌∷◌, [], List, length, slice_index_or, true, false, not, Option, Some, None, if◌then◌else◌}
use Rattle.std.specs.List.{filter}
use Rattle.sctp_data.specs.declared.chunk.chunk_payload_data.ChunkPayloadData.{ChunkPayloadData}
use Rattle.sctp_util.specs.Lists.{insert_before}
use Rattle.sctp_util.specs.Serial.{at_or_before, comes_before}
use Rattle.sctp_serial.specs.DataChunks.{has_tsn, chunk_before}

-- the chunks in serial order, the duplicates in the order in which they came, and how many pushes take no memory
pub record Payload : Type 0 where
  pub chunks : List ChunkPayloadData
  pub duplicates : List ℕ
  pub room : ℕ

-- the same with these chunks
abbrev pub with_chunks : Payload → List ChunkPayloadData → Payload
with_chunks q chunks = record q { chunks = chunks }

-- with a further chunk at its place
abbrev pub push_chunk : Payload → ChunkPayloadData → Payload
push_chunk q x =
    record {
      chunks = insert_before chunk_before x q.chunks;
      duplicates = q.duplicates;
      room = q.room
          - 1;
    }

-- with a further duplicate
abbrev pub add_duplicate : Payload → ℕ → Payload
add_duplicate q tsn = record q { duplicates = q.duplicates ++ tsn ∷ [] }

-- the front chunk, if it has the TSN, and what is left without it
abbrev pub front_with : ℕ → List ChunkPayloadData → Option ChunkPayloadData
front_with tsn [] = None
front_with tsn (c ∷ cs) = if has_tsn tsn c then Some c else None

abbrev pub without_front : ℕ → List ChunkPayloadData → List ChunkPayloadData
without_front tsn [] = []
without_front tsn (c ∷ cs) = if has_tsn tsn c then cs else c ∷ cs

-- all but what has the TSN
abbrev pub without : ℕ → List ChunkPayloadData → List ChunkPayloadData
without tsn chunks = filter (λ c. not (has_tsn tsn c)) chunks

-- what is not at or before the TSN
abbrev pub past : ℕ → List ChunkPayloadData → List ChunkPayloadData
past tsn chunks = filter (λ c. not (at_or_before c.tsn tsn)) chunks

-- the last chunk is not at or before the TSN unless the first is
abbrev pub FrontGoesFirst : ℕ → List ChunkPayloadData → Type 0
FrontGoesFirst tsn chunks =
    (d : ChunkPayloadData) → at_or_before (slice_index_or chunks (length chunks - 1) d).tsn tsn
    ≡ true → at_or_before (slice_index_or chunks 0 d).tsn tsn ≡ true

-- the first chunk, where there is one, is not at or before the TSN
abbrev pub FirstStays : ℕ → List ChunkPayloadData → Type 0
FirstStays tsn chunks =
    0 < length chunks → (d : ChunkPayloadData) → at_or_before (slice_index_or chunks 0 d).tsn tsn
    ≡ false

-- the chunk at the place, where there is one, does not come before the TSN
abbrev pub IsLatestPlace : List ChunkPayloadData → ℕ → ℕ → Type 0
IsLatestPlace chunks tsn place =
    place < length chunks → (d : ChunkPayloadData)
    → comes_before (slice_index_or chunks place d).tsn tsn ≡ false
