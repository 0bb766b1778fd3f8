-- Chunks in serial order, and the TSNs that they span.
use Rattle.std.specs.Prelude.{◌≡◌, ℕ, ◌^◌, ◌<◌, ◌≤◌, Bool, ◌&&◌, not, IsTrue, is_some, List, [], ◌∷◌, length, slice_index_or, if◌then◌else◌}
use Rattle.std.specs.List.{All, AllPairs, find}
use Rattle.sctp_data.specs.declared.chunk.chunk_payload_data.ChunkPayloadData.{ChunkPayloadData}
use Rattle.sctp_util.specs.Serial.{distance, comes_before, at_or_before}
use Rattle.sctp_serial.specs.DataChunks.{has_tsn}

-- each chunk comes before each later one
pub record IsSerial (chunks : List ChunkPayloadData) : Type 0 where
  pub in_range : All (λ c. c.tsn < 2 ^ 32) chunks
  pub ascending : AllPairs (λ x y. IsTrue (comes_before x.tsn y.tsn)) chunks

-- at distance 1 to 2^31 after the base
abbrev pub IsWithinHalf : ℕ → ℕ → Type 0
IsWithinHalf base tsn = (0 < distance base tsn) × (distance base tsn ≤ 2 ^ 31)

-- these chunks and a TSN all lie at distance 1 to 2^31 after the base
pub record IsWindow (base : ℕ) (chunks : List ChunkPayloadData) (tsn : ℕ) : Type 0 where
  pub base_in_range : base < 2 ^ 32
  pub number : IsWithinHalf base tsn
  pub held : All (λ c. IsWithinHalf base c.tsn) chunks

-- there is such a base
abbrev pub SpansOneWindow : List ChunkPayloadData → ℕ → Type 0
SpansOneWindow chunks tsn = (base : ℕ) × IsWindow base chunks tsn

-- the TSN where it comes before the first chunk, or there is none; else that one's
abbrev pub first_among : ℕ → List ChunkPayloadData → ℕ
first_among tsn [] = tsn
first_among tsn (c ∷ cs) = if comes_before tsn c.tsn then tsn else c.tsn

-- whether the TSN is held
abbrev pub is_held : List ChunkPayloadData → ℕ → Bool
is_held chunks tsn = is_some (find (has_tsn tsn) chunks)

-- neither held nor at or before the cumulative TSN
abbrev pub is_new : List ChunkPayloadData → ℕ → ℕ → Bool
is_new chunks tsn cumulative = not (is_held chunks tsn) && not (at_or_before tsn cumulative)

-- the chunk is held at this place, and has the TSN
pub record IsHeldAt (chunks : List ChunkPayloadData) (tsn place : ℕ)
    (chunk : ChunkPayloadData) : Type 0 where
  pub in_range : place < length chunks
  pub value : slice_index_or chunks place chunk ≡ chunk
  pub number : chunk.tsn ≡ tsn

-- a chunk with the TSN would go to this place, where all lie in one window; else the place is only in range
pub record IsPlaceFor (chunks : List ChunkPayloadData) (tsn place : ℕ) : Type 0 where
  pub in_range : place ≤ length chunks
  pub before : SpansOneWindow chunks tsn → (k : ℕ) (d : ChunkPayloadData) → k < place
      → IsTrue (comes_before (slice_index_or chunks k d).tsn tsn)
  pub after : SpansOneWindow chunks tsn → (k : ℕ) (d : ChunkPayloadData) → place ≤ k → k
      < length chunks → IsTrue (comes_before tsn (slice_index_or chunks k d).tsn)
