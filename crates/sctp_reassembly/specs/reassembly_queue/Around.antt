-- Both halves of a run that holds a place.
use Rattle.std.specs.Prelude.{◌≡◌, ℕ, ◌<◌, ◌≤◌, true, false, List, length, slice_index_or}
use Rattle.sctp_data.specs.declared.chunk.chunk_payload_data.ChunkPayloadData.{ChunkPayloadData}
use Rattle.sctp_serial.specs.Runs.{IsRising}

-- such a run begins there
pub record IsStart (xs : List ChunkPayloadData) (place first : ℕ) : Type 0 where
  pub at_or_before : first ≤ place
  pub begins : (d : ChunkPayloadData) → (slice_index_or xs first d).beginning_fragment ≡ true
  pub no_other : (k : ℕ) (d : ChunkPayloadData) → first < k → k ≤ place
      → (slice_index_or xs k d).beginning_fragment ≡ false
  pub rising : IsRising xs first place

abbrev pub HasNoStart : List ChunkPayloadData → ℕ → Type 0
HasNoStart xs place = (first : ℕ) → IsStart xs place first → ⊥

-- such a run may end there
pub record IsEnd (xs : List ChunkPayloadData) (place last : ℕ) : Type 0 where
  pub at_or_after : place ≤ last
  pub in_range : last < length xs
  pub no_other : (k : ℕ) (d : ChunkPayloadData) → place < k → k ≤ last
      → (slice_index_or xs k d).beginning_fragment ≡ false
  pub rising : IsRising xs place last
  pub ends : (d : ChunkPayloadData) → (slice_index_or xs last d).ending_fragment ≡ true

-- and not before
abbrev pub IsFirstEnding : List ChunkPayloadData → ℕ → ℕ → Type 0
IsFirstEnding xs place last =
    (k : ℕ) (d : ChunkPayloadData) → place ≤ k → k < last → (slice_index_or xs k d).ending_fragment
    ≡ false

abbrev pub HasNoEnd : List ChunkPayloadData → ℕ → Type 0
HasNoEnd xs place = (last : ℕ) → IsEnd xs place last → ⊥
