-- Runs of neighbours in a list of fragments.
use Rattle.std.specs.Prelude.{◌≡◌, ℕ, ◌+◌, ◌-◌, ◌%◌, ◌^◌, ◌<◌, ◌≤◌, ◌≢◌, true, false, List, length, slice_index_or}
use Rattle.sctp_data.specs.declared.chunk.chunk_payload_data.ChunkPayloadData.{ChunkPayloadData}

-- the places from first to last hold neighbours whose TSNs rise by one
abbrev pub IsRising : List ChunkPayloadData → ℕ → ℕ → Type 0
IsRising xs first last =
    (k : ℕ) (d : ChunkPayloadData) → first ≤ k → k < last → (slice_index_or xs (k + 1) d).tsn
    ≡ ((slice_index_or xs k d).tsn + 1) % 2 ^ 32

-- neighbours that make a message: the first begins, no other does, TSNs rise by one, and the last ends
pub record IsRun (xs : List ChunkPayloadData) (first count : ℕ) : Type 0 where
  pub some : 0 < count
  pub in_range : first + count ≤ length xs
  pub begins : (d : ChunkPayloadData) → (slice_index_or xs first d).beginning_fragment ≡ true
  pub no_other : (k : ℕ) (d : ChunkPayloadData) → first < k → k < first + count
      → (slice_index_or xs k d).beginning_fragment ≡ false
  pub rising : IsRising xs first (first + count - 1)
  pub ends : (d : ChunkPayloadData) → (slice_index_or xs (first + count - 1) d).ending_fragment
      ≡ true

-- the run that ends earliest
pub record IsEarliestRun (xs : List ChunkPayloadData) (first count : ℕ) : Type 0 where
  pub run : IsRun xs first count
  pub earliest : (f n : ℕ) → IsRun xs f n → first + count ≤ f + n

abbrev pub HasNoRun : List ChunkPayloadData → Type 0
HasNoRun xs = (f n : ℕ) → IsRun xs f n → ⊥

-- a run that holds the place
abbrev pub IsRunAround : List ChunkPayloadData → ℕ → ℕ → ℕ → Type 0
IsRunAround xs place first count = IsRun xs first count × (first ≤ place) × (place < first + count)

-- of the runs that hold the place the one that ends earliest
pub record IsEarliestRunAround (xs : List ChunkPayloadData) (place first count : ℕ) : Type 0 where
  pub around : IsRunAround xs place first count
  pub earliest : (f n : ℕ) → IsRunAround xs place f n → first + count ≤ f + n

abbrev pub HasNoRunAround : List ChunkPayloadData → ℕ → Type 0
HasNoRunAround xs place = (f n : ℕ) → IsRunAround xs place f n → ⊥

-- the longest stretch of neighbours that holds the place, TSNs up by one
pub record IsStretch (xs : List ChunkPayloadData) (place first last : ℕ) : Type 0 where
  pub holds_from : first ≤ place
  pub holds_to : place ≤ last
  pub in_range : last < length xs
  pub rising : IsRising xs first last
  pub starts : 0 < first → (d : ChunkPayloadData)
      → (slice_index_or xs first d).tsn ≢ ((slice_index_or xs (first - 1) d).tsn + 1) % 2 ^ 32
  pub stops : last + 1 < length xs → (d : ChunkPayloadData)
      → (slice_index_or xs (last + 1) d).tsn ≢ ((slice_index_or xs last d).tsn + 1) % 2 ^ 32
