-- Both sides of a search that goes out from a place.
use Rattle.std.specs.Prelude.{◌≡◌, ℕ, ◌+◌, ◌<◌, ◌≤◌, true, false, List, length, slice_index_or, if◌then◌else◌}
use Rattle.sctp_data.specs.declared.chunk.chunk_payload_data.ChunkPayloadData.{ChunkPayloadData}
use Rattle.sctp_serial.specs.Runs.{IsRising}
use Rattle.sctp_reassembly.specs.declared.reassembly_queue.outward.Side.{Side}
use Rattle.sctp_reassembly.specs.reassembly_queue.Around.{IsFirstEnding}

-- from here to the place TSNs rise by one, and none behind this fragment begins
pub record IsFront (xs : List ChunkPayloadData) (place : ℕ) (s : Side) : Type 0 where
  pub at_or_before : s.place ≤ place
  pub number : (d : ChunkPayloadData) → (slice_index_or xs s.place d).tsn ≡ s.tsn
  pub begins : (d : ChunkPayloadData) → (slice_index_or xs s.place d).beginning_fragment ≡ s.done
  pub no_other : (k : ℕ) (d : ChunkPayloadData) → s.place < k → k ≤ place
      → (slice_index_or xs k d).beginning_fragment ≡ false
  pub rising : IsRising xs s.place place

-- from the place to here TSNs rise by one, none behind the place begins, and none before this fragment ends
pub record IsBack (xs : List ChunkPayloadData) (place : ℕ) (s : Side) : Type 0 where
  pub at_or_after : place ≤ s.place
  pub in_range : s.place < length xs
  pub number : (d : ChunkPayloadData) → (slice_index_or xs s.place d).tsn ≡ s.tsn
  pub ends : (d : ChunkPayloadData) → (slice_index_or xs s.place d).ending_fragment ≡ s.done
  pub no_other : (k : ℕ) (d : ChunkPayloadData) → place < k → k ≤ s.place
      → (slice_index_or xs k d).beginning_fragment ≡ false
  pub rising : IsRising xs place s.place
  pub first_ending : IsFirstEnding xs place s.place

-- one place nearer to the front, for one turn, or where the side was done nothing changes
pub record IsStepBack (old new : Side) (before after : ℕ) : Type 0 where
  pub stays : old.done ≡ true → new ≡ old
  pub moved : new.place + (if old.done then 0 else 1) ≡ old.place
  pub turns : after ≡ before + (if old.done then 0 else 1)

-- the same to the back
pub record IsStepOn (old new : Side) (before after : ℕ) : Type 0 where
  pub stays : old.done ≡ true → new ≡ old
  pub moved : new.place ≡ old.place + (if old.done then 0 else 1)
  pub turns : after ≡ before + (if old.done then 0 else 1)
