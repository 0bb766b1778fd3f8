-- Unassembled fragments, out of which runs are taken.
use Rattle.std.specs.Prelude.{◌≡◌, ℕ, ◌+◌, ◌++◌, Bool, true, false, List, length, max, insert, take, drop}
use Rattle.std.specs.List.{position_or_len}
use Rattle.sctp_util.specs.Serial.{comes_before}
use Rattle.sctp_data.specs.declared.chunk.chunk_payload_data.ChunkPayloadData.{ChunkPayloadData}
use Rattle.sctp_serial.specs.Runs.{IsEarliestRun, HasNoRun}
use Rattle.sctp_serial.specs.Window.{IsSerial}

-- the fragments in order, and how many at once take no memory
pub record Unassembled : Type 0 where
  pub chunks : List ChunkPayloadData
  pub places : ℕ

-- the same with these fragments
abbrev pub with_chunks : Unassembled → List ChunkPayloadData → Unassembled
with_chunks p chunks = record p { chunks = chunks }

-- with one more, at a place
abbrev pub with_one : ℕ → ChunkPayloadData → Unassembled → Unassembled
with_one place x p =
    record {
      chunks = insert p.chunks place x;
      places = max p.places (length p.chunks + 1);
    }

-- where a number goes: before the first that it comes before, or to the end
abbrev pub place_among : ℕ → List ChunkPayloadData → ℕ
place_among tsn xs = position_or_len (λ e. comes_before tsn e.tsn) xs

-- while the mark is on there is no run; while it is off there is one, where they stand in serial order
abbrev pub IsFlag : Bool → List ChunkPayloadData → Type 0
IsFlag true xs = HasNoRun xs
IsFlag false xs = IsSerial xs → HasNoRun xs → ⊥

-- the mark is on where they stand in serial order, and only there
abbrev pub IsOrderFlag : Bool → List ChunkPayloadData → Type 0
IsOrderFlag true xs = IsSerial xs
IsOrderFlag false xs = IsSerial xs → ⊥

-- the run that ends earliest is taken out of the list
pub record IsRunTaken (xs left taken : List ChunkPayloadData) : Type 0 where
  pub first : ℕ
  pub count : ℕ
  pub run : IsEarliestRun xs first count
  pub rest : left ≡ take first xs ++ drop (first + count) xs
  pub fragments : taken ≡ take count (drop first xs)
