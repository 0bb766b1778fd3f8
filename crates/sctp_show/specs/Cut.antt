-- The chunk that the end of a frame cuts off.
use Rattle.std.specs.Prelude.{◌≡◌, ℕ, ◌-◌, List, [], ◌∷◌, ◌++◌, Bool, true, false, ◌&&◌, leb, ltb, if◌then◌else◌, length, drop, Option, Some, None}
use Rattle.sctp_util.specs.Padding.{padded_length}
use Rattle.sctp_util.specs.declared.error.Error.TheVariants.{ErrChunkHeaderNotEnoughSpace}
use Rattle.sctp_chunks.specs.Framing.{type_at, flags_at, declared_length}
use Rattle.sctp_dissect.specs.declared.dissection.RawChunk.{RawChunk}
use Rattle.sctp_dissect.specs.declared.dissection.Reading.{Reading}
use Rattle.sctp_dissect.specs.declared.dissection.Reading.TheVariants.{Strict, Raw}
use Rattle.sctp_dissect.specs.declared.dissection.Item.{Item}
use Rattle.sctp_dissect.specs.declared.dissection.Fault.{Fault}
use Rattle.sctp_dissect.specs.declared.dissection.Fault.TheVariants.{LengthPastEnd}
use Rattle.sctp_dissect.specs.declared.dissection.Dissection.{Dissection}

-- a chunk declares more bytes than there are
abbrev pub is_past_end : Option Fault → Bool
is_past_end (Some LengthPastEnd) = true
is_past_end _ = false

-- the bytes left over begin a chunk that ends among so many bytes that are missing behind them
abbrev pub ends_missing : Dissection → ℕ → Bool
ends_missing d missing =
    is_past_end d.fault && leb (declared_length d.rest - length d.rest) missing

-- what is there of a chunk that is cut off
pub record IsCut (bytes : List ℕ) (r : RawChunk) : Type 0 where
  pub typ : r.typ.0 ≡ type_at bytes
  pub flags : r.flags ≡ flags_at bytes
  pub declares : r.length ≡ declared_length bytes
  pub value : r.value ≡ drop 4 bytes
  pub refusal : r.refusal ≡ ErrChunkHeaderNotEnoughSpace

abbrev pub IsCutReading : List ℕ → Reading → Type 0
IsCutReading bytes (Strict k) = ⊥
IsCutReading bytes (Raw r) = IsCut bytes r

abbrev pub IsCutItem : List ℕ → Item → Type 0
IsCutItem bytes item = (item.bytes ≡ bytes) × IsCutReading bytes item.reading

-- what is shown where so many bytes are missing: a chunk that ends among them is one more item, and then nothing is left over
pub record WithCut (missing : ℕ) (walked d : Dissection) : Type 0 where
  pub header : d.header ≡ walked.header
  pub kept : ends_missing walked missing ≡ false → d ≡ walked
  pub cut : ends_missing walked missing ≡ true
      → (item : Item) × IsCutItem walked.rest item
      × (d.items.items ≡ walked.items.items ++ item ∷ []) × (d.rest ≡ []) × (d.fault ≡ None)

-- how many bytes of a chunk are not there, its padding included
abbrev pub missing_of : List ℕ → ℕ
missing_of bytes =
    if ltb (length bytes) 4 then 0 else padded_length (declared_length bytes) - length bytes
