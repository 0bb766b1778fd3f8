-- The records that an input holds, piece by piece.
use Rattle.std.specs.Prelude.{◌≡◌, ℕ, ◌+◌, ◌<◌, ◌≤◌, ◌⊎◌, if◌then◌else◌, is_err, List, [], ◌∷◌, length, drop, Option, Some, None, IsSomeAnd, IfSome, option_to_list}
use Rattle.std.specs.List.{flat_map}
use Rattle.std.specs.Io.KnownBytes.{Keeps}
use Rattle.sctp_capture.specs.declared.record.Head.{Head}
use Rattle.sctp_capture.specs.declared.record.Record.{Record}
use Rattle.sctp_capture.specs.declared.input.Format.{Format}
use Rattle.sctp_capture.specs.declared.input.Format.TheVariants.{Lines, Capture, Blocks}
use Rattle.sctp_capture.specs.declared.blocks.Taken.{Taken}
use Rattle.sctp_capture.specs.declared.blocks.Taken.TheVariants as taken
use Rattle.sctp_util.specs.Field.{u32_at}
use Rattle.sctp_capture.specs.declared.kind.Kind.{Kind}
use Rattle.sctp_capture.specs.declared.input.ReadFault.{ReadFault}
use Rattle.sctp_capture.specs.declared.input.ReadFault.TheVariants as fault
use Rattle.sctp_capture.specs.Kind.{kind_by, IsNoOther}
use Rattle.sctp_capture.specs.Record.{IsHead, IsEntry, after_entry}
use Rattle.sctp_capture.specs.Text.{IsText}
use Rattle.sctp_capture.specs.Blocks.{Known, Piece, IsBegun, IsBlocks, IsBlock, IsEnd}

-- the format of an input, and what is left to read of it then
abbrev pub IsOpened : Format → List ℕ → Option (List ℕ) → Type 0
IsOpened Lines bytes left =
    ((h : Head) → IsHead bytes h → ⊥) × (IsBlocks bytes → ⊥) × IsNoOther bytes
    × Keeps (Some bytes) left
IsOpened (Capture h) bytes left = IsHead bytes h × Keeps (Some (drop 24 bytes)) left
IsOpened Blocks bytes left =
    ((h : Head) → IsHead bytes h → ⊥) × IsBlocks bytes × Keeps (Some bytes) left

-- the bytes begin as a file of this kind does, and as no capture that is read
abbrev pub IsOther : List ℕ → Kind → Type 0
IsOther bytes kind =
    ((h : Head) → IsHead bytes h → ⊥) × (IsBlocks bytes → ⊥) × (4 ≤ length bytes)
    × (kind_by (u32_at bytes 0) ≡ Some kind)

-- why an input of these bytes is not opened: the reader failed, there was no memory, or the bytes are of a kind that is not read
abbrev pub IsReadFault : Option (List ℕ) → ReadFault → Type 0
IsReadFault bytes (fault.Input code) = Unit {0}
IsReadFault bytes fault.Memory = Unit {0}
IsReadFault bytes (fault.Other kind) = IfSome bytes (λ xs. IsOther xs kind)

-- the piece that the bytes begin with: a line or a dump, an entry, or a block
abbrev pub IsPiece : Format → Known → List ℕ → Piece → Type 0
IsPiece Lines k bytes p = IsText bytes p.found p.left × (p.known ≡ k)
IsPiece (Capture h) k bytes p =
    IsSomeAnd p.found (IsEntry h bytes) × (p.known ≡ k) × (p.left ≡ after_entry h bytes)
IsPiece Blocks k bytes p = IsBlock k bytes p

-- the bytes are these pieces and then a rest, at which so much is known
unfoldable pub Pieces : Format → Known → List ℕ → List Piece → Known → List ℕ → Type 0
Pieces format k bytes [] after rest = (k ≡ after) × (bytes ≡ rest)
Pieces format k bytes (p ∷ ps) after rest =
    (0 < length bytes) × IsPiece format k bytes p × Pieces format p.known p.left ps after rest

abbrev pub records_of : List Piece → List Record
records_of pieces = flat_map (λ p. option_to_list p.found) pieces

-- The records of an input: the entries of a capture, those of its blocks that are records, or else its lines and dumps. They go
-- to the last byte, or to where no next block can be found; or else this stopped them.
pub record IsInput (stopped : Type 0) (bytes : List ℕ) (records : List Record) : Type 0 where
  pub format : Format
  pub body : List ℕ
  pub opened : IsOpened format bytes (Some body)
  pub begun : Known
  pub is_begun : IsBegun begun
  pub pieces : List Piece
  pub after : Known
  pub rest : List ℕ
  pub walk : Pieces format begun body pieces after rest
  pub ended : IsEnd after rest ⊎ stopped
  pub are : records ≡ records_of pieces

-- what was taken is the next piece, behind which so much is known and left; or no piece follows
abbrev pub IsTaken : Format → Known → List ℕ → Option Record → Known → Option (List ℕ) → Type 0
IsTaken format k bytes found after left =
    (p : Piece) × (0 < length bytes) × IsPiece format k bytes p × (p.found ≡ found)
    × (p.known ≡ after) × Keeps (Some p.left) left

abbrev pub Takes : Format → Known → List ℕ → Taken → Known → Option (List ℕ) → Type 0
Takes format k bytes (taken.Record r) after left = IsTaken format k bytes (Some r) after left
Takes format k bytes taken.Nothing after left = IsTaken format k bytes None after left
Takes format k bytes taken.End after left = IsEnd k bytes

-- how many pieces may follow at most: each takes a byte, but for a block behind which no other can be found
abbrev pub most_pieces : Known → List ℕ → ℕ
most_pieces k bytes = if k.is_lost then length bytes else length bytes + 1

-- a piece that was taken leaves fewer
abbrev pub Passes : Known → List ℕ → Taken → Known → Option (List ℕ) → Type 0
Passes k bytes taken.End after left = Unit {0}
Passes k bytes next after left =
    IsSomeAnd left (λ rest. most_pieces after rest < most_pieces k bytes)

-- of entries each piece is a record
abbrev pub taken_by : Option Record → Taken
taken_by (Some r) = taken.Record r
taken_by None = taken.End

-- a record that has no frame could not be read
abbrev pub unread_by : Record → ℕ
unread_by r = if is_err r.frame then 1 else 0

abbrev pub unread_in : List Record → ℕ
unread_in [] = 0
unread_in (r ∷ rs) = unread_by r + unread_in rs
