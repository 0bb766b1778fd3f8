-- The records of text, by its bytes: lines of hex text, and dumps of several lines.
use Rattle.std.specs.Prelude.{◌≡◌, ℕ, zero, suc, ◌<◌, ◌≤◌, ◌⊎◌, Bool, true, false, ◌&&◌, min, List, [], ◌++◌, length, Option, Some, None, IsSomeAnd, Ok, Err}
use Rattle.std.specs.Io.KnownBytes.{Keeps}
use Rattle.sctp_capture.specs.declared.record.Fault.TheVariants.{NotHex, TooLong, BadOffset}
use Rattle.sctp_capture.specs.declared.record.Record.{Record}
use Rattle.sctp_capture.specs.declared.lead.Lead.{Lead}
use Rattle.sctp_capture.specs.declared.blocks.Taken.{Taken}
use Rattle.sctp_capture.specs.declared.blocks.Taken.TheVariants as taken
use Rattle.sctp_capture.specs.Lead.{no_lead}
use Rattle.sctp_capture.specs.Preamble.{preamble_of}
use Rattle.sctp_capture.specs.Record.{line_in, after_line, IsLineFound}
use Rattle.sctp_capture.specs.Dump.{is_dump, goes_on, says_offset, bytes_in}

-- ---- dumps

-- the text behind so many lines
unfoldable pub after_lines : ℕ → List ℕ → List ℕ
after_lines zero text = text
after_lines (suc n) text = after_line (after_lines n text)

-- how many bytes are looked for in a line behind so many: as many as the first one has, and in that one 256
unfoldable pub width_by : ℕ → List ℕ → ℕ
width_by zero text = 256
width_by (suc n) text = min (length (bytes_in 256 (line_in text))) 256

-- the bytes of so many lines
unfoldable pub said_by : ℕ → List ℕ → List ℕ
said_by zero text = []
said_by (suc n) text =
    said_by n text ++ bytes_in (width_by n text) (line_in (after_lines n text))

-- the offset of each of so many lines is how many bytes stand before it
unfoldable pub are_right : ℕ → List ℕ → Bool
are_right zero text = true
are_right (suc n) text =
    says_offset (line_in (after_lines n text)) (length (said_by n text)) && are_right n text

-- the record of a dump that says these bytes, by whether its offsets are right, with what stands before it
pub record IsDumpRecord (lead : Lead) (said : List ℕ) (is_right : Bool) (r : Record) : Type 0 where
  pub link_type : r.link_type ≡ 248
  pub lost : r.lost ≡ 0
  pub time : r.time ≡ lead.time
  pub direction : r.direction ≡ lead.direction
  pub too_long : 262144 < length said → r.frame ≡ Err TooLong
  pub wrong : length said ≤ 262144 → is_right ≡ false → r.frame ≡ Err BadOffset
  pub right : length said ≤ 262144 → is_right ≡ true → r.frame ≡ Ok said

-- The record of a dump: the bytes of all its lines, in order, or refused; behind them no line goes on, or more than 256 KiB were said. When
-- and whither it went is what stands before it.
pub record IsDump (lead : Lead) (text : List ℕ) (r : Record) (left : List ℕ) : Type 0 where
  pub lines : ℕ
  pub some : 0 < lines
  pub goes : (k : ℕ) → 0 < k → k < lines → goes_on (line_in (after_lines k text)) ≡ true
  pub room : (k : ℕ) → k < lines → length (said_by k text) ≤ 262144
  pub ended : (goes_on (line_in left) ≡ false) ⊎ (262144 < length (said_by lines text))
  pub is_left : left ≡ after_lines lines text
  pub is : IsDumpRecord lead (said_by lines text) (are_right lines text) r

-- the record of what stands behind a mark, a time, or both: a dump, or none
pub record IsLed (lead : Lead) (text : List ℕ) (r : Record) (left : List ℕ) : Type 0 where
  pub dump : is_dump (line_in text) ≡ true → IsDump lead text r left
  pub none : is_dump (line_in text) ≡ false → (r.frame ≡ Err NotHex) × (left ≡ text)

-- ---- pieces

-- The piece of text that the bytes begin with, and what is left behind it: a dump, also behind a mark or a time, or a line.
pub record IsText (bytes : List ℕ) (found : Option Record) (left : List ℕ) : Type 0 where
  pub dump : is_dump (line_in bytes) ≡ true
      → IsSomeAnd found (λ r. IsDump no_lead bytes r left)
  pub led : (lead : Lead) → is_dump (line_in bytes) ≡ false
      → preamble_of (line_in bytes) ≡ Some lead
      → IsSomeAnd found (λ r. IsLed lead (after_line bytes) r left)
  pub line : is_dump (line_in bytes) ≡ false → preamble_of (line_in bytes) ≡ None
      → IsLineFound bytes found × (left ≡ after_line bytes)

-- so much is left behind what is found
abbrev pub IsTextTaken : List ℕ → Option Record → Option (List ℕ) → Type 0
IsTextTaken bytes found left =
    (rest : List ℕ) × (0 < length bytes) × IsText bytes found rest × Keeps (Some rest) left

-- the next piece, and what is left then; none at the end of the bytes
abbrev pub IsNextText : List ℕ → Option (List ℕ) → Taken → Type 0
IsNextText bytes left taken.End = bytes ≡ []
IsNextText bytes left taken.Nothing = IsTextTaken bytes None left
IsNextText bytes left (taken.Record r) = IsTextTaken bytes (Some r) left

abbrev pub taken_text : Option Record → Taken
taken_text (Some r) = taken.Record r
taken_text None = taken.Nothing
