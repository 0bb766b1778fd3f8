-- The records that an input holds, by its bytes.
use Rattle.std.specs.Prelude.{◌≡◌, ℕ, ◌+◌, ◌-◌, ◌%◌, ◌<◌, ◌≤◌, ◌⊎◌, Bool, true, false, ◌==◌, ◌||◌, if◌then◌else◌, List, [], ◌∷◌, ◌++◌, length, drop, slice_range}
use Rattle.std.specs.Prelude.{Option}
use Rattle.std.specs.Prelude.{Some, None, Ok, Err, MatchResult}
use Rattle.std.specs.Io.KnownBytes.{Keeps}
use Rattle.std.specs.Io.BufRead.{drop_through}
use Rattle.hex.specs.Hex.{decode_of}
use Rattle.sctp_util.specs.Field.{u32_at, u32_le_at}
use Rattle.sctp_capture.specs.declared.record.Order.{Order}
use Rattle.sctp_capture.specs.declared.record.Order.TheVariants.{Big, Little}
use Rattle.sctp_capture.specs.declared.record.Head.{Head}
use Rattle.sctp_capture.specs.declared.record.Time.{Time}
use Rattle.sctp_capture.specs.declared.record.Fault.TheVariants.{NotHex, CutOff, TooLong}
use Rattle.sctp_capture.specs.declared.record.Record.{Record}
use Rattle.std.specs.declared.net.ip_addr.IpAddr.{IpAddr}
use Rattle.sctp_capture.specs.Fields.{fields_of, line_lead, said_in, AreEnds, tags_of, link_by}

-- the number that stands in the four bytes from a place on
abbrev pub number_at : Order → List ℕ → ℕ → ℕ
number_at Big bytes at = u32_at bytes at
number_at Little bytes at = u32_le_at bytes at

-- ---- captures

-- the number that a capture begins with, whether or not its fractions of a second are nanoseconds
abbrev pub magic_of : Bool → ℕ
magic_of true = 2712812621
magic_of false = 2712847316

-- the bytes begin with the header of a capture
pub record IsHead (bytes : List ℕ) (h : Head) : Type 0 where
  pub long : 24 ≤ length bytes
  pub magic : number_at h.order bytes 0 ≡ magic_of h.nanoseconds
  pub link_type : h.link_type ≡ number_at h.order bytes 20 % 65536

-- how many bytes an entry takes: its header of sixteen, and as many as that declares
abbrev pub entry_span : Head → List ℕ → ℕ
entry_span h bytes = 16 + number_at h.order bytes 8

abbrev pub time_at : Head → List ℕ → Time
time_at h bytes =
    record {
      seconds = number_at h.order bytes 0;
      fraction = number_at h.order bytes 4;
      nanoseconds = h.nanoseconds;
    }

-- the entry that the bytes begin with: its frame is refused where it is cut off, or longer than 256 KiB. It lost what the length that it had is more
-- than the length that was captured
pub record IsEntry (h : Head) (bytes : List ℕ) (r : Record) : Type 0 where
  pub link_type : r.link_type ≡ h.link_type
  pub direction : r.direction ≡ None
  pub short : length bytes < 16 → (r.time ≡ None) × (r.frame ≡ Err CutOff)
  pub time : 16 ≤ length bytes → r.time ≡ Some (time_at h bytes)
  pub too_long : 16 ≤ length bytes → 16 + 262144 < entry_span h bytes → r.frame ≡ Err TooLong
  pub cut_off : 16 ≤ length bytes → entry_span h bytes ≤ 16 + 262144 → length bytes
      < entry_span h bytes → r.frame ≡ Err CutOff
  pub whole : entry_span h bytes ≤ 16 + 262144 → entry_span h bytes ≤ length bytes → r.frame
      ≡ Ok (slice_range bytes 16 (entry_span h bytes))
  pub lost : entry_span h bytes ≤ 16 + 262144 → entry_span h bytes ≤ length bytes → r.lost
      ≡ number_at h.order bytes 12 - number_at h.order bytes 8

-- what follows an entry; nothing where it is cut off
abbrev pub after_entry : Head → List ℕ → List ℕ
after_entry h bytes = drop (entry_span h bytes) bytes

-- ---- lines

-- the bytes up to the first line feed, or all of them
abbrev pub line_in : List ℕ → List ℕ
line_in [] = []
line_in (x ∷ xs) = if x == 10 then [] else x ∷ line_in xs

abbrev pub after_line : List ℕ → List ℕ
after_line bytes = drop_through 10 bytes

-- the bytes hold the line that they begin with, with its line feed, or more than a line may have
abbrev pub HoldsLine : List ℕ → Type 0
HoldsLine bytes = (length (line_in bytes) < length bytes) ⊎ (524288 < length bytes)

-- what may stand between the digits: a space, a tab, a carriage return
abbrev pub is_blank : ℕ → Bool
is_blank x = x == 32 || (x == 9 || x == 13)

-- what a line says up to a comment, which '#' begins, without the blanks in it
abbrev pub digits_in : List ℕ → List ℕ
digits_in [] = []
digits_in (x ∷ xs) =
    if x == 35 then [] else if is_blank x then digits_in xs else x ∷ digits_in xs

-- the frame of a line with these digits: what they say, behind the addresses that the line says, or refused
abbrev pub IsSaid : List ℕ → List ℕ → Record → Type 0
IsSaid line digits r =
    (ends : Option (IpAddr × IpAddr)) × AreEnds line (fields_of line) ends
    × (r.link_type ≡ link_by ends)
    × MatchResult (decode_of digits) (λ frame. r.frame ≡ Ok (tags_of ends ++ frame))
    (λ _. r.frame ≡ Err NotHex)

-- the line that the bytes begin with: its frame is what its hex text says, or refused; when and whither it went is what its lead says
pub record IsLine (bytes : List ℕ) (r : Record) : Type 0 where
  pub lost : r.lost ≡ 0
  pub too_long : 524288 < length (line_in bytes)
      → (r.link_type ≡ 248) × (r.time ≡ None) × (r.direction ≡ None) × (r.frame ≡ Err TooLong)
  pub time : length (line_in bytes) ≤ 524288 → r.time ≡ (line_lead (line_in bytes)).time
  pub direction : length (line_in bytes) ≤ 524288
      → r.direction ≡ (line_lead (line_in bytes)).direction
  pub some : length (line_in bytes) ≤ 524288 → 0 < length (digits_in (said_in (line_in bytes)))
  pub text : length (line_in bytes) ≤ 524288
      → IsSaid (line_in bytes) (digits_in (said_in (line_in bytes))) r

-- the line says nothing: behind its lead it is empty, or blanks and a comment
abbrev pub IsBlankLine : List ℕ → Type 0
IsBlankLine bytes = (length (line_in bytes) ≤ 524288) × (digits_in (said_in (line_in bytes)) ≡ [])

-- the record that a line is, if it says anything
abbrev pub IsLineFound : List ℕ → Option Record → Type 0
IsLineFound bytes None = IsBlankLine bytes
IsLineFound bytes (Some r) = IsLine bytes r

-- ---- the next entry

-- the next record, and what is left then; none at the end of the bytes
abbrev pub IsNext : (List ℕ → Record → Type 0) → (List ℕ → List ℕ) → List ℕ → Option (List ℕ)
    → Option Record → Type 0
IsNext Is after bytes left None = bytes ≡ []
IsNext Is after bytes left (Some r) =
    (0 < length bytes) × Is bytes r × Keeps (Some (after bytes)) left
