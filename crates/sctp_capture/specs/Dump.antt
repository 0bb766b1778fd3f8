-- Dumps of several lines a packet, as text2pcap and xxd write them.
use Rattle.std.specs.Prelude.{ℕ, zero, suc, ◌+◌, ◌-◌, ◌*◌, ◌/◌, ◌%◌, Bool, ◌==◌, ◌||◌, ◌&&◌, not, ltb, leb, if◌then◌else◌, List, [], ◌∷◌, length}
use Rattle.std.specs.Prelude.{slice_index}
use Rattle.sctp_capture.specs.declared.dump.Layout.{Layout}
use Rattle.sctp_capture.specs.Record.{is_blank}

-- the byte in a place of a line, or a line feed, where the line has ended
abbrev pub char_at : List ℕ → ℕ → ℕ
char_at line at = if ltb at (length line) then slice_index line at else 10

-- `0` to `9`, `A` to `F`, `a` to `f`
abbrev pub is_digit : ℕ → Bool
is_digit x = (leb 48 x && leb x 57) || ((leb 65 x && leb x 70) || (leb 97 x && leb x 102))

abbrev pub value_of : ℕ → ℕ
value_of x = (if leb x 57 then x - 48 else if leb x 70 then x - 55 else x - 87) % 16

-- a word ends before a line feed or a blank
abbrev pub ends_word : ℕ → Bool
ends_word x = x == 10 || is_blank x

-- ---- bytes

-- a byte is two hex digits; its word ends behind them, or, where words are joined bytes, a digit of the next one stands there
abbrev pub is_byte_at : Bool → List ℕ → ℕ → Bool
is_byte_at is_joined line at = is_digit (char_at line at)
    && (is_digit (char_at line (at + 1)) && (ends_word (char_at line (at + 2))
    || (is_joined && is_digit (char_at line (at + 2)))))

abbrev pub byte_at : List ℕ → ℕ → ℕ
byte_at line at = value_of (char_at line at) * 16 + value_of (char_at line (at + 1))

-- the next byte stands behind a word that goes on, or one blank; where words are single bytes, two blanks may stand behind the eighth one
abbrev pub next_at : Bool → ℕ → List ℕ → ℕ → ℕ
next_at is_joined taken line at =
    if is_joined then (if is_digit (char_at line (at + 2)) then at + 2 else at + 3)
    else if taken == 8 && is_blank (char_at line (at + 3)) then at + 4
    else at + 3

-- the bytes from a place on, behind so many of the line, up to what is none, but not more than so many
unfoldable pub bytes_at : Bool → ℕ → ℕ → List ℕ → ℕ → List ℕ
bytes_at is_joined taken zero line at = []
bytes_at is_joined taken (suc left) line at =
    if is_byte_at is_joined line at
    then byte_at line at
    ∷ bytes_at is_joined (taken + 1) left line (next_at is_joined (taken + 1) line at)
    else []

-- ---- offsets

-- a colon, the mark of what mail forwards, a blank
abbrev pub is_passed : ℕ → Bool
is_passed x = x == 58 || (x == 62 || is_blank x)

-- the first place from one on whose byte is not passed, if at most so many are
unfoldable pub skip_at : ℕ → List ℕ → ℕ → ℕ
skip_at zero line at = at
skip_at (suc count) line at =
    if is_passed (char_at line at) then skip_at count line (at + 1) else at

-- how many hex digits stand from a place on, if not more than so many
unfoldable pub digits_at : ℕ → List ℕ → ℕ → ℕ
digits_at zero line at = 0
digits_at (suc count) line at =
    if is_digit (char_at line at) then 1 + digits_at count line (at + 1) else 0

-- so many hex digits say a number: the last one says what is left of it by 16, those before it the rest
unfoldable pub says : ℕ → List ℕ → ℕ → ℕ → Bool
says zero line at number = number == 0
says (suc count) line at number =
    value_of (char_at line (at + count)) == number % 16 && says count line at (number / 16)

-- the offset of a line, and its bytes
abbrev pub layout_of : List ℕ → Layout
layout_of line =
    record {
      start = skip_at 16 line 0;
      digits = digits_at 9 line (skip_at 16 line 0);
      text = skip_at 16 line (skip_at 16 line 0 + digits_at 9 line (skip_at 16 line 0));
    }

-- an offset has three to eight digits
abbrev pub is_offset_size : ℕ → Bool
is_offset_size digits = leb 3 digits && leb digits 8

-- a colon, a blank or nothing stands behind it
abbrev pub ends_offset : ℕ → Bool
ends_offset x = x == 58 || ends_word x

abbrev pub has_offset : List ℕ → Bool
has_offset line = is_offset_size (layout_of line).digits
    && ends_offset (char_at line ((layout_of line).start + (layout_of line).digits))

abbrev pub says_offset : List ℕ → ℕ → Bool
says_offset line number = says (layout_of line).digits line (layout_of line).start number

-- words are joined bytes, as xxd writes them: a colon stands behind the offset, and a third digit in the first word
abbrev pub is_joined : List ℕ → Bool
is_joined line = char_at line ((layout_of line).start + (layout_of line).digits) == 58
    && is_digit (char_at line ((layout_of line).text + 2))

abbrev pub has_bytes : List ℕ → Bool
has_bytes line = is_byte_at (is_joined line) line (layout_of line).text

-- the bytes of a line, at most so many
abbrev pub bytes_in : ℕ → List ℕ → List ℕ
bytes_in width line = bytes_at (is_joined line) 0 width line (layout_of line).text

-- ---- lines

-- a line begins a dump, if none goes on in it: an offset, and bytes
abbrev pub is_dump : List ℕ → Bool
is_dump line = leb (length line) 524288 && (has_offset line && has_bytes line)

-- a dump goes on in a line: an offset other than 0, and bytes, or nothing
abbrev pub goes_on : List ℕ → Bool
goes_on line = leb (length line) 524288 && (has_offset line && (not (says_offset line 0)
    && (has_bytes line || leb (length line) (layout_of line).text)))
