-- Lines of four fields, as tshark writes them: seconds, a source, a destination, and hex text.
use Rattle.std.specs.Prelude.{◌≡◌, ℕ, zero, suc, ◌+◌, ◌-◌, ◌*◌, ◌^◌, ◌≤◌, Bool, false, ◌==◌, ◌&&◌, not, ltb, leb, min, if◌then◌else◌, List, [], ◌∷◌, ◌++◌, length, slice_index, slice_range}
use Rattle.std.specs.Prelude.{Option, Some, None}
use Rattle.std.specs.declared.net.ip_addr.IpAddr.{IpAddr}
use Rattle.std.specs.declared.net.ip_addr.IpAddr.TheVariants.{V4, V6}
use Rattle.std.specs.Net.Addr.{ipv4_octets, ipv6_octets}
use Rattle.std.specs.Net.Grammar.{IsIpText}
use Rattle.sctp_capture.specs.declared.preamble.Moment.{Moment}
use Rattle.sctp_capture.specs.declared.lead.Lead.{Lead}
use Rattle.sctp_capture.specs.declared.fields.Word.{Word}
use Rattle.sctp_capture.specs.declared.fields.Fields.{Fields}
use Rattle.sctp_capture.specs.Lead.{is_space, behind_text, word_end, lead_of}
use Rattle.sctp_capture.specs.Preamble.{with_fraction}

-- ---- seconds

abbrev pub is_decimal : ℕ → Bool
is_decimal x = leb 48 x && leb x 57

-- a number, and a digit behind it; more than eight bytes can say is the most that they can
abbrev pub with_digit : ℕ → ℕ → ℕ
with_digit value digit =
    min (min (value * 10) (2 ^ 64 - 1) + (digit - 48)) (2 ^ 64 - 1)

abbrev pub whole_at : ℕ → ℕ → Moment
whole_at value at =
    record {
      time = record { seconds = value; fraction = 0; nanoseconds = false };
      end = at;
    }

-- the seconds that the digits say, of so many bytes from a place on, behind those that say a number
unfoldable pub seconds_by : ℕ → List ℕ → ℕ → ℕ → Moment
seconds_by zero line at value = whole_at value at
seconds_by (suc left) line at value =
    if is_decimal (slice_index line at)
    then seconds_by left line (at + 1) (with_digit value (slice_index line at))
    else whole_at value at

abbrev pub seconds_in : List ℕ → Moment
seconds_in line = seconds_by (length line) line 0 0

-- ---- fields

-- the word behind the blank in a place: it ends before the next blank, and may be empty
abbrev pub place_behind : List ℕ → ℕ → ℕ
place_behind line at = if ltb at (length line) then at + 1 else at

abbrev pub word_from : List ℕ → ℕ → Word
word_from line start = record { start = start; end = word_end (length line - start) line start }

abbrev pub word_behind : List ℕ → ℕ → Word
word_behind line at = word_from line (place_behind line at)

abbrev pub fields_with : List ℕ → Moment → Word → Word → Fields
fields_with line m source destination =
    record {
      time = m.time;
      source = source;
      destination = destination;
      text = word_behind line destination.end;
    }

abbrev pub fields_to : List ℕ → Moment → Word → Fields
fields_to line m source = fields_with line m source (word_behind line source.end)

abbrev pub fields_at : List ℕ → Moment → Fields
fields_at line m = fields_to line m (word_behind line m.end)

-- digits with a fraction behind them, and then a blank
abbrev pub is_time : List ℕ → Moment → Moment → Bool
is_time line whole m =
    not (whole.end == 0) && (not (m.end == whole.end)
    && (ltb m.end (length line) && is_space (slice_index line m.end)))

-- as many digits as a common header has, behind which no other text stands but a comment
abbrev pub is_text : List ℕ → Word → Bool
is_text line w = leb (w.start + 24) w.end && leb (behind_text (length line) line 0 0) w.start

abbrev pub fields_if : Bool → Fields → Option Fields
fields_if is f = if is then Some f else None

abbrev pub fields_by : List ℕ → Moment → Moment → Option Fields
fields_by line whole m =
    fields_if (is_time line whole m && is_text line (fields_at line m).text) (fields_at line m)

-- the fields of a line, if it has them: each but the first is a word behind one blank
abbrev pub fields_of : List ℕ → Option Fields
fields_of line = fields_by line (seconds_in line) (with_fraction line (seconds_in line))

abbrev pub IsWithin : List ℕ → Word → Type 0
IsWithin line w = (w.start ≤ w.end) × (w.end ≤ length line)

-- ---- what a line says

-- the lead of a line: its fields up to the last one, or what else stands before hex text
abbrev pub lead_by : List ℕ → Option Fields → Lead
lead_by line None = lead_of line
lead_by line (Some f) =
    record { length = f.text.start; direction = None; time = Some f.time }

abbrev pub line_lead : List ℕ → Lead
line_lead line = lead_by line (fields_of line)

-- what a line says behind its lead
abbrev pub said_in : List ℕ → List ℕ
said_in line = slice_range line (line_lead line).length (length line)

abbrev pub word_of : List ℕ → Word → List ℕ
word_of line w = slice_range line w.start w.end

-- the addresses that a line's source and destination are, if both are one
abbrev pub AreEnds : List ℕ → Option Fields → Option (IpAddr × IpAddr) → Type 0
AreEnds line None ends = ends ≡ None
AreEnds line (Some f) None =
    (a b : IpAddr) → IsIpText (word_of line f.source) a → IsIpText (word_of line f.destination) b
    → ⊥
AreEnds line (Some f) (Some e) =
    IsIpText (word_of line f.source) e.0 × IsIpText (word_of line f.destination) e.1

-- ---- a frame with addresses, as Wireshark exports PDUs: the tags 12, 20 or 22, 21 or 23, and 0

abbrev pub address_tag : ℕ → ℕ → IpAddr → List ℕ
address_tag four six (V4 a) = 0 ∷ four ∷ 0 ∷ 4 ∷ ipv4_octets a
address_tag four six (V6 a) = 0 ∷ six ∷ 0 ∷ 16 ∷ ipv6_octets a

-- the dissector's name is `sctp`
abbrev pub tags_of : Option (IpAddr × IpAddr) → List ℕ
tags_of None = []
tags_of (Some e) =
    (((0 ∷ 12 ∷ 0 ∷ 4 ∷ 115 ∷ 99 ∷ 116 ∷ 112 ∷ []) ++ address_tag 20 22 e.0) ++ address_tag 21 23 e.1)
    ++ (0 ∷ 0 ∷ 0 ∷ 0 ∷ [])

-- the link type of a datagram alone, or with addresses
abbrev pub link_by : Option (IpAddr × IpAddr) → ℕ
link_by None = 248
link_by (Some e) = 252
