-- What logs write before the hex text of a packet: usrsctp, browsers, and what text2pcap reads.
use Rattle.std.specs.Prelude.{ℕ, zero, suc, ◌+◌, ◌-◌, ◌*◌, Bool, true, false, ◌==◌, ◌||◌, ◌&&◌, leb, if◌then◌else◌, List, [], ◌∷◌, length, slice_index, codes}
use Rattle.std.specs.Prelude.{Some, None}
use Rattle.sctp_capture.specs.declared.record.Direction.{Direction}
use Rattle.sctp_capture.specs.declared.record.Direction.TheVariants.{In, Out}
use Rattle.sctp_capture.specs.declared.lead.Lead.{Lead}

-- ---- patterns

-- a byte is what a pattern has in its place: `M` stands for the mark `I` or `O`, `d` for a digit, any other byte for itself
abbrev pub fits : ℕ → ℕ → Bool
fits wanted byte =
    if wanted == 77 then byte == 73 || byte == 79
    else if wanted == 100 then leb 48 byte && leb byte 57
    else byte == wanted

abbrev pub begins_so : List ℕ → List ℕ → Bool
begins_so [] bytes = true
begins_so (w ∷ ws) [] = false
begins_so (w ∷ ws) (x ∷ xs) = fits w x && begins_so ws xs

-- ---- what stands in a lead

-- `I` marks a packet that came in, and `O` one that went out
abbrev pub direction_of : ℕ → Direction
direction_of mark = if mark == 73 then In else Out

abbrev pub two_at : List ℕ → ℕ → ℕ
two_at line at = (slice_index line at - 48) * 10 + (slice_index line (at + 1) - 48)

abbrev pub three_at : List ℕ → ℕ → ℕ
three_at line at = two_at line at * 10 + (slice_index line (at + 2) - 48)

-- the seconds of a time of day, as `12:34:56`
abbrev pub seconds_at : List ℕ → ℕ → ℕ
seconds_at line at = two_at line at * 3600 + (two_at line (at + 3) * 60 + two_at line (at + 6))

-- so many bytes, the first of which is the mark, with a time of day that has so many microseconds
abbrev pub timed_lead : List ℕ → ℕ → ℕ → Lead
timed_lead line span microseconds =
    record {
      length = span;
      direction = Some (direction_of (slice_index line 0));
      time = Some (record {
        seconds = seconds_at line 2;
        fraction = microseconds;
        nanoseconds = false;
      });
    }

abbrev pub marked_lead : List ℕ → Lead
marked_lead line =
    record { length = 7; direction = Some (direction_of (slice_index line 0)); time = None }

abbrev pub no_lead : Lead
no_lead = record { length = 0; direction = None; time = None }

-- ---- other text before hex text

-- a blank, and a hex digit or a blank
abbrev pub is_space : ℕ → Bool
is_space x = x == 32 || (x == 9 || x == 13)

abbrev pub is_hex : ℕ → Bool
is_hex x =
    ((leb 48 x && leb x 57) || ((leb 65 x && leb x 70) || (leb 97 x && leb x 102))) || is_space x

-- the place behind the last byte that is neither, of so many from a place on, up to a comment; where none is so, the place that was found before
unfoldable pub behind_text : ℕ → List ℕ → ℕ → ℕ → ℕ
behind_text zero line at found = found
behind_text (suc left) line at found =
    if slice_index line at == 35 then found
    else behind_text left line (at + 1) (if is_hex (slice_index line at) then found else at + 1)

-- the place of the first blank, of so many bytes from a place on, or the one behind them
unfoldable pub word_end : ℕ → List ℕ → ℕ → ℕ
word_end zero line at = at
word_end (suc left) line at =
    if is_space (slice_index line at) then at else word_end left line (at + 1)

-- how many are no blanks, of so many from a place on, up to a comment, besides those before it
unfoldable pub count_from : ℕ → List ℕ → ℕ → ℕ → ℕ
count_from zero line at count = count
count_from (suc left) line at count =
    if slice_index line at == 35 then count
    else count_from left line (at + 1) (if is_space (slice_index line at) then count else count + 1)

-- so many digits as a common header has stand from a place on
abbrev pub has_header : List ℕ → ℕ → Bool
has_header line at = leb 24 (count_from (length line - at) line at 0)

-- Hex text may begin behind the last byte that is none. It begins behind the word in which that stands, where enough is there.
abbrev pub prefix_by : List ℕ → ℕ → ℕ
prefix_by line at =
    if at == 0 then 0
    else if has_header line (word_end (length line - at) line at)
    then word_end (length line - at) line at
    else if has_header line at then at
    else 0

abbrev pub prefix_of : List ℕ → ℕ
prefix_of line = prefix_by line (behind_text (length line) line 0 0)

abbrev pub prefixed_lead : List ℕ → Lead
prefixed_lead line = record { length = prefix_of line; direction = None; time = None }

-- The lead of a line: a mark, a time of day in micro- or milliseconds, if there is one, and the offset 0; or other text.
abbrev pub lead_of : List ℕ → Lead
lead_of line =
    if begins_so (codes "M dd:dd:dd.dddddd 0000 ") line
    then timed_lead line 23 (three_at line 11 * 1000 + three_at line 14)
    else if begins_so (codes "M dd:dd:dd.ddd 0000 ") line
    then timed_lead line 20 (three_at line 11 * 1000)
    else if begins_so (codes "M 0000 ") line then marked_lead line
    else prefixed_lead line
