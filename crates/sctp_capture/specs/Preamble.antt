-- What stands on a line of its own before a dump: a mark, a time, or both.
use Rattle.std.specs.Prelude.{ℕ, ◌+◌, ◌-◌, ◌*◌, ◌/◌, ◌%◌, Bool, true, false, ◌==◌, ◌||◌, ◌&&◌, ltb, if◌then◌else◌, List, length, slice_index, slice_range}
use Rattle.std.specs.Prelude.{codes, Option, Some, None}
use Rattle.sctp_capture.specs.declared.record.Direction.{Direction}
use Rattle.sctp_capture.specs.declared.lead.Lead.{Lead}
use Rattle.sctp_capture.specs.declared.preamble.Moment.{Moment}
use Rattle.sctp_capture.specs.Lead.{begins_so, direction_of, two_at, three_at, seconds_at}

-- the rest of a line begins as a pattern says
abbrev pub stands_at : List ℕ → List ℕ → ℕ → Bool
stands_at pattern line at = begins_so pattern (slice_range line at (length line))

-- the line ends, but for a carriage return
abbrev pub ends_at : List ℕ → ℕ → Bool
ends_at line at =
    at == length line || (at + 1 == length line && stands_at (codes "\r") line at)

-- ---- times

-- The days from 1970 to a day of the Gregorian calendar. Years begin in March, so that the day which some of them have more is the last one;
-- five months have 153 days; 719,469 is what so reckoned the first of January 1970 has.
abbrev pub years_of : ℕ → ℕ → ℕ
years_of year month = if ltb month 3 then year - 1 else year

abbrev pub days_to : ℕ → ℕ → ℕ → ℕ
days_to year month day =
    (365 * years_of year month + years_of year month / 4 + years_of year month / 400
    + ((153 * ((month + 9) % 12) + 2) / 5 + day)) - (years_of year month / 100 + 719469)

-- the seconds to a day, as `2019-05-14`
abbrev pub day_at : List ℕ → ℕ → ℕ
day_at line at =
    days_to (two_at line at * 100 + two_at line (at + 2)) (two_at line (at + 5))
    (two_at line (at + 8)) * 86400

abbrev pub clock_at : List ℕ → ℕ → ℕ → Moment
clock_at line at day =
    record {
      time = record { seconds = day + seconds_at line at; fraction = 0; nanoseconds = false };
      end = at + 8;
    }

-- a time of day, or a day and a time of day
abbrev pub moment_at : List ℕ → ℕ → Option Moment
moment_at line at =
    if stands_at (codes "dd:dd:dd") line at then Some (clock_at line at 0)
    else if stands_at (codes "dddd-dd-ddTdd:dd:dd") line at
    || stands_at (codes "dddd-dd-dd dd:dd:dd") line at
    then Some (clock_at line (at + 11) (day_at line at))
    else None

abbrev pub later : Moment → ℕ → ℕ → Bool → Moment
later m digits fraction nanoseconds =
    record {
      time = record {
        seconds = m.time.seconds;
        fraction = fraction;
        nanoseconds = nanoseconds;
      };
      end = m.end + digits;
    }

abbrev pub six_at : List ℕ → ℕ → ℕ
six_at line at = three_at line at * 1000 + three_at line (at + 3)

-- nanoseconds, microseconds or milliseconds, by how many digits stand behind the point
abbrev pub with_fraction : List ℕ → Moment → Moment
with_fraction line m =
    if stands_at (codes ".ddddddddd") line m.end
    then later m 10 (six_at line (m.end + 1) * 1000 + three_at line (m.end + 7)) true
    else if stands_at (codes ".dddddd") line m.end
    then later m 7 (six_at line (m.end + 1)) false
    else if stands_at (codes ".ddd") line m.end
    then later m 4 (three_at line (m.end + 1) * 1000) false
    else m

-- a time in UTC may end in `Z`
abbrev pub zone_end : List ℕ → ℕ → ℕ
zone_end line at = if stands_at (codes "Z") line at then at + 1 else at

-- ---- lines

abbrev pub direction_in : List ℕ → Option Direction
direction_in line =
    if begins_so (codes "M") line then Some (direction_of (slice_index line 0)) else None

abbrev pub timed_preamble : List ℕ → Moment → Option Lead
timed_preamble line m =
    if ends_at line (zone_end line (with_fraction line m).end)
    then Some (record {
      length = length line;
      direction = direction_in line;
      time = Some (with_fraction line m).time;
    })
    else None

abbrev pub preamble_by : List ℕ → Option Moment → Option Lead
preamble_by line None = None
preamble_by line (Some m) = timed_preamble line m

-- a time stands behind the mark, if there is one
abbrev pub time_place : List ℕ → ℕ
time_place line = if begins_so (codes "M ") line then 2 else 0

-- what a line says that is a mark, a time, or both, and nothing else
abbrev pub preamble_of : List ℕ → Option Lead
preamble_of line =
    if ltb 524288 (length line) then None
    else if begins_so (codes "M") line && ends_at line 1
    then Some (record { length = length line; direction = direction_in line; time = None })
    else preamble_by line (moment_at line (time_place line))
