-- What a picture shows of a number of bytes that rises and falls.
use Rattle.std.specs.Prelude.{◌≡◌, ℕ, ◌≤◌, ◌-◌, ◌/◌, if◌then◌else◌, List, [], length, ◌==◌, min, max, map, filter, Option, Some, None, slice_get, MatchOption}
use Rattle.std.specs.List.{All, Contains}
use Rattle.sctp_follow.specs.Plot.{scaled, place_at}
use Rattle.sctp_follow.specs.declared.band.Level.{Level}
use Rattle.sctp_follow.specs.declared.strip.Column.{Column}
use Rattle.sctp_follow.specs.declared.svg.Frame.{Frame}

-- the column of a picture, two units wide, that a level stands in: by its time, or by its record
abbrev pub column_at : Frame → Level → ℕ
column_at frame l =
    scaled frame.places.low frame.places.high 10500 (place_at frame.is_timed l.instant) / 20

-- the numbers of the levels in a column
abbrev pub values_in : Frame → ℕ → List Level → List ℕ
values_in frame column levels = map (λ l. l.value) (filter (λ l. column_at frame l == column) levels)

-- a column with a number more
abbrev pub column_with : Option Column → ℕ → Column
column_with None value = record { low = value; high = value; last = value }
column_with (Some c) value = record { low = min c.low value; high = max c.high value; last = value }

-- of some numbers the least one, the greatest one and the last one
pub record IsColumn (values : List ℕ) (c : Column) : Type 0 where
  pub low : Contains values c.low
  pub least : All (λ v. c.low ≤ v) values
  pub high : Contains values c.high
  pub greatest : All (λ v. v ≤ c.high) values
  pub last : slice_get values (length values - 1) ≡ Some c.last

-- nothing is drawn in a column in which no level stands
abbrev pub IsColumnOf : List ℕ → Option Column → Type 0
IsColumnOf values c = MatchOption c (values ≡ []) (IsColumn values)
