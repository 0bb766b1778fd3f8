-- Where the marks of a picture stand.
use Rattle.std.specs.Prelude.{◌≡◌, ℕ, Bool, ◌+◌, ◌-◌, ◌*◌, ◌/◌, ◌%◌, min, max, List, [], ◌∷◌, ◌++◌, leb, if◌then◌else◌}
use Rattle.sctp_util.specs.Serial.{distance}
use Rattle.sctp_follow.specs.declared.plot.Instant.{Instant}
use Rattle.sctp_follow.specs.declared.plot.Mark.{Mark}

-- how high a TSN stands: 2^31 and how far it lies after the base, or before it (RFC 1982)
abbrev pub height_of : ℕ → ℕ → ℕ
height_of base tsn = distance ((base + 2147483648) % 4294967296) tsn

-- the last mark is so
abbrev pub HasLast : List Mark → (Mark → Type 0) → Type 0
HasLast marks P = (before : List Mark) × (mark : Mark) × (marks ≡ before ++ mark ∷ []) × P mark

-- a number between two others, as one between 0 and so much: what lies outside of them stands at the nearer end
abbrev pub within : ℕ → ℕ → ℕ → ℕ
within low high value = min (max low value) high

abbrev pub scaled : ℕ → ℕ → ℕ → ℕ → ℕ
scaled low high room value =
    if leb high low then room / 2 else (within low high value - low) * room / (high - low)

-- how far right an instant stands: by its time, or by the number of its record
abbrev pub place_at : Bool → Instant → ℕ
place_at is_timed instant = if is_timed then instant.nanoseconds else instant.number
