-- Numbers of bytes that rise and fall from packet to packet.
use Rattle.std.specs.Prelude.{ℕ, ◌-◌, Bool, false, if◌then◌else◌, List, [], ◌∷◌, ◌++◌, length, ◌==◌, Option, Some, None, slice_get}
use Rattle.sctp_follow.specs.declared.band.Level.{Level}
use Rattle.sctp_follow.specs.declared.plot.Instant.{Instant}

-- the last of some levels is at this number
abbrev pub is_at : Option Level → ℕ → Bool
is_at None value = false
is_at (Some l) value = l.value == value

-- a number from a packet on: a level more, unless the last one is at the same number
abbrev pub with_level : List Level → Instant → ℕ → List Level
with_level levels instant value =
    if is_at (slice_get levels (length levels - 1)) value then levels
    else levels ++ record { instant = instant; value = value } ∷ []
