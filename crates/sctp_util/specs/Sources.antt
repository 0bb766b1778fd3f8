-- Sources of bytes, made of lists one after another.
use Rattle.std.specs.Prelude.{ℕ, ◌+◌, ◌==◌, nat_le, if◌then◌else◌, List, [], ◌∷◌, length}

-- how many whole lists are used up by a piece of so many bytes: empty ones in front, and the next if it fits
abbrev pub used_up : ℕ → List (List ℕ) → ℕ
used_up limit [] = 0
used_up limit (xs ∷ xss) =
    if nat_le (length xs) limit then (if length xs == 0 then used_up limit xss + 1 else 1) else 0
