-- Serial numbers, which wrap and are compared by distance (RFC 1982 3.2).
use Rattle.std.specs.Prelude.{ℕ, ◌+◌, ◌-◌, ◌%◌, ◌^◌, Bool, ◌&&◌, not, ◌==◌, nat_lt}

-- the distance from a to b, modulo 2^32
unfoldable pub distance : ℕ → ℕ → ℕ
distance a b = (b + (2 ^ 32 - a)) % 2 ^ 32

-- a comes before b: b lies 1 to 2^31 - 1 after it
unfoldable pub comes_before : ℕ → ℕ → Bool
comes_before a b = nat_lt 0 (distance a b) && nat_lt (distance a b) (2 ^ 31)

-- a is b, or comes before it
unfoldable pub at_or_before : ℕ → ℕ → Bool
at_or_before a b = nat_lt (distance a b) (2 ^ 31)

-- a comes after b: it is neither b nor before it, so also at exactly half the circle
unfoldable pub comes_after : ℕ → ℕ → Bool
comes_after a b = not (a == b) && not (comes_before a b)

-- the same for numbers of 16 bits, with 2^15 in the place of 2^31
unfoldable pub distance16 : ℕ → ℕ → ℕ
distance16 a b = (b + (2 ^ 16 - a)) % 2 ^ 16

unfoldable pub comes_before16 : ℕ → ℕ → Bool
comes_before16 a b = nat_lt 0 (distance16 a b) && nat_lt (distance16 a b) (2 ^ 15)

unfoldable pub at_or_before16 : ℕ → ℕ → Bool
at_or_before16 a b = nat_lt (distance16 a b) (2 ^ 15)

unfoldable pub comes_after16 : ℕ → ℕ → Bool
comes_after16 a b = not (a == b) && not (comes_before16 a b)
