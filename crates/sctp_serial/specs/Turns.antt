-- Counts of turns.
use Rattle.std.specs.Prelude.{ℕ, ◌+◌, ◌*◌, ◌^◌, ◌≤◌}
use Rattle.sctp_serial.specs.declared.turns.Seen.{Seen, Nothing, After'}

-- how often something was seen
abbrev pub count_of : Seen → ℕ
count_of Nothing = 0
count_of (After' marker before) = count_of before + 1

-- at most as many steps as n has binary digits, of which 0 has none
abbrev pub IsWithinDigits : ℕ → ℕ → Type 0
IsWithinDigits n steps = 2 ^ steps ≤ 2 * n + 1
