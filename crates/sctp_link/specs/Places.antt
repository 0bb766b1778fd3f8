-- Streams that are told apart by their numbers.
use Rattle.std.specs.Prelude.{◌≡◌, ℕ, false, ◌==◌, List, [], ◌∷◌}
use Rattle.std.specs.List.{list_any}

-- none stands twice
abbrev pub IsApart : List ℕ → Type 0
IsApart [] = Unit {0}
IsApart (n ∷ ns) = (list_any (λ k. k == n) ns ≡ false) × IsApart ns
