-- What a function gives for 0, 1 and so on.
use Rattle.std.specs.Prelude.{ℕ, zero, suc, List, [], ◌∷◌, ◌++◌}

-- f 0, f 1 and so on, n of them
unfoldable pub each : {A : Type 0} → ℕ → (ℕ → A) → List A
each zero f = []
each (suc n) f = each n f ++ f n ∷ []
