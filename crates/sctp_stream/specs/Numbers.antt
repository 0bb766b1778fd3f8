-- The numbers of the open streams, in the order in which they were opened; where one was closed, the last one stands in its place.
use Rattle.std.specs.Prelude.{◌≡◌, ℕ, Bool, not, if◌then◌else◌, List, [], ◌∷◌, slice_get, Some}
use Rattle.std.specs.List.{filter, slice_rotate_right}

-- the number stands there, and nowhere else
pub record IsOnlyPlace (s : ℕ) (ns : List ℕ) (k : ℕ) : Type 0 where
  pub here : slice_get ns k ≡ Some s
  pub only : (j : ℕ) → slice_get ns j ≡ Some s → j ≡ k

-- the number stands nowhere
abbrev pub IsAbsent : ℕ → List ℕ → Type 0
IsAbsent s ns = (k : ℕ) → slice_get ns k ≡ Some s → ⊥

-- the table has, at each number, the place where it stands
abbrev pub IsPlaced : List ℕ → List ℕ → Type 0
IsPlaced places ns = (s k : ℕ) → slice_get ns k ≡ Some s → slice_get places s ≡ Some k

-- the list without what passes a test: the last of the others takes the place of the first that passes, unless it stands before
-- that. Where one alone passes, this is `swap_remove`
abbrev pub swapped_out : {X : Type 0} → (X → Bool) → List X → List X
swapped_out p [] = []
swapped_out p (x ∷ xs) =
    if p x then slice_rotate_right (filter (λ y. not (p y)) xs) 1 else x ∷ swapped_out p xs
