-- Sets of stream numbers, as a list of flags: a number is in the set where its flag is true.
use Rattle.std.specs.Prelude.{◌≡◌, ℕ, ◌≤◌, Bool, true, false, List, get_or}

abbrev pub is_in : ℕ → List Bool → Bool
is_in n flags = get_or flags n false

-- no number is
abbrev pub IsEmpty : List Bool → Type 0
IsEmpty flags = (n : ℕ) → is_in n flags ≡ false

-- it is, and none below it
pub record IsLeastIn (n : ℕ) (flags : List Bool) : Type 0 where
  pub there : is_in n flags ≡ true
  pub least : (m : ℕ) → is_in m flags ≡ true → n ≤ m
