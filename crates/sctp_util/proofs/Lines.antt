-- The kept numbers as a line with places.
use Rattle.std.proofs.Common.{◌≡◌, ℕ, zero, suc, ◌+◌, ◌<◌, ◌≤◌, Bool, true, false, List, [], ◌∷◌, ◌++◌, length, take, drop, refl, ap, sym, arith}
use Rattle.std.specs.Prelude.{if◌then◌else◌}
use Rattle.sctp_util.specs.Kept.{numbers_where}

-- the number n is the one at this place of the kept ones
pub record IsAt (p : ℕ → Bool) (from count n place : ℕ) : Type 0 where
  pub k : ℕ
  pub is : n ≡ from + k
  pub low : k < count
  pub passes : p n ≡ true
  pub place_is : length (numbers_where p from k) ≡ place

pub take-drop : (i : ℕ) (xs : List ℕ) → take i xs ++ drop i xs ≡ xs
take-drop zero [] = refl
take-drop zero (x ∷ xs) = refl
take-drop (suc i) [] = refl
take-drop (suc i) (x ∷ xs) = ap (λ l. x ∷ l) (take-drop i xs)
