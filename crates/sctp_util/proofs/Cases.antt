-- Tests and cases.
use Rattle.std.proofs.Common.{◌≡◌, ℕ, ◌+◌, ◌<◌, ◌≤◌, Bool, true, false, Some, refl, inl, inr, arith}
use Rattle.std.specs.Prelude.{◌⊎◌, ◌==◌, ◌&&◌, ◌||◌, not}
use Rattle.std.proofs.lemmas.Bool.{cases_lt}
use Rattle.std.proofs.lemmas.Bool.Decides.{nat_tests}

-- a place before the last or the last one
pub by_last : {P : Type 0} (p slots : ℕ) → p < slots + 1 → (p < slots → P) → (p ≡ slots → P) → P
by_last {P} p slots lt old new = step (cases_lt p slots)
  where
    step : (p < slots) ⊎ (slots ≤ p) → P
    step (inl l) = old l
    step (inr g) = new (omega arith)

-- the same number or another
pub by_same : {P : Type 0} (a b : ℕ) → (a ≡ b → P) → ((a ≡ b → ⊥) → (a == b) ≡ false → P) → P
by_same {P} a b yes' no' = step (a == b) refl
  where
    step : (c : Bool) → (a == b) ≡ c → P
    step true e = yes' (grind (arith, nat_tests))
    step false e = no' (grind (arith, nat_tests)) e

pub some-same : {A : Type 0} {a b : A} → Some a ≡ Some b → a ≡ b
some-same e = cc

pub same-yes : (a : ℕ) → (a == a) ≡ true
same-yes a = grind (arith, nat_tests)

pub same-is : (a b : ℕ) → (a == b) ≡ true → a ≡ b
same-is a b e = grind (arith, nat_tests)

pub negated : (b : Bool) → not b ≡ true → b ≡ false
negated true e = cc
negated false e = refl

pub or-left : (a b : Bool) → a ≡ true → (a || b) ≡ true
or-left true b e = refl
or-left false b e = cc

pub or-right : (a b : Bool) → b ≡ true → (a || b) ≡ true
or-right true b e = refl
or-right false b e = e

pub or-split : (a b : Bool) → (a || b) ≡ true → (a ≡ true) ⊎ (b ≡ true)
or-split true b e = inl refl
or-split false b e = inr e

pub or-none : (b : Bool) → (b || false) ≡ b
or-none true = refl
or-none false = refl

pub or-true : (b : Bool) → (b || true) ≡ true
or-true true = refl
or-true false = refl

pub and-true : (b : Bool) → (b && true) ≡ b
and-true true = refl
and-true false = refl

pub and-none : (b : Bool) → (b && false) ≡ false
and-none true = refl
and-none false = refl
