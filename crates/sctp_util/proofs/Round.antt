-- Numbers that wrap at 2^32, against places that do not.
use Rattle.std.proofs.Common.{◌≡◌, ℕ, ◌+◌, ◌-◌, ◌<◌, ◌≤◌, ◌%◌, ◌^◌, true, false, inl, inr, arith}
use Rattle.std.specs.Prelude.{◌⊎◌, ◌==◌, nat_lt, ◌&&◌}
use Rattle.std.proofs.lemmas.Bool.{cases_lt}
use Rattle.std.proofs.lemmas.Bool.Decides.{nat_tests}
use Rattle.sctp_util.specs.Serial.{distance, comes_before}

-- the TSN of a place, and the one before it
abbrev pub tsn : ℕ → ℕ → ℕ
tsn first k = (first + k) % 2 ^ 32

abbrev pub tsn_before : ℕ → ℕ → ℕ
tsn_before first k = (first + 2 ^ 32 - 1 + k) % 2 ^ 32

pub tsn_differ : (first j k : ℕ) → j < k → k < j + 2 ^ 32 → (tsn first k == tsn first j) ≡ false
tsn_differ first j k lt near =
    let ne : tsn first k ≡ tsn first j → ⊥ = λ e. omega arith in grind (arith, nat_tests)

pub tsn_same : (first k : ℕ) → (tsn first k == tsn first k) ≡ true
tsn_same first k = grind (arith, nat_tests)

pub distance-tsn : (first j k : ℕ) → j ≤ k → k < j + 2 ^ 32 → distance (tsn first j) (tsn first k) ≡ k - j
unfolding distance
distance-tsn first j k le near = omega arith

pub distance-tsn_back : (first j k : ℕ) → j < k → k < j + 2 ^ 32 → distance (tsn first k) (tsn first j) ≡ 2 ^ 32 + j - k
unfolding distance
distance-tsn_back first j k le near = omega arith

near : (first c k : ℕ) → c ≤ k → k < c + 2 ^ 31 - 1 → distance (tsn_before first c) (tsn first k) ≡ k + 1 - c
unfolding distance
near first c k le lt = omega arith

-- within half a circle, one comes before the other as their places do
pub comes_before-tsn : (first j k : ℕ) → j < k + 2 ^ 31 → k < j + 2 ^ 31 → (j ≡ k → ⊥) → comes_before (tsn first j) (tsn first k) ≡ nat_lt j k
unfolding comes_before
comes_before-tsn first j k a b ne = step (cases_lt j k)
  where
    step : (j < k) ⊎ (k ≤ j) → (nat_lt 0 (distance (tsn first j) (tsn first k)) && nat_lt (distance (tsn first j) (tsn first k)) (2 ^ 31)) ≡ nat_lt j k
    step (inl lt) = rw (distance-tsn first j k (omega arith) (omega arith)) (grind (arith, nat_tests))
    step (inr ge) = rw (distance-tsn_back first k j (omega arith) (omega arith)) (grind (arith, nat_tests))
