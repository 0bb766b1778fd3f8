-- Numbers of 16 bits against indexes, and numbers of 32 bits against places, where they lie near one another.
use Rattle.std.proofs.Common.{◌≡◌, ℕ, ◌+◌, ◌-◌, ◌<◌, ◌≤◌, ◌%◌, ◌^◌, inl, inr, arith}
use Rattle.std.specs.Prelude.{◌⊎◌, ◌==◌, nat_lt, nat_le, ◌&&◌}
use Rattle.std.proofs.lemmas.Bool.{cases_lt}
use Rattle.std.proofs.lemmas.Bool.Decides.{nat_tests}
use Rattle.sctp_util.specs.Serial.{distance, distance16, comes_before16}
use Rattle.sctp_util.proofs.Round.{tsn, distance-tsn, distance-tsn_back}
use Rattle.sctp_util.specs.Serial.{at_or_before, at_or_before16}
use Rattle.sctp_util.proofs.More.{same_test}

ahead : (i j : ℕ) → i ≤ j → j < i + 2 ^ 15 → distance16 (i % 2 ^ 16) (j % 2 ^ 16) ≡ j - i
unfolding distance16
ahead i j le near = omega arith

behind : (i j : ℕ) → j < i → i < j + 2 ^ 15 → distance16 (i % 2 ^ 16) (j % 2 ^ 16) ≡ 2 ^ 16 + j - i
unfolding distance16
behind i j lt near = omega arith

-- within a quarter circle and more, one comes before the other as their indexes do
pub comes_before16-index : (i j : ℕ) → i < j + 2 ^ 15 → j < i + 2 ^ 15 → comes_before16 (i % 2 ^ 16) (j % 2 ^ 16) ≡ nat_lt i j
unfolding comes_before16
comes_before16-index i j a b = step (cases_lt j i)
  where
    step : (j < i) ⊎ (i ≤ j) → (nat_lt 0 (distance16 (i % 2 ^ 16) (j % 2 ^ 16)) && nat_lt (distance16 (i % 2 ^ 16) (j % 2 ^ 16)) (2 ^ 15)) ≡ nat_lt i j
    step (inl lt) = rw (behind i j lt a) (grind (arith, nat_tests))
    step (inr ge) = rw (ahead i j ge b) (grind (arith, nat_tests))

pub at_or_before16-index : (i j : ℕ) → i < j + 2 ^ 15 → j < i + 2 ^ 15 → at_or_before16 (i % 2 ^ 16) (j % 2 ^ 16) ≡ nat_le i j
unfolding at_or_before16
at_or_before16-index i j a b = step (cases_lt j i)
  where
    step : (j < i) ⊎ (i ≤ j) → nat_lt (distance16 (i % 2 ^ 16) (j % 2 ^ 16)) (2 ^ 15) ≡ nat_le i j
    step (inl lt) = rw (behind i j lt a) (grind (arith, nat_tests))
    step (inr ge) = rw (ahead i j ge b) (grind (arith, nat_tests))

-- and they are one where their indexes are
pub same16-index : (i j : ℕ) → i < j + 2 ^ 15 → j < i + 2 ^ 15 → (i % 2 ^ 16 == j % 2 ^ 16) ≡ (i == j)
same16-index i j a b = same_test (i % 2 ^ 16 == j % 2 ^ 16) (i == j)
    (λ e. let h : i % 2 ^ 16 ≡ j % 2 ^ 16 = grind (arith, nat_tests) in let k : i ≡ j = omega arith in grind (arith, nat_tests))
    (λ e. let h : i ≡ j = grind (arith, nat_tests) in let k : i % 2 ^ 16 ≡ j % 2 ^ 16 = omega arith in grind (arith, nat_tests))

pub next16 : (i : ℕ) → (i % 2 ^ 16 + 1) % 2 ^ 16 ≡ (i + 1) % 2 ^ 16
next16 i = omega arith

pub at_or_before-tsn : (first j k : ℕ) → j < k + 2 ^ 31 → k < j + 2 ^ 31 → at_or_before (tsn first j) (tsn first k) ≡ nat_le j k
unfolding at_or_before
at_or_before-tsn first j k a b = step (cases_lt k j)
  where
    step : (k < j) ⊎ (j ≤ k) → nat_lt (distance (tsn first j) (tsn first k)) (2 ^ 31) ≡ nat_le j k
    step (inl lt) = rw (distance-tsn_back first k j lt (omega arith)) (grind (arith, nat_tests))
    step (inr ge) = rw (distance-tsn first j k ge (omega arith)) (grind (arith, nat_tests))
