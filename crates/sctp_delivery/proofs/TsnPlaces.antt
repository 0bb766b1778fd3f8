-- TSNs and their places: place k of a base p is the TSN p + k modulo 2^32, and serial order is that of places below 2^31.
use Rattle.sctp_delivery.proofs.Names.{common_steps, ◌≡◌, ℕ, ◌+◌, ◌-◌, ◌<◌, ◌≤◌, ◌%◌, ◌^◌, true, false, ap, sym, ◌∙◌, arith, nat_lt, nat_le, cases_lt}
use Rattle.sctp_delivery.proofs.Names.{nat_tests, tsn, distance-tsn, distance-tsn_back}
use Rattle.sctp_util.specs.Serial.{distance, comes_before, at_or_before}

pub same-place : (p j k : ℕ) → j < 2 ^ 32 → k < 2 ^ 32 → tsn p j ≡ tsn p k → j ≡ k
same-place p j k a b e = omega (arith, e)

pub next-place : (p k : ℕ) → (tsn p k + 1) % 2 ^ 32 ≡ tsn p (k + 1)
next-place p k = omega arith

pub tsn-small : (p k : ℕ) → tsn p k < 2 ^ 32
tsn-small p k = omega arith

pub at-or-before : (p j k : ℕ) → j ≤ 2 ^ 31 → k < 2 ^ 31 → at_or_before (tsn p j) (tsn p k) ≡ nat_le j k
unfolding at_or_before
at-or-before p j k a b = grind (arith, nat_tests, common_steps, cases_lt, distance-tsn_back, distance-tsn)

pub before : (p j k : ℕ) → j < 2 ^ 31 → k < 2 ^ 31 → comes_before (tsn p j) (tsn p k) ≡ nat_lt j k
unfolding comes_before
before p j k a b = grind (arith, nat_tests, common_steps, cases_lt, distance-tsn_back, distance-tsn)

-- two TSNs that stand at these places: the one is at or before the other where it lies no further behind the base
module _ (p j k : ℕ) {a b : ℕ} (at : a ≡ tsn p j) (to : b ≡ tsn p k) (x : j ≤ 2 ^ 31) (y : k < 2 ^ 31) where
  order-of : at_or_before a b ≡ nat_le j k
  order-of = ap (λ u. at_or_before u b) at ∙ ap (at_or_before (tsn p j)) to ∙ at-or-before p j k x y

  pub upto-yes : j ≤ k → at_or_before a b ≡ true
  upto-yes le = let t : nat_le j k ≡ true = grind (arith, nat_tests) in order-of ∙ t

  pub upto-is : at_or_before a b ≡ true → j ≤ k
  upto-is e = let t : nat_le j k ≡ true = sym order-of ∙ e in grind (arith, nat_tests)

  pub past-is : at_or_before a b ≡ false → k < j
  past-is e = let t : nat_le j k ≡ false = sym order-of ∙ e in grind (arith, nat_tests)

-- one of the first n places behind the base
pub record IsGiven (p n t : ℕ) : Type 0 where
  pub place : ℕ
  pub some : 0 < place
  pub within : place ≤ n
  pub is : t ≡ tsn p place

pub more-given : (p m n t : ℕ) → m ≤ n → IsGiven p m t → IsGiven p n t
more-given p m n t le g = record { place = g.place; some = g.some; within = omega (arith, le, g.within); is = g.is }

-- ## The base: the TSN before the first

abbrev pub base : ℕ → ℕ
base first = first + (2 ^ 32 - 1)

pub past-first : (first t : ℕ) → first < 2 ^ 32 → t < 2 ^ 32 → t ≡ tsn (base first) (distance first t + 1)
unfolding distance
past-first first t a b = omega (arith, a, b)
