-- How far the TSN of a slot lies from the cumulative one, and back.
use Rattle.sctp_model.proofs.Names.{◌≡◌, ℕ, ◌+◌, ◌-◌, ◌<◌, ◌≤◌, ◌%◌, ◌^◌, true, arith, nat_tests, LinkRecord, cumulative, is_new}
use Rattle.sctp_model.proofs.refinement.arriving.Filter.{tsn_before}
use Rattle.sctp_util.specs.Serial.{distance}

pub ahead : (first c k : ℕ) → c ≤ k → k < 2 ^ 31 → distance (tsn_before first c) ((first + k) % 2 ^ 32) ≡ k + 1 - c
unfolding distance
ahead first c k le lt = omega arith

pub behind : (first c k : ℕ) → k < c → c < 2 ^ 31 → distance (tsn_before first c) ((first + k) % 2 ^ 32) ≡ (2 ^ 32 + k + 1 - c) % 2 ^ 32
unfolding distance
behind first c k lt few = omega arith

-- and back
pub back-before : (first c k : ℕ) → k < c → c < 2 ^ 31 → distance ((first + k) % 2 ^ 32) (tsn_before first c) ≡ c - 1 - k
unfolding distance
back-before first c k lt few = omega arith

pub back-past : (first c k : ℕ) → c ≤ k → k < 2 ^ 31 → distance ((first + k) % 2 ^ 32) (tsn_before first c) ≡ 2 ^ 32 + c - 1 - k
unfolding distance
back-past first c k le lt = omega arith

pub past-front : (w : LinkRecord) (p : ℕ) → is_new w p ≡ true → cumulative w ≤ p
past-front w p e = grind (arith, nat_tests)
