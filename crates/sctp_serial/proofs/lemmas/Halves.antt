-- How often a range can be halved.
use Rattle.std.proofs.Common.{◌≡◌, ℕ, ◌+◌, ◌*◌, ◌-◌, ◌^◌, ◌<◌, ◌≤◌, ◌∙◌, subst, arith}
use Rattle.std.proofs.Math.Nat.{mul-le-mul_left, mul_comm}
use Rattle.std.proofs.lemmas.Grind.{pow_more}

-- one step more
pub one_more : (t u v : ℕ) → t ≤ u → v ≡ u + 1 → 2 ^ (v - t) ≡ 2 * 2 ^ (u - t)
one_more t u v le e = subst (λ n. 2 ^ n ≡ 2 * 2 ^ (u - t)) {x = u - t + 1} (omega arith) (pow_more 2 (u - t) ∙ mul_comm (2 ^ (u - t)) 2)

-- p is 2 to the steps so far, and s is left
pub halved : (p s t n : ℕ) → p * s ≤ n → t + t ≤ s → (2 * p) * t ≤ n
halved p s t n h le = let e : p * (t + t) ≤ p * s = mul-le-mul_left p le in omega arith

pub digits_left : (p s n : ℕ) → p * s ≤ n → 0 < s → 2 * p ≤ 2 * n + 1
digits_left p s n h pos = let e : p * 1 ≤ p * s = mul-le-mul_left p (omega arith) in omega arith
