-- Binary digits, and how often a list can be halved.
use Rattle.std.proofs.Common.{◌≡◌, ℕ, zero, suc, ◌+◌, ◌*◌, ◌/◌, ◌^◌, ◌<◌, ◌≤◌, List, length, get_or, refl, arith}
use Rattle.std.proofs.lemmas.Nat.{pow_pos}
use Rattle.std.proofs.lemmas.Grind.{pow_more}
use Rattle.std.specs.List.Sorted.{IsNonDecreasingBy}
use Rattle.sctp_serial.proofs.lemmas.AscendingEdits.{number_read}
use Rattle.sctp_serial.specs.Turns.{IsWithinDigits}
use Rattle.sctp_reassembly.specs.reassembly_queue.Orders.{digits_upto, digits}

-- one step more doubles
doubled : (s : ℕ) → 2 ^ (suc s) ≡ 2 ^ s + 2 ^ s
doubled s = let e = pow_more 2 s in omega (arith, e)

digits_step : (limit n : ℕ) → digits_upto (suc limit) (suc n) ≡ digits_upto limit (suc n / 2) + 1
digits_step limit n = refl

within_upto : (limit n s : ℕ) → n ≤ limit → IsWithinDigits n s → s ≤ digits_upto limit n
within_upto limit n zero le h = omega arith
within_upto zero n (suc s) le h = let e = doubled s in let p = pow_pos s in absurd (omega arith)
within_upto (suc limit) zero (suc s) le h = let e = doubled s in let p = pow_pos s in absurd (omega arith)
within_upto (suc limit) (suc n) (suc s) le h =
    let e = doubled s in
    let rest = within_upto limit (suc n / 2) s (omega arith) (omega arith) in
    let step = digits_step limit n in
    omega arith

-- what stays within the digits of a number is at most so many
pub within_digits : (n s : ℕ) → IsWithinDigits n s → s ≤ digits n
within_digits n s h = within_upto n n s (omega arith) h

even_within : (d m : ℕ) → 2 ^ d ≤ 2 * (m / 2) + 1 → 0 < m → 2 ^ (d + 1) ≤ 2 * m + 1
even_within zero m h pos = omega arith
even_within (suc d) m h pos = let e = doubled d in let f = pow_more 2 (suc d) in omega arith

upto_within : (limit n : ℕ) → n ≤ limit → IsWithinDigits n (digits_upto limit n)
upto_within zero n le = omega arith
upto_within (suc limit) zero le = omega arith
upto_within (suc limit) (suc n) le =
    even_within (digits_upto limit (suc n / 2)) (suc n) (upto_within limit (suc n / 2) (omega arith)) (omega arith)

pub digits_within : (n : ℕ) → IsWithinDigits n (digits n)
digits_within n = upto_within n n (omega arith)

-- and no number more than it says
below_power : (s : ℕ) → s < 2 ^ s
below_power zero = omega arith
below_power (suc s) = let e = doubled s in let h = below_power s in omega arith

pub digits_le : (n : ℕ) → digits n ≤ n
digits_le n = at_most (digits n) (digits_within n)
  where
    at_most : (s : ℕ) → IsWithinDigits n s → s ≤ n
    at_most zero h = omega arith
    at_most (suc s) h = let e = doubled s in let t = below_power s in omega arith

-- ## A search by halves

-- in front of low no element is farther, and from high on each is
pub record IsCut {X : Type 0} (num : X → ℕ) (far : ℕ) (xs : List X) (low high : ℕ) : Type 0 where
  pub ordered : low ≤ high
  pub in_range : high ≤ length xs
  pub near : (k : ℕ) (d : X) → k < low → num (get_or xs k d) ≤ far
  pub beyond : (k : ℕ) (d : X) → high ≤ k → k < length xs → far < num (get_or xs k d)

module _ {X : Type 0} (num : X → ℕ) (far : ℕ) (xs : List X) (sorted : IsNonDecreasingBy num xs) (low high middle : ℕ) (cut : IsCut num far xs low high) (x : X)
    (from : low ≤ middle) (to : middle < high) (read : x ≡ get_or xs middle x) where
  here : (d : X) → num (get_or xs middle d) ≡ num x
  here d = number_read num xs middle x (omega (arith, cut.in_range)) read d

  pub cut_on : num x ≤ far → IsCut num far xs (middle + 1) high
  cut_on le = record {
    ordered = omega arith;
    in_range = cut.in_range;
    near = λ k d lt. let up = sorted k middle d (omega arith) (omega (arith, cut.in_range)) in let at = here d in omega arith;
    beyond = cut.beyond;
  }

  pub cut_back : far < num x → IsCut num far xs low middle
  cut_back lt = record {
    ordered = from;
    in_range = omega (arith, cut.in_range);
    near = cut.near;
    beyond = λ k d le short. let up = sorted middle k d le short in let at = here d in omega arith;
  }
