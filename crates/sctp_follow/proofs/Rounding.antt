-- A number is rounded down to three digits.
use Rattle.std.proofs.Common.{◌≡◌, ℕ, zero, suc, ◌-◌, ◌*◌, ◌/◌, ◌<◌, ◌≤◌, nat_lt, arith, refl, sym, ap, ◌∙◌, Bool, true, false, if◌then◌else◌}
use Rattle.std.proofs.Math.Nat.{mul_assoc, mul-div-le, mul-le-mul_left}
use Rattle.std.proofs.lemmas.Bool.Decides.{nat_tests}
use Rattle.sctp_follow.specs.Trips.{rounded}

pub rounded_short : (digits number : ℕ) → number < 1000 → rounded digits number ≡ number
unfolding rounded
rounded_short zero number h = refl
rounded_short (suc digits) number h =
    let t : nat_lt number 1000 ≡ true = grind (arith, nat_tests) in
    ap (λ (b : Bool). if b then number else 10 * rounded digits (number / 10)) t

pub rounded_long : (digits number : ℕ) → 1000 ≤ number → rounded (suc digits) number ≡ 10 * rounded digits (number / 10)
unfolding rounded
rounded_long digits number h =
    let t : nat_lt number 1000 ≡ false = grind (arith, nat_tests) in
    ap (λ (b : Bool). if b then number else 10 * rounded digits (number / 10)) t

-- a step of the loop where the rest has three digits at most, and where it has more
pub step_short : (left unit rest all : ℕ) → rest < 1000 → unit * rounded left rest ≡ all → unit * rounded (left - 1) rest ≡ all
step_short left unit rest all h e =
    ap (λ n. unit * n) (rounded_short (left - 1) rest h ∙ sym (rounded_short left rest h)) ∙ e

pub step_long : (left unit rest all : ℕ) → 0 < left → 1000 ≤ rest → unit * rounded left rest ≡ all → unit * 10 * rounded (left - 1) (rest / 10) ≡ all
step_long zero unit rest all some h e = absurd (omega arith)
step_long (suc left) unit rest all some h e =
    let one : suc left - 1 ≡ left = omega arith in
    ap (λ n. unit * 10 * rounded n (rest / 10)) one ∙ mul_assoc unit 10 (rounded left (rest / 10)) ∙ ap (λ n. unit * n) (sym (rounded_long left rest h)) ∙ e

pub fits_long : (unit rest all : ℕ) → unit * rest ≤ all → unit * 10 * (rest / 10) ≤ all
fits_long unit rest all h =
    let a : unit * (10 * (rest / 10)) ≤ unit * rest = mul-le-mul_left unit (mul-div-le rest 10) in
    let b : unit * 10 * (rest / 10) ≡ unit * (10 * (rest / 10)) = mul_assoc unit 10 (rest / 10) in
    omega arith

-- the loop ends with no digit left to look at
pub rounded_end : (left unit rest all : ℕ) → left ≡ 0 → unit * rounded left rest ≡ all → unit * rest ≡ all
unfolding rounded
rounded_end zero unit rest all h e = e
rounded_end (suc left) unit rest all h e = absurd (omega arith)
