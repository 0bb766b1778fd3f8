-- The first number of a window of half the circle of serial numbers.
use Rattle.std.proofs.Common.{◌≡◌, ℕ, ◌+◌, ◌-◌, ◌%◌, ◌<◌, ◌≤◌, ◌⊎◌, ◌≢◌, inl, inr, ◌^◌, false, true, arith, mod-eq_of_lt, ◌∙◌}
use native.Mathlib.Nat.{mod-eq-sub-mod}
use Rattle.std.proofs.lemmas.Bool.{cases_lt}
use Rattle.std.proofs.lemmas.Bool.Decides.{nat_tests}
use Rattle.sctp_util.specs.Serial.{distance, at_or_before, comes_before}
use Rattle.sctp_util.proofs.Distances.{distance_cases, comes_before_from}

late_from : (a b : ℕ) → 2 ^ 31 ≤ distance a b → at_or_before a b ≡ false
unfolding at_or_before
late_from a b h = grind (arith, nat_tests)

late_is : (a b : ℕ) → at_or_before a b ≡ false → 2 ^ 31 ≤ distance a b
unfolding at_or_before
late_is a b h = grind (arith, nat_tests)

early_is : (a b : ℕ) → at_or_before a b ≡ true → distance a b < 2 ^ 31
unfolding at_or_before
early_is a b h = grind (arith, nat_tests)

-- where a window of half the circle begins that ends at a number
unfoldable pub start_of : ℕ → ℕ
start_of number = (number + (4294967296 - 2147483647)) % 4294967296

start_cases : (number : ℕ) → number < 2 ^ 32
    → ((2147483647 ≤ number) × (start_of number + 2147483647 ≡ number)) ⊎ ((number < 2147483647) × (start_of number ≡ number + 2147483649))
unfolding start_of
start_cases number h = elim (cases_lt number 2147483647) [
  | inl low ↦ inr (low, mod-eq_of_lt (omega arith))
  | inr high ↦ inl (high, let e : start_of number ≡ number + 2147483649 - 4294967296 = mod-eq-sub-mod (omega arith) ∙ mod-eq_of_lt (omega arith) in omega (arith, e))
]

-- k is the first one from there on, and n another one
module _ (number k n : ℕ) (hb : number < 2 ^ 32) (hk : k < 2 ^ 32) (hn : n < 2 ^ 32) (from : start_of number ≤ n → (start_of number ≤ k) × (k ≤ n))
    (below : n < start_of number → (start_of number ≤ k) ⊎ (k ≤ n)) where
  -- if the first one is not in the window, none is
  pub late_first : at_or_before k number ≡ false → at_or_before n number ≡ false
  late_first late = let l = late_is k number late in late_from n number (elim (cases_lt n (start_of number)) [
    | inl low ↦ elim (start_cases number hb) [
      | inl s ↦ elim (distance_cases n number hn hb) [ inl q ↦ omega (arith, s, q, low) | inr q ↦ omega (arith, s, q, low) ]
      | inr s ↦ elim (distance_cases k number hk hb) [
        | inl p ↦ elim (distance_cases n number hn hb) [ inl q ↦ omega (arith, l, p, s) | inr q ↦ omega (arith, s, q, low) ]
        | inr p ↦ elim (below low) [ inl b ↦ omega (arith, l, p, s, b) | inr b ↦ elim (distance_cases n number hn hb) [ inl q ↦ omega (arith, p, q, b) | inr q ↦ omega (arith, s, q, low) ] ]
      ]
    ]
    | inr high ↦ let b = from high in elim (start_cases number hb) [
      | inl s ↦ elim (distance_cases k number hk hb) [
        | inl p ↦ omega (arith, l, p, s, b.0)
        | inr p ↦ elim (distance_cases n number hn hb) [ inl q ↦ omega (arith, p, q, b.1) | inr q ↦ omega (arith, s, q) ]
      ]
      | inr s ↦ elim (distance_cases k number hk hb) [ inl p ↦ omega (arith, p, s, b.0) | inr p ↦ omega (arith, l, p, s, b.0) ]
    ]
  ])

  -- the first one comes before another one of the window
  pub first_before : at_or_before n number ≡ true → k ≢ n → comes_before k n ≡ true
  first_before is differ = let l = early_is n number is in elim (cases_lt n (start_of number)) [
    | inl low ↦ elim (start_cases number hb) [
      | inl s ↦ elim (distance_cases n number hn hb) [ inl q ↦ absurd (omega (arith, l, s, q, low)) | inr q ↦ absurd (omega (arith, s, q, low)) ]
      | inr s ↦ elim (distance_cases n number hn hb) [
        | inl q ↦ elim (below low) [
          | inl b ↦ elim (distance_cases k n hk hn) [ inl r ↦ absurd (omega (arith, low, b, r)) | inr r ↦ comes_before_from k n (omega (arith, r)) (omega (arith, s, q, b, r)) ]
          | inr b ↦ elim (distance_cases k n hk hn) [ inl r ↦ comes_before_from k n (omega (arith, differ, r)) (omega (arith, s, q, b, r)) | inr r ↦ absurd (omega (arith, b, r)) ]
        ]
        | inr q ↦ absurd (omega (arith, l, s, q, low))
      ]
    ]
    | inr high ↦ let b = from high in elim (distance_cases k n hk hn) [
      | inl r ↦ comes_before_from k n (omega (arith, differ, r)) (elim (start_cases number hb) [
        | inl s ↦ elim (distance_cases n number hn hb) [ inl q ↦ omega (arith, s, q, b, r) | inr q ↦ omega (arith, l, s, q) ]
        | inr s ↦ omega (arith, s, b, r)
      ])
      | inr r ↦ absurd (omega (arith, b, r))
    ]
  ]
