-- Distances and the order of serial numbers.
use Rattle.std.proofs.Common.{◌≡◌, ℕ, ◌+◌, ◌-◌, ◌^◌, ◌<◌, ◌≤◌, ◌⊎◌, true, false, IsTrue, ◌≢◌, ◌∙◌, inl, inr, sym, mod-eq_of_lt, arith}
use native.Mathlib.Nat.{mod-eq-sub-mod}
use Rattle.std.proofs.lemmas.Bool.{cases_lt, false≢true}
use Rattle.std.proofs.lemmas.Bool.Decides.{nat_tests}
use Rattle.sctp_util.specs.Serial.{distance, comes_before}

-- a distance, with no remainder in it
pub distance_cases : (a b : ℕ) → a < 2 ^ 32 → b < 2 ^ 32 → ((a ≤ b) × (distance a b + a ≡ b)) ⊎ ((b < a) × (distance a b + a ≡ b + 2 ^ 32))
unfolding distance
distance_cases a b ha hb = elim (cases_lt b a) [
  | inl low ↦ inr (low, let e : distance a b ≡ b + (2 ^ 32 - a) = mod-eq_of_lt (omega arith) in omega arith)
  | inr high ↦ inl (high, let e : distance a b ≡ b + (2 ^ 32 - a) - 2 ^ 32 = mod-eq-sub-mod (omega arith) ∙ mod-eq_of_lt (omega arith) in omega arith)
]

-- which of two distances are long
pub before_is : (a b : ℕ) → IsTrue (comes_before a b) → (0 < distance a b) × (distance a b < 2 ^ 31)
unfolding comes_before
before_is a b h = grind (arith, nat_tests)

pub comes_before_from : (a b : ℕ) → 0 < distance a b → distance a b < 2 ^ 31 → comes_before a b ≡ true
unfolding comes_before
comes_before_from a b h k = grind (arith, nat_tests)

pub not_before_from : (a b : ℕ) → 2 ^ 31 ≤ distance a b → comes_before a b ≡ false
unfolding comes_before
not_before_from a b h = grind (arith, nat_tests)

-- seen from a base that both are after by at most half a circle, the order is that of the distances
pub before_by_distance : (c x y : ℕ) → c < 2 ^ 32 → x < 2 ^ 32 → y < 2 ^ 32 → 0 < distance c x → distance c x ≤ 2 ^ 31 → 0 < distance c y
    → distance c y ≤ 2 ^ 31 → distance c x < distance c y → comes_before x y ≡ true
before_by_distance c x y hc hx hy px qx py qy lt = elim (distance_cases c x hc hx) [
  | inl p ↦ elim (distance_cases c y hc hy) [
    | inl q ↦ elim (distance_cases x y hx
        hy) [ inl r ↦ comes_before_from x y (omega arith) (omega arith) | inr r ↦ comes_before_from x y (omega arith) (omega arith) ]
    | inr q ↦ elim (distance_cases x y hx
        hy) [ inl r ↦ comes_before_from x y (omega arith) (omega arith) | inr r ↦ comes_before_from x y (omega arith) (omega arith) ]
  ]
  | inr p ↦ elim (distance_cases c y hc hy) [
    | inl q ↦ elim (distance_cases x y hx
        hy) [ inl r ↦ comes_before_from x y (omega arith) (omega arith) | inr r ↦ comes_before_from x y (omega arith) (omega arith) ]
    | inr q ↦ elim (distance_cases x y hx
        hy) [ inl r ↦ comes_before_from x y (omega arith) (omega arith) | inr r ↦ comes_before_from x y (omega arith) (omega arith) ]
  ]
]

-- not both of two numbers are before the other
pub before_asym : (a b : ℕ) → a < 2 ^ 32 → b < 2 ^ 32 → IsTrue (comes_before a b) → comes_before b a ≡ false
before_asym a b ha hb h = let f = before_is a b h in elim (distance_cases a b ha hb) [
  | inl p ↦ elim (distance_cases b a hb ha) [ inl q ↦ not_before_from b a (omega (arith, f)) | inr q ↦ not_before_from b a (omega (arith, f)) ]
  | inr p ↦ elim (distance_cases b a hb ha) [ inl q ↦ not_before_from b a (omega (arith, f)) | inr q ↦ not_before_from b a (omega (arith, f)) ]
]

module _ (c x y : ℕ) (hc : c < 2 ^ 32) (hx : x < 2 ^ 32) (hy : y < 2 ^ 32) (px : 0 < distance c x) (qx : distance c x ≤ 2 ^ 31) (py : 0 < distance c y)
    (qy : distance c y ≤ 2 ^ 31) where
  -- and the distances rise along the order
  pub distance_by_before : IsTrue (comes_before x y) → distance c x < distance c y
  distance_by_before h = let f = before_is x y h in elim (distance_cases c x hc hx) [
    | inl p ↦ elim (distance_cases c y hc hy) [
      | inl q ↦ elim (distance_cases x y hx hy) [ inl r ↦ omega (arith, f) | inr r ↦ omega (arith, f) ]
      | inr q ↦ elim (distance_cases x y hx hy) [ inl r ↦ omega (arith, f) | inr r ↦ omega (arith, f) ]
    ]
    | inr p ↦ elim (distance_cases c y hc hy) [
      | inl q ↦ elim (distance_cases x y hx hy) [ inl r ↦ omega (arith, f) | inr r ↦ omega (arith, f) ]
      | inr q ↦ elim (distance_cases x y hx hy) [ inl r ↦ omega (arith, f) | inr r ↦ omega (arith, f) ]
    ]
  ]

  -- numbers at one distance are one
  pub same_by_distance : distance c x ≡ distance c y → x ≡ y
  same_by_distance e = elim (distance_cases c x hc hx) [
    | inl p ↦ elim (distance_cases c y hc hy) [ inl q ↦ omega arith | inr q ↦ omega arith ]
    | inr p ↦ elim (distance_cases c y hc hy) [ inl q ↦ omega arith | inr q ↦ omega arith ]
  ]

-- in one window, of two different numbers one is before the other
pub before_total : (c x y : ℕ) → c < 2 ^ 32 → x < 2 ^ 32 → y < 2 ^ 32 → 0 < distance c x → distance c x ≤ 2 ^ 31 → 0 < distance c y → distance c y ≤ 2 ^ 31
    → x ≢ y → comes_before x y ≡ false → comes_before y x ≡ true
before_total c x y hc hx hy px qx py qy differ not_before = elim (cases_lt (distance c y) (distance c x)) [
  | inl low ↦ before_by_distance c y x hc hy hx py qy px qx low
  | inr high ↦ elim (cases_lt (distance c x) (distance c y)) [
    | inl low ↦ absurd (false≢true (sym not_before ∙ before_by_distance c x y hc hx hy px qx py qy low))
    | inr equal ↦ absurd (differ (same_by_distance c x y hc hx hy px qx py qy (omega arith)))
  ]
]

-- in one window the order is transitive
pub before_trans : (c x y z : ℕ) → c < 2 ^ 32 → x < 2 ^ 32 → y < 2 ^ 32 → z < 2 ^ 32 → 0 < distance c x → distance c x ≤ 2 ^ 31 → 0 < distance c y
    → distance c y ≤ 2 ^ 31 → 0 < distance c z → distance c z ≤ 2 ^ 31 → IsTrue (comes_before x y) → IsTrue (comes_before y z) → comes_before x z ≡ true
before_trans c x y z hc hx hy hz px qx py qy pz qz h k =
    let e : distance c x < distance c y = distance_by_before c x y hc hx hy px qx py qy h in
    let f : distance c y < distance c z = distance_by_before c y z hc hy hz py qy pz qz k in
    before_by_distance c x z hc hx hz px qx pz qz (omega arith)

-- no number is before itself
pub before_irrefl : (a : ℕ) → a < 2 ^ 32 → comes_before a a ≡ false
unfolding comes_before
before_irrefl a h = elim (distance_cases a a h h) [
  | inl p ↦ let zero_far : distance a a ≡ 0 = omega arith in grind (arith, nat_tests)
  | inr p ↦ absurd (omega arith)
]
