-- Causes of an ABORT or ERROR, one by one.
use Rattle.std.proofs.Common.{◌≡◌, ℕ, ◌+◌, ◌-◌, ◌<◌, ◌≤◌, true, false, suc, List, length, refl, arith}
use Rattle.std.specs.Prelude.{leb, ltb}
use Rattle.std.proofs.lemmas.Bool.Decides.{nat_tests}
use Rattle.sctp_util.specs.Field.{u16_at}
use Rattle.sctp_util.specs.Padding.{padded_length}
use Rattle.sctp_show.specs.Rules.{causes_from}

one_more : (k n : ℕ) → k < n → n - k ≡ suc (n - (k + 1))
one_more k n lt = omega arith

-- no cause is left
pub causes_end : (k at : ℕ) (value : List ℕ) → k < length value → length value ≤ at → causes_from (length value - k) value at ≡ true
unfolding causes_from
causes_end k at value lt le =
    let ends : leb (length value) at ≡ true = grind (arith, nat_tests) in
    rw (one_more k (length value) lt, ends) refl

-- fewer bytes than a cause begins with
pub causes_cut : (k at : ℕ) (value : List ℕ) → k < length value → at < length value → length value < at + 4
    → causes_from (length value - k) value at ≡ false
unfolding causes_from
causes_cut k at value lt more short =
    let goes : leb (length value) at ≡ false = grind (arith, nat_tests) in
    let cut : ltb (length value) (at + 4) ≡ true = grind (arith, nat_tests) in
    rw (one_more k (length value) lt, goes, cut) refl

-- a length that is too low
pub causes_low : (k at : ℕ) (value : List ℕ) → k < length value → at + 4 ≤ length value → u16_at value (at + 2) < 4
    → causes_from (length value - k) value at ≡ false
unfolding causes_from
causes_low k at value lt fits low =
    let goes : leb (length value) at ≡ false = grind (arith, nat_tests) in
    let whole : ltb (length value) (at + 4) ≡ false = grind (arith, nat_tests) in
    let under : ltb (u16_at value (at + 2)) 4 ≡ true = grind (arith, nat_tests) in
    rw (one_more k (length value) lt, goes, whole, under) refl

-- a length that passes the bytes
pub causes_past : (k at : ℕ) (value : List ℕ) → k < length value → at + 4 ≤ length value → 4 ≤ u16_at value (at + 2)
    → length value < at + u16_at value (at + 2) → causes_from (length value - k) value at ≡ false
unfolding causes_from
causes_past k at value lt fits high past =
    let goes : leb (length value) at ≡ false = grind (arith, nat_tests) in
    let whole : ltb (length value) (at + 4) ≡ false = grind (arith, nat_tests) in
    let under : ltb (u16_at value (at + 2)) 4 ≡ false = grind (arith, nat_tests) in
    let over : ltb (length value) (at + u16_at value (at + 2)) ≡ true = grind (arith, nat_tests) in
    rw (one_more k (length value) lt, goes, whole, under, over) refl

-- a cause is passed, with its padding
pub causes_next : (k at : ℕ) (value : List ℕ) → k < length value → at + 4 ≤ length value → 4 ≤ u16_at value (at + 2)
    → at + u16_at value (at + 2) ≤ length value
    → causes_from (length value - k) value at ≡ causes_from (length value - (k + 1)) value (at + padded_length (u16_at value (at + 2)))
unfolding causes_from
causes_next k at value lt fits high within =
    let goes : leb (length value) at ≡ false = grind (arith, nat_tests) in
    let whole : ltb (length value) (at + 4) ≡ false = grind (arith, nat_tests) in
    let under : ltb (u16_at value (at + 2)) 4 ≡ false = grind (arith, nat_tests) in
    let over : ltb (length value) (at + u16_at value (at + 2)) ≡ false = grind (arith, nat_tests) in
    rw (one_more k (length value) lt, goes, whole, under, over) refl

-- no cause is looked at any more
pub causes_none : (k at : ℕ) (value : List ℕ) → length value ≤ k → causes_from (length value - k) value at ≡ false
unfolding causes_from
causes_none k at value le =
    let none : length value - k ≡ 0 = omega arith in rw none refl
