use Rattle.std.proofs.Common.{◌≡◌, ℕ, zero, suc, ◌+◌, ◌<◌, ◌≤◌, Bool, true, false, List, [], ◌∷◌, ◌++◌, Option, Some, None, refl, ap, sym, ◌∙◌, inl, inr, arith}
use Rattle.std.specs.Prelude.{◌⊎◌, if◌then◌else◌, ◌==◌, ◌&&◌, ◌||◌, nat_lt}
use Rattle.std.specs.List.{list_any, list_all}
use Rattle.std.proofs.Math.Nat.{eq-or-lt_of_le}
use Rattle.std.proofs.lemmas.Bool.Decides.{nat_tests}
use Rattle.sctp_util.specs.Kept.{numbers_where, first_of}
use Rattle.sctp_util.proofs.Passing.{front-kept, FrontOf}
use Rattle.sctp_util.proofs.More.{not_both, both, and, same_test}
use Rattle.sctp_util.proofs.Cases.{same-yes, same-is, or-left, or-right, or-split}

-- Tests on kept numbers.

abbrev pub Found : (ℕ → Bool) → (ℕ → Bool) → ℕ → ℕ → Type 0
Found t p from count = (k : ℕ) × (from ≤ k) × (k < from + count) × (p k ≡ true) × (t k ≡ true)

pub any-out : (t p : ℕ → Bool) (from count : ℕ) → list_any t (numbers_where p from count) ≡ true → Found t p from count
any-out t p from zero e = cc
any-out t p from (suc count) e = step (p from) refl e (λ h. any-out t p (from + 1) count h)
  where
    later : Found t p (from + 1) count → Found t p from (suc count)
    later r = (r.0, omega (arith, r.1), omega (arith, r.2), r.3, r.4)

    side : p from ≡ true → (t from ≡ true) ⊎ (list_any t (numbers_where p (from + 1) count) ≡ true)
        → (list_any t (numbers_where p (from + 1) count) ≡ true → Found t p (from + 1) count) → Found t p from (suc count)
    side f (inl h) ih = (from, omega arith, omega arith, f, h)
    side f (inr h) ih = later (ih h)

    step : (b : Bool) → p from ≡ b → list_any t (if b then from ∷ numbers_where p (from + 1) count else numbers_where p (from + 1) count) ≡ true
        → (list_any t (numbers_where p (from + 1) count) ≡ true → Found t p (from + 1) count) → Found t p from (suc count)
    step true f e ih = side f (or-split (t from) (list_any t (numbers_where p (from + 1) count)) e) ih
    step false f e ih = later (ih e)

pub any-in : (t p : ℕ → Bool) (k from count : ℕ) → from ≤ k → k < from + count → p k ≡ true → t k ≡ true → list_any t (numbers_where p from count) ≡ true
any-in t p k from zero a b f h = absurd (omega arith)
any-in t p k from (suc count) a b f h = step (p from) refl (eq-or-lt_of_le a) (λ l. any-in t p k (from + 1) count l (omega arith) f h)
  where
    step : (c : Bool) → p from ≡ c → (from ≡ k) ⊎ (from < k) → (from + 1 ≤ k → list_any t (numbers_where p (from + 1) count) ≡ true)
        → list_any t (if c then from ∷ numbers_where p (from + 1) count else numbers_where p (from + 1) count) ≡ true
    step true g (inl e) ih = or-left (t from) (list_any t (numbers_where p (from + 1) count)) (ap t e ∙ h)
    step true g (inr l) ih = or-right (t from) (list_any t (numbers_where p (from + 1) count)) (ih (omega arith))
    step false g (inl e) ih = absurd (not_both (sym g ∙ ap p e ∙ f))
    step false g (inr l) ih = ih (omega arith)

pub all-out : (t p : ℕ → Bool) (k from count : ℕ) → list_all t (numbers_where p from count) ≡ true → from ≤ k → k < from + count → p k ≡ true → t k ≡ true
all-out t p k from zero e a b f = absurd (omega arith)
all-out t p k from (suc count) e a b f = step (p from) refl e (eq-or-lt_of_le a) (λ h l. all-out t p k (from + 1) count h l (omega arith) f)
  where
    step : (c : Bool) → p from ≡ c → list_all t (if c then from ∷ numbers_where p (from + 1) count else numbers_where p (from + 1) count) ≡ true
        → (from ≡ k) ⊎ (from < k) → (list_all t (numbers_where p (from + 1) count) ≡ true → from + 1 ≤ k → t k ≡ true) → t k ≡ true
    step true g e (inl z) ih = ap t (sym z) ∙ (both (t from) (list_all t (numbers_where p (from + 1) count)) e).0
    step true g e (inr l) ih = ih (both (t from) (list_all t (numbers_where p (from + 1) count)) e).1 (omega arith)
    step false g e (inl z) ih = absurd (not_both (sym g ∙ ap p z ∙ f))
    step false g e (inr l) ih = ih e (omega arith)

pub all-more : (t u : ℕ → Bool) (xs : List ℕ) → ((p : ℕ) → t p ≡ true → u p ≡ true) → list_all t xs ≡ true → list_all u xs ≡ true
all-more t u [] h e = refl
all-more t u (x ∷ xs) h e = let a = both (t x) (list_all t xs) e in and (u x) (list_all u xs) (h x a.0) (all-more t u xs h a.1)

pub among-kept : (p : ℕ → Bool) (n from count : ℕ) → from ≤ n → list_any (λ k. k == n) (numbers_where p from count) ≡ (nat_lt n (from + count) && p n)
among-kept p n from count low = same_test (list_any (λ k. k == n) (numbers_where p from count)) (nat_lt n (from + count) && p n)
    (λ e. let r = any-out (λ k. k == n) p from count e in let z : r.0 ≡ n = same-is r.0 n r.4 in let l : n < from + count = omega (arith, r.2, z) in
    and (nat_lt n (from + count)) (p n) (grind (arith, nat_tests)) (ap p (sym z) ∙ r.3))
    (λ e. let a = both (nat_lt n (from + count)) (p n) e in let x = a.0 in any-in (λ k. k == n) p n from count low (grind (arith, nat_tests)) a.1 (same-yes n))

pub any-append : (t : ℕ → Bool) (xs ys : List ℕ) → list_any t (xs ++ ys) ≡ (list_any t xs || list_any t ys)
any-append t [] ys = refl
any-append t (x ∷ xs) ys = ap (λ b. t x || b) (any-append t xs ys) ∙ assoc (t x) (list_any t xs) (list_any t ys)
  where
    assoc : (a b c : Bool) → (a || (b || c)) ≡ ((a || b) || c)
    assoc true b c = refl
    assoc false b c = refl

-- the first that passes, or that none does
abbrev pub FirstOf : (ℕ → Bool) → ℕ → Option ℕ → Type 0
FirstOf p count None = (j : ℕ) → j < count → p j ≡ false
FirstOf p count (Some n) = (n < count) × (p n ≡ true) × ((j : ℕ) → j < n → p j ≡ false)

pub first-kept : (p : ℕ → Bool) (count : ℕ) → FirstOf p count (first_of (numbers_where p 0 count))
first-kept p count = step (numbers_where p 0 count) (front-kept p 0 count)
  where
    step : (l : List ℕ) → FrontOf p 0 count l → FirstOf p count (first_of l)
    step [] f = λ j lt. f j (omega arith) (omega arith)
    step (k ∷ rest) f = (omega (arith, f.high), f.passes, λ j lt. f.first j (omega arith) lt)
