-- What is so of each number of a list.
use Rattle.std.proofs.Common.{◌≡◌, ℕ, zero, suc, ◌+◌, ◌<◌, ◌≤◌, Bool, true, false, List, [], ◌∷◌, ◌++◌, length, take, drop, Some, refl, ap, sym, ◌∙◌, inl, inr}
use Rattle.std.proofs.Common.{arith, add-zero}
use Rattle.std.specs.Prelude.{◌⊎◌, if◌then◌else◌, ◌==◌, ◌&&◌}
use Rattle.std.specs.List.{list_all, filter}
use Rattle.std.proofs.Math.Nat.{eq-or-lt_of_le}
use Rattle.std.proofs.lemmas.Bool.Decides.{nat_tests}
use Rattle.sctp_util.specs.Kept.{numbers_where, leading, first_of}
use Rattle.sctp_util.proofs.More.{not_both, both, and, same_test}

pub all-kept : (t p : ℕ → Bool) (from count : ℕ) → ((k : ℕ) → from ≤ k → k < from + count → p k ≡ true → t k ≡ true)
    → list_all t (numbers_where p from count) ≡ true
all-kept t p from zero h = refl
all-kept t p from (suc count) h = step (p from) refl (all-kept t p (from + 1) count (λ k a b e. h k (omega arith) (omega arith) e))
  where
    step : (b : Bool) → p from ≡ b → list_all t (numbers_where p (from + 1) count) ≡ true
        → list_all t (if b then from ∷ numbers_where p (from + 1) count else numbers_where p (from + 1) count) ≡ true
    step true e ih = and (t from) (list_all t (numbers_where p (from + 1) count)) (h from (omega arith) (omega arith) e) ih
    step false e ih = ih

pub all-at : (t p : ℕ → Bool) (k from count : ℕ) → from ≤ k → k < from + count → p k ≡ true → list_all t (numbers_where p from count) ≡ true → t k ≡ true
all-at t p k from zero a b e h = absurd (omega arith)
all-at t p k from (suc count) a b e h = step (p from) refl h (eq-or-lt_of_le a) (λ l g. all-at t p k (from + 1) count l (omega arith) e g)
  where
    step : (c : Bool) → p from ≡ c → list_all t (if c then from ∷ numbers_where p (from + 1) count else numbers_where p (from + 1) count) ≡ true
        → (from ≡ k) ⊎ (from < k) → (from + 1 ≤ k → list_all t (numbers_where p (from + 1) count) ≡ true → t k ≡ true) → t k ≡ true
    step true f g (inl z) ih = ap t (sym z) ∙ (both (t from) (list_all t (numbers_where p (from + 1) count)) g).0
    step true f g (inr l) ih = ih (omega arith) (both (t from) (list_all t (numbers_where p (from + 1) count)) g).1
    step false f g (inl z) ih = absurd (not_both (sym f ∙ ap p z ∙ e))
    step false f g (inr l) ih = ih (omega arith) g

pub all-append : (t : ℕ → Bool) (xs ys : List ℕ) → list_all t xs ≡ true → list_all t ys ≡ true → list_all t (xs ++ ys) ≡ true
all-append t [] ys a b = b
all-append t (x ∷ xs) ys a b = let c = both (t x) (list_all t xs) a in and (t x) (list_all t (xs ++ ys)) c.0 (all-append t xs ys c.1 b)

pub all-take : (t : ℕ → Bool) (i : ℕ) (xs : List ℕ) → list_all t xs ≡ true → list_all t (take i xs) ≡ true
all-take t zero [] a = refl
all-take t zero (x ∷ xs) a = refl
all-take t (suc i) [] a = refl
all-take t (suc i) (x ∷ xs) a = let c = both (t x) (list_all t xs) a in and (t x) (list_all t (take i xs)) c.0 (all-take t i xs c.1)

pub all-drop : (t : ℕ → Bool) (i : ℕ) (xs : List ℕ) → list_all t xs ≡ true → list_all t (drop i xs) ≡ true
all-drop t zero [] a = refl
all-drop t zero (x ∷ xs) a = a
all-drop t (suc i) [] a = refl
all-drop t (suc i) (x ∷ xs) a = all-drop t i xs (both (t x) (list_all t xs) a).1

pub all-passing : (t q : ℕ → Bool) (xs : List ℕ) → list_all t xs ≡ true → list_all t (filter q xs) ≡ true
all-passing t q [] a = refl
all-passing t q (x ∷ xs) a = let c = both (t x) (list_all t xs) a in step (q x) c.0 (all-passing t q xs c.1)
  where
    step : (b : Bool) → t x ≡ true → list_all t (filter q xs) ≡ true → list_all t (if b then x ∷ filter q xs else filter q xs) ≡ true
    step true e ih = and (t x) (list_all t (filter q xs)) e ih
    step false e ih = ih

pub all-leading : (t q : ℕ → Bool) (xs : List ℕ) → list_all t xs ≡ true → list_all t (leading q xs) ≡ true
all-leading t q [] a = refl
all-leading t q (x ∷ xs) a = let c = both (t x) (list_all t xs) a in step (q x) c.0 (all-leading t q xs c.1)
  where
    step : (b : Bool) → t x ≡ true → list_all t (leading q xs) ≡ true → list_all t (if b then x ∷ leading q xs else []) ≡ true
    step true e ih = and (t x) (list_all t (leading q xs)) e ih
    step false e ih = refl

pub all-first : (t : ℕ → Bool) (xs : List ℕ) (n : ℕ) → list_all t xs ≡ true → first_of xs ≡ Some n → t n ≡ true
all-first t [] n a e = cc
all-first t (x ∷ xs) n a e = let z : x ≡ n = cc in ap t (sym z) ∙ (both (t x) (list_all t xs) a).0

-- those that pass do
pub all-passed : (q : ℕ → Bool) (xs : List ℕ) → list_all q (filter q xs) ≡ true
all-passed q [] = refl
all-passed q (x ∷ xs) = step (q x) refl (all-passed q xs)
  where
    step : (b : Bool) → q x ≡ b → list_all q (filter q xs) ≡ true → list_all q (if b then x ∷ filter q xs else filter q xs) ≡ true
    step true e ih = and (q x) (list_all q (filter q xs)) e ih
    step false e ih = ih

pub all-same : (t q : ℕ → Bool) (p : ℕ → Bool) (from count : ℕ) → ((k : ℕ) → from ≤ k → k < from + count → p k ≡ true → t k ≡ q k)
    → list_all t (numbers_where p from count) ≡ list_all q (numbers_where p from count)
all-same t q p from zero h = refl
all-same t q p from (suc count) h = step (p from) refl (all-same t q p (from + 1) count (λ k a b e. h k (omega arith) (omega arith) e))
  where
    step : (b : Bool) → p from ≡ b → list_all t (numbers_where p (from + 1) count) ≡ list_all q (numbers_where p (from + 1) count)
        → list_all t (if b then from ∷ numbers_where p (from + 1) count else numbers_where p (from + 1) count)
        ≡ list_all q (if b then from ∷ numbers_where p (from + 1) count else numbers_where p (from + 1) count)
    step true e ih = rw (h from (omega arith) (omega arith) e, ih) refl
    step false e ih = ih

pub all-both : (t q : ℕ → Bool) (xs : List ℕ) → list_all (λ k. t k && q k) xs ≡ (list_all t xs && list_all q xs)
all-both t q [] = refl
all-both t q (x ∷ xs) = ap (λ b. (t x && q x) && b) (all-both t q xs) ∙ four (t x) (q x) (list_all t xs) (list_all q xs)
  where
    four : (a b c d : Bool) → ((a && b) && (c && d)) ≡ ((a && c) && (b && d))
    four true true c d = refl
    four true false true d = refl
    four true false false d = refl
    four false b c d = refl

-- those that pass two tests are as many as those that pass the first where each of these passes the second
pub all-count : (a b : ℕ → Bool) (from count : ℕ)
    → list_all b (numbers_where a from count) ≡ (length (numbers_where (λ k. a k && b k) from count) == length (numbers_where a from count))
all-count a b from count =
    same_test (list_all b (numbers_where a from count)) (length (numbers_where (λ k. a k && b k) from count) == length (numbers_where a from count))
    (λ e. let z = full from count e in grind (arith, nat_tests))
    (λ e. let z : length (numbers_where (λ k. a k && b k) from count) ≡ length (numbers_where a from count) = grind (arith, nat_tests) in back from count z)
  where
    full : (from count : ℕ) → list_all b (numbers_where a from count) ≡ true
        → length (numbers_where (λ k. a k && b k) from count) ≡ length (numbers_where a from count)
    full from zero e = refl
    full from (suc count) e = step (a from) e (λ h. full (from + 1) count h)
      where
        step : (c : Bool) → list_all b (if c then from ∷ numbers_where a (from + 1) count else numbers_where a (from + 1) count) ≡ true
            → (list_all b (numbers_where a (from + 1) count) ≡ true
            → length (numbers_where (λ k. a k && b k) (from + 1) count) ≡ length (numbers_where a (from + 1) count))
            → length (if c && b from then from ∷ numbers_where (λ k. a k && b k) (from + 1) count else numbers_where (λ k. a k && b k) (from + 1) count)
            ≡ length (if c then from ∷ numbers_where a (from + 1) count else numbers_where a (from + 1) count)
        step true e ih = let h = both (b from) (list_all b (numbers_where a (from + 1) count)) e in rw h.0 (ap suc (ih h.1))
        step false e ih = ih e

    less : (from count : ℕ) → length (numbers_where (λ k. a k && b k) from count) ≤ length (numbers_where a from count)
    less from zero = omega arith
    less from (suc count) = step (a from) (b from) (less (from + 1) count)
      where
        step : (c d : Bool) → length (numbers_where (λ k. a k && b k) (from + 1) count) ≤ length (numbers_where a (from + 1) count)
            → length (if c && d then from ∷ numbers_where (λ k. a k && b k) (from + 1) count else numbers_where (λ k. a k && b k) (from + 1) count)
            ≤ length (if c then from ∷ numbers_where a (from + 1) count else numbers_where a (from + 1) count)
        step true true ih = omega (arith, ih)
        step true false ih = omega (arith, ih)
        step false d ih = ih

    back : (from count : ℕ) → length (numbers_where (λ k. a k && b k) from count) ≡ length (numbers_where a from count)
        → list_all b (numbers_where a from count) ≡ true
    back from zero e = refl
    back from (suc count) e = step (a from) (b from) refl e (λ h. back (from + 1) count h)
      where
        step : (c d : Bool) → b from ≡ d
            → length (if c && d then from ∷ numbers_where (λ k. a k && b k) (from + 1) count else numbers_where (λ k. a k && b k) (from + 1) count)
            ≡ length (if c then from ∷ numbers_where a (from + 1) count else numbers_where a (from + 1) count)
            → (length (numbers_where (λ k. a k && b k) (from + 1) count) ≡ length (numbers_where a (from + 1) count)
            → list_all b (numbers_where a (from + 1) count) ≡ true)
            → list_all b (if c then from ∷ numbers_where a (from + 1) count else numbers_where a (from + 1) count) ≡ true
        step true true f e ih = and (b from) (list_all b (numbers_where a (from + 1) count)) f (ih (omega (arith, e)))
        step true false f e ih = absurd (omega (arith, e, less (from + 1) count))
        step false d f e ih = ih e

-- the kept numbers in two parts
pub kept-split : (t : ℕ → Bool) (from a b : ℕ) → numbers_where t from (a + b) ≡ numbers_where t from a ++ numbers_where t (from + a) b
kept-split t from zero b = let z : from + 0 ≡ from = add-zero from in let y : 0 + b ≡ b = omega arith in
    ap (numbers_where t from) y ∙ ap (λ k. numbers_where t k b) (sym z)
kept-split t from (suc a) b =
    let z : suc a + b ≡ suc (a + b) = omega arith in
    let y : from + 1 + a ≡ from + suc a = omega arith in
    ap (numbers_where t from) z ∙ step (t from) (kept-split t (from + 1) a b ∙ ap (λ k. numbers_where t (from + 1) a ++ numbers_where t k b) y)
  where
    step : (c : Bool) → numbers_where t (from + 1) (a + b) ≡ numbers_where t (from + 1) a ++ numbers_where t (from + suc a) b
        → (if c then from ∷ numbers_where t (from + 1) (a + b) else numbers_where t (from + 1) (a + b))
        ≡ (if c then from ∷ numbers_where t (from + 1) a else numbers_where t (from + 1) a) ++ numbers_where t (from + suc a) b
    step true ih = ap (λ l. from ∷ l) ih
    step false ih = ih
