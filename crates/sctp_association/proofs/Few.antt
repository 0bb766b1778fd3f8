-- Numbers of which none is there twice, all below a number, are no more than that.
use Rattle.std.proofs.Common.{◌≡◌, ℕ, zero, suc, ◌+◌, ◌<◌, ◌≤◌, Bool, true, false, List, [], ◌∷◌, length, refl, ap, sym, subst, arith}
use Rattle.std.specs.Prelude.{not, ◌&&◌, ◌||◌, ◌==◌, if◌then◌else◌}
use Rattle.std.specs.List.{AllByRecursion, list_any, filter}
use Rattle.std.proofs.lemmas.Bool.{false≢true}
use Rattle.std.proofs.lemmas.Bool.Decides.{nat_tests}
use Rattle.sctp_receiver.proofs.StreamCosts.{are_apart}

abbrev pub AreBelow : ℕ → List ℕ → Type 0
AreBelow n ns = AllByRecursion (λ k. k < n) ns

abbrev others : ℕ → List ℕ → List ℕ
others n ns = filter (λ k. not (k == n)) ns

first : (a b : Bool) → not a && b ≡ true → (a ≡ false) × (b ≡ true)
first true b e = absurd (false≢true e)
first false b e = (refl, e)

none-of : (a b : Bool) → a || b ≡ false → (a ≡ false) × (b ≡ false)
none-of true b e = absurd (false≢true (sym e))
none-of false b e = (refl, e)

all-others : (n : ℕ) (ns : List ℕ) → list_any (λ k. k == n) ns ≡ false → others n ns ≡ ns
all-others n [] e = refl
all-others n (k ∷ ks) e =
    let h = none-of (k == n) (list_any (λ m. m == n) ks) e in
    subst (λ b. (if not b then k ∷ others n ks else others n ks) ≡ k ∷ ks) (sym h.0) (ap (λ ms. k ∷ ms) (all-others n ks h.1))

but-one : (n : ℕ) (ns : List ℕ) → are_apart ns ≡ true → length ns ≤ length (others n ns) + 1
but-one n [] e = omega arith
but-one n (k ∷ ks) e = by (k == n) refl (but-one n ks parts.1)
  where
    parts : (list_any (λ m. m == k) ks ≡ false) × (are_apart ks ≡ true)
    parts = first (list_any (λ m. m == k) ks) (are_apart ks) e

    by : (b : Bool) → (k == n) ≡ b → length ks ≤ length (others n ks) + 1
        → length (k ∷ ks) ≤ length (if not b then k ∷ others n ks else others n ks) + 1
    by true h ih =
        let same : k ≡ n = grind (arith, nat_tests, h) in
        let all = all-others n ks (subst (λ m. list_any (λ j. j == m) ks ≡ false) same parts.0) in
        omega (arith, ap length all)
    by false h ih = omega (arith, ih)

never-any : (n : ℕ) (p : ℕ → Bool) (ns : List ℕ) → list_any (λ k. k == n) ns ≡ false → list_any (λ k. k == n) (filter p ns) ≡ false
never-any n p [] e = refl
never-any n p (k ∷ ks) e = by (p k) (never-any n p ks h.1)
  where
    h : ((k == n) ≡ false) × (list_any (λ m. m == n) ks ≡ false)
    h = none-of (k == n) (list_any (λ m. m == n) ks) e

    by : (b : Bool) → list_any (λ m. m == n) (filter p ks) ≡ false → list_any (λ m. m == n) (if b then k ∷ filter p ks else filter p ks) ≡ false
    by true ih = subst (λ a. a || list_any (λ m. m == n) (filter p ks) ≡ false) (sym h.0) ih
    by false ih = ih

both-true : (a b : Bool) → a ≡ false → b ≡ true → not a && b ≡ true
both-true false b e h = h
both-true true b e h = absurd (false≢true (sym e))

kept-apart : (p : ℕ → Bool) (ns : List ℕ) → are_apart ns ≡ true → are_apart (filter p ns) ≡ true
kept-apart p [] e = refl
kept-apart p (k ∷ ks) e = by (p k) (kept-apart p ks parts.1)
  where
    parts : (list_any (λ m. m == k) ks ≡ false) × (are_apart ks ≡ true)
    parts = first (list_any (λ m. m == k) ks) (are_apart ks) e

    by : (b : Bool) → are_apart (filter p ks) ≡ true → are_apart (if b then k ∷ filter p ks else filter p ks) ≡ true
    by true ih = both-true (list_any (λ m. m == k) (filter p ks)) (are_apart (filter p ks)) (never-any k p ks parts.0) ih
    by false ih = ih

others-below : (n : ℕ) (ns : List ℕ) → AreBelow (suc n) ns → AreBelow n (others n ns)
others-below n [] h = tt
others-below n (k ∷ ks) h = by (k == n) refl (others-below n ks h.1)
  where
    by : (b : Bool) → (k == n) ≡ b → AreBelow n (others n ks) → AreBelow n (if not b then k ∷ others n ks else others n ks)
    by true e ih = ih
    by false e ih = (grind (arith, nat_tests, e, h.0), ih)

pub no-more : (n : ℕ) (ns : List ℕ) → are_apart ns ≡ true → AreBelow n ns → length ns ≤ n
no-more zero [] e h = omega arith
no-more zero (k ∷ ks) e h = omega (arith, h.0)
no-more (suc n) ns e h =
    let less = no-more n (others n ns) (kept-apart (λ k. not (k == n)) ns e) (others-below n ns h) in
    omega (arith, less, but-one n ns e)
