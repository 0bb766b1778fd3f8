-- Sums over numbers.
use Rattle.std.proofs.Common.{◌≡◌, ℕ, zero, suc, ◌+◌, ◌<◌, ◌≤◌, Bool, true, false, List, [], ◌∷◌, ◌++◌, length, map, refl, ap, sym, ◌∙◌, inl, inr, arith}
use Rattle.std.proofs.Common.{zero-add, length-append}
use Rattle.std.specs.Prelude.{◌⊎◌, if◌then◌else◌, ◌&&◌, not}
use Rattle.std.proofs.Math.Nat.{eq-or-lt_of_le}
use Rattle.std.specs.List.{flat_map}
use Rattle.sctp_util.specs.Kept.{numbers_where, always, total_over}
use Rattle.sctp_util.proofs.More.{not_both}

pub length-numbers : (from count : ℕ) → length (numbers_where always from count) ≡ count
length-numbers from zero = refl
length-numbers from (suc count) = ap suc (length-numbers (from + 1) count)

-- the elements gathered from the numbers that pass
pub length-gathered : {A : Type 0} (f : ℕ → List A) (p : ℕ → Bool) (from count : ℕ)
    → length (flat_map f (numbers_where p from count)) ≡ total_over (λ n. if p n then length (f n) else 0) (numbers_where always from count)
length-gathered f p from zero = refl
length-gathered f p from (suc count) = step (p from) (length-gathered f p (from + 1) count)
  where
    step : (b : Bool) → length (flat_map f (numbers_where p (from + 1) count)) ≡ total_over (λ n. if p n then length (f n) else 0)
        (numbers_where always (from + 1) count) → length (flat_map f (if b then from ∷ numbers_where p (from + 1) count else numbers_where p (from + 1) count))
        ≡ (if b then length (f from) else 0) + total_over (λ n. if p n then length (f n) else 0) (numbers_where always (from + 1) count)
    step true ih = omega (arith, length-append (f from) (flat_map f (numbers_where p (from + 1) count)), ih)
    step false ih = omega (arith, ih)

-- two sums at once
pub total-plus : (f g h : ℕ → ℕ) (p : ℕ → Bool) (from count : ℕ) → ((k : ℕ) → from ≤ k → k < from + count → f k + g k ≡ h k)
    → total_over f (numbers_where p from count) + total_over g (numbers_where p from count) ≡ total_over h (numbers_where p from count)
total-plus f g h p from zero same = refl
total-plus f g h p from (suc count) same =
    step (p from) (same from (omega arith) (omega arith)) (total-plus f g h p (from + 1) count (λ k a b. same k (omega arith) (omega arith)))
  where
    step : (b : Bool) → f from + g from ≡ h from → total_over f (numbers_where p (from + 1) count) + total_over g (numbers_where p (from + 1) count)
        ≡ total_over h (numbers_where p (from + 1) count) → total_over f (if b then from ∷ numbers_where p (from + 1) count
        else numbers_where p (from + 1) count) + total_over g (if b then from ∷ numbers_where p (from + 1) count else numbers_where p (from + 1) count)
        ≡ total_over h (if b then from ∷ numbers_where p (from + 1) count else numbers_where p (from + 1) count)
    step true e ih = omega (arith, e, ih)
    step false e ih = ih

pub total-none : (f : ℕ → ℕ) (from count : ℕ) → ((k : ℕ) → from ≤ k → k < from + count → f k ≡ 0) → total_over f (numbers_where always from count) ≡ 0
total-none f from zero none = refl
total-none f from (suc count) none =
    omega (arith, none from (omega arith) (omega arith), total-none f (from + 1) count (λ k a b. none k (omega arith) (omega arith)))

pub total-at : (f : ℕ → ℕ) (n from count : ℕ) → from ≤ n → n < from + count → f n ≤ total_over f (numbers_where always from count)
total-at f n from zero a b = absurd (omega arith)
total-at f n from (suc count) a b = step (eq-or-lt_of_le a) (λ l. total-at f n (from + 1) count l (omega arith))
  where
    step : (from ≡ n) ⊎ (from < n) → (from + 1 ≤ n → f n ≤ total_over f (numbers_where always (from + 1) count))
        → f n ≤ f from + total_over f (numbers_where always (from + 1) count)
    step (inl e) ih = omega (arith, ap f e)
    step (inr l) ih = omega (arith, ih (omega arith))

-- one term changes
pub total-one : (f g : ℕ → ℕ) (n d from count : ℕ) → from ≤ n → n < from + count → ((k : ℕ) → (k ≡ n → ⊥) → f k ≡ g k) → f n + d ≡ g n
    → total_over f (numbers_where always from count) + d ≡ total_over g (numbers_where always from count)
total-one f g n d from zero a b same here = absurd (omega arith)
total-one f g n d from (suc count) a b same here = step (eq-or-lt_of_le a) (λ l. total-one f g n d (from + 1) count l (omega arith) same here)
  where
    rest : (j c : ℕ) → n < j → total_over f (numbers_where always j c) ≡ total_over g (numbers_where always j c)
    rest j zero lt = refl
    rest j (suc c) lt = omega (arith, same j (λ e. absurd (omega arith)), rest (j + 1) c (omega arith))

    step : (from ≡ n) ⊎ (from < n)
        → (from + 1 ≤ n → total_over f (numbers_where always (from + 1) count) + d ≡ total_over g (numbers_where always (from + 1) count))
        → f from + total_over f (numbers_where always (from + 1) count) + d ≡ g from + total_over g (numbers_where always (from + 1) count)
    step (inl e) ih = omega (arith, ap f e, ap g e, here, rest (from + 1) count (omega arith))
    step (inr l) ih = omega (arith, same from (λ e. absurd (omega arith)), ih (omega arith))

pub total-le : (f g : ℕ → ℕ) (from count : ℕ) → ((k : ℕ) → from ≤ k → k < from + count → f k ≤ g k)
    → total_over f (numbers_where always from count) ≤ total_over g (numbers_where always from count)
total-le f g from zero le = omega arith
total-le f g from (suc count) le = omega (arith, le from (omega arith) (omega arith), total-le f g (from + 1) count (λ k a b. le k (omega arith) (omega arith)))

pub total-append : (f : ℕ → ℕ) (xs ys : List ℕ) → total_over f (xs ++ ys) ≡ total_over f xs + total_over f ys
total-append f [] ys = omega arith
total-append f (x ∷ xs) ys = omega (arith, total-append f xs ys)

pub total-kept_same : (f g : ℕ → ℕ) (p : ℕ → Bool) (from count : ℕ) → ((k : ℕ) → from ≤ k → k < from + count → f k ≡ g k)
    → total_over f (numbers_where p from count) ≡ total_over g (numbers_where p from count)
total-kept_same f g p from zero same = refl
total-kept_same f g p from (suc count) same =
    step (p from) (same from (omega arith) (omega arith)) (total-kept_same f g p (from + 1) count (λ k a b. same k (omega arith) (omega arith)))
  where
    step : (b : Bool) → f from ≡ g from → total_over f (numbers_where p (from + 1) count) ≡ total_over g (numbers_where p (from + 1) count)
        → total_over f (if b then from ∷ numbers_where p (from + 1) count else numbers_where p (from + 1) count)
        ≡ total_over g (if b then from ∷ numbers_where p (from + 1) count else numbers_where p (from + 1) count)
    step true e ih = omega (arith, e, ih)
    step false e ih = ih

-- the numbers from one on, one further
pub total-shift : (f : ℕ → ℕ) (from count : ℕ)
    → total_over f (numbers_where always (from + 1) count) ≡ total_over (λ i. f (i + 1)) (numbers_where always from count)
total-shift f from zero = refl
total-shift f from (suc count) = omega (arith, total-shift f (from + 1) count)

pub numbers-append : (a b : ℕ) → numbers_where always 0 a ++ numbers_where always a b ≡ numbers_where always 0 (a + b)
numbers-append a b = go 0 a a b (omega arith)
  where
    go : (from count next more : ℕ) → next ≡ from + count
        → numbers_where always from count ++ numbers_where always next more ≡ numbers_where always from (count + more)
    go from zero next more e = let z : next ≡ from = omega arith in
        ap (λ n. numbers_where always n more) z ∙ ap (numbers_where always from) (sym (zero-add more))
    go from (suc count) next more e = ap (λ l. from ∷ l) (go (from + 1) count next more (omega arith))
        ∙ ap (numbers_where always from) (let z : suc (count + more) ≡ suc count + more = omega arith in z)

-- what passes either test
pub total-split : (f : ℕ → ℕ) (p q : ℕ → Bool) (from count : ℕ) → total_over f (numbers_where (λ k. p k && not (q k)) from count)
    + total_over f (numbers_where (λ k. p k && q k) from count) ≡ total_over f (numbers_where p from count)
total-split f p q from zero = refl
total-split f p q from (suc count) = step (p from) (q from) (total-split f p q (from + 1) count)
  where
    step : (b c : Bool) → total_over f (numbers_where (λ k. p k && not (q k)) (from + 1) count)
        + total_over f (numbers_where (λ k. p k && q k) (from + 1) count) ≡ total_over f (numbers_where p (from + 1) count) → total_over f (if b && not c
        then from ∷ numbers_where (λ k. p k && not (q k)) (from + 1) count else numbers_where (λ k. p k && not (q k)) (from + 1) count)
        + total_over f (if b && c then from ∷ numbers_where (λ k. p k && q k) (from + 1) count else numbers_where (λ k. p k && q k) (from + 1) count)
        ≡ total_over f (if b then from ∷ numbers_where p (from + 1) count else numbers_where p (from + 1) count)
    step true true ih = omega (arith, ih)
    step true false ih = omega (arith, ih)
    step false c ih = ih

pub total-map : (f g : ℕ → ℕ) (xs : List ℕ) → total_over (λ k. f (g k)) xs ≡ total_over f (map g xs)
total-map f g [] = refl
total-map f g (x ∷ xs) = omega (arith, total-map f g xs)

pub total-wider : (f : ℕ → ℕ) (p q : ℕ → Bool) (from count : ℕ) → ((k : ℕ) → from ≤ k → k < from + count → p k ≡ true → q k ≡ true)
    → total_over f (numbers_where p from count) ≤ total_over f (numbers_where q from count)
total-wider f p q from zero more = omega arith
total-wider f p q from (suc count) more = step (p from) (q from) refl refl (total-wider f p q (from + 1) count (λ k a b. more k (omega arith) (omega arith)))
  where
    step : (b c : Bool) → p from ≡ b → q from ≡ c → total_over f (numbers_where p (from + 1) count) ≤ total_over f (numbers_where q (from + 1) count)
        → total_over f (if b then from ∷ numbers_where p (from + 1) count else numbers_where p (from + 1) count)
        ≤ total_over f (if c then from ∷ numbers_where q (from + 1) count else numbers_where q (from + 1) count)
    step true true e h ih = omega (arith, ih)
    step true false e h ih = absurd (not_both (sym h ∙ more from (omega arith) (omega arith) e))
    step false true e h ih = omega (arith, ih)
    step false false e h ih = ih

pub total-where : (f : ℕ → ℕ) (p : ℕ → Bool) (from count : ℕ)
    → total_over f (numbers_where p from count) ≡ total_over (λ n. if p n then f n else 0) (numbers_where always from count)
total-where f p from zero = refl
total-where f p from (suc count) = step (p from) (total-where f p (from + 1) count)
  where
    step : (b : Bool) → total_over f (numbers_where p (from + 1) count) ≡ total_over (λ n. if p n then f n else 0) (numbers_where always (from + 1) count)
        → total_over f (if b then from ∷ numbers_where p (from + 1) count else numbers_where p (from + 1) count)
        ≡ (if b then f from else 0) + total_over (λ n. if p n then f n else 0) (numbers_where always (from + 1) count)
    step true ih = omega (arith, ih)
    step false ih = omega (arith, ih)
