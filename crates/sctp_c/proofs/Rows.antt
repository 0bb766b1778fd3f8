-- Rows that are filled from the first on.
use Rattle.std.proofs.Common.{◌≡◌, ℕ, ◌<◌, ◌≤◌, List, [], ◌∷◌, ◌++◌, length, slice_index_or, slice_set, ap, refl, sym, ◌∙◌, inl, inr, arith}
use Rattle.std.specs.Prelude.{◌⊎◌, zero, suc, take, drop, map, min}
use Rattle.std.proofs.lemmas.Bool.{cases_lt}
use Rattle.std.proofs.lemmas.List.{drop-append-le, drop_at}
use Rattle.std.proofs.Math.Seq.{drop-nil, take-nil}
use Rattle.sctp_util.proofs.EachAt.{length_each}
use Rattle.sctp_util.specs.Each.{each}

-- what follows an item
pub drop-tail : {T : Type 0} (i : ℕ) (xs : List T) (x : T) (rest : List T) → drop i xs ≡ x ∷ rest → drop (suc i) xs ≡ rest
drop-tail zero [] x rest e = absurd (omega (arith, ap length e))
drop-tail zero (y ∷ ys) x rest e = search e
drop-tail (suc i) [] x rest e = absurd (omega (arith, ap length e))
drop-tail (suc i) (y ∷ ys) x rest e = drop-tail i ys x rest e

-- one more row is filled
pub filled-step : {T : Type 0} (i : ℕ) (xs old : List T) (x : T) (rest : List T) → drop i xs ≡ x ∷ rest → i < length old
    → slice_set (take i xs ++ drop i old) i x ≡ take (suc i) xs ++ drop (suc i) old
filled-step i [] old x rest e lt = let none = rw drop-nil at e in absurd (omega (arith, ap length none))
filled-step i (y ∷ ys) [] x rest e lt = absurd (omega arith)
filled-step zero (y ∷ ys) (o ∷ os) x rest e lt = search e
filled-step (suc i) (y ∷ ys) (o ∷ os) x rest e lt = ap (λ r. y ∷ r) (filled-step i ys os x rest e (omega arith))

-- as many rows as there are, or as many items, are filled
pub filled-done : {T : Type 0} (n : ℕ) (xs old : List T) → n ≡ min (length old) (length xs)
    → take n xs ++ drop n old ≡ take (length old) xs ++ drop (length xs) old
filled-done n [] old e =
    let none : n ≡ 0 = omega arith in
    rw none (rw take-nil refl)
filled-done n (x ∷ xs) [] e =
    let none : n ≡ 0 = omega arith in
    rw none refl
filled-done zero (x ∷ xs) (o ∷ os) e = absurd (omega arith)
filled-done (suc n) (x ∷ xs) (o ∷ os) e = ap (λ r. x ∷ r) (filled-done n xs os (omega arith))

-- the items from one on, each as a function gives it
pub drop-map : {A B : Type 0} (f : A → B) (i : ℕ) (xs : List A) (d : A) → i < length xs
    → drop i (map f xs) ≡ f (slice_index_or xs i d) ∷ drop (suc i) (map f xs)
drop-map f i [] d lt = absurd (omega arith)
drop-map f zero (x ∷ xs) d lt = refl
drop-map f (suc i) (x ∷ xs) d lt = drop-map f i xs d (omega arith)

-- an item that a function is applied to
pub map-next : {A B : Type 0} (g : A → B) (i : ℕ) (xs : List A) (x : A) (rest : List A) → drop i xs ≡ x ∷ rest → drop i (map g xs) ≡ g x ∷ map g rest
map-next g zero xs x rest e = ap (λ l. map g l) e
map-next g (suc i) [] x rest e = absurd (omega (arith, ap length e))
map-next g (suc i) (y ∷ ys) x rest e = map-next g i ys x rest e

-- the items that a function gives for 0, 1 and so on, from one on
pub drop-each : {A : Type 0} (i n : ℕ) (f : ℕ → A) → i < n → drop i (each n f) ≡ f i ∷ drop (suc i) (each n f)
unfolding each
drop-each i zero f lt = absurd (omega (arith, lt))
drop-each {A} i (suc n) f lt = by (λ less. drop-each i n f less) (cases_lt i n)
  where
    last : List A
    last = f n ∷ []

    by : (i < n → drop i (each n f) ≡ f i ∷ drop (suc i) (each n f)) → (i < n) ⊎ (n ≤ i) → drop i (each n f ++ last) ≡ f i ∷ drop (suc i) (each n f ++ last)
    by before (inl less) =
        let size : length (each n f) ≡ n = length_each n f in
        let front : drop i (each n f ++ last) ≡ drop i (each n f) ++ last = drop-append-le i (each n f) last (omega (arith, less, size)) in
        let rest : drop (suc i) (each n f ++ last) ≡ drop (suc i) (each n f) ++ last = drop-append-le (suc i) (each n f) last (omega (arith, less, size)) in
        front ∙ ap (λ (l : List A). l ++ last) (before less) ∙ ap (λ (l : List A). f i ∷ l) (sym rest)
    by before (inr le) =
        let same : i ≡ n = omega (arith, le, lt) in
        let end : drop i (each n f ++ last) ≡ f n ∷ [] = drop_at (each n f) last i (length_each n f ∙ sym same) in
        let none : drop (suc i) (each n f ++ last) ≡ [] = drop-tail i (each n f ++ last) (f n) [] end in
        end ∙ ap (λ (k : ℕ). f k ∷ []) (sym same) ∙ ap (λ (l : List A). f i ∷ l) (sym none)
