-- An element of a list that was changed.
use Rattle.std.proofs.Common.{◌≡◌, ℕ, zero, suc, ◌+◌, ◌<◌, ◌≤◌, List, [], ◌∷◌, ◌++◌, length, map, get_or, Some, refl, ap, sym, ◌∙◌, inl, inr, arith}
use Rattle.std.specs.Prelude.{◌⊎◌, if◌then◌else◌, ◌==◌, slice_get}
use Rattle.std.proofs.lemmas.Bool.{cases_lt}
use Rattle.sctp_util.specs.Lists.{change_at, each_numbered}
use Rattle.sctp_util.proofs.More.{length-changed, changed-same, changed-other}
use Rattle.sctp_util.proofs.Cases.{by_same, same-yes}

pub get-beyond : {A : Type 0} (xs : List A) (k : ℕ) (d : A) → length xs ≤ k → get_or xs k d ≡ d
get-beyond [] k d le = refl
get-beyond (x ∷ xs) zero d le = absurd (omega arith)
get-beyond (x ∷ xs) (suc k) d le = get-beyond xs k d (omega arith)

pub get-snoc_old : {A : Type 0} (xs : List A) (y : A) (k : ℕ) (d : A) → (k ≡ length xs → ⊥) → get_or (xs ++ y ∷ []) k d ≡ get_or xs k d
get-snoc_old [] y zero d ne = absurd (ne refl)
get-snoc_old [] y (suc k) d ne = refl
get-snoc_old (x ∷ xs) y zero d ne = refl
get-snoc_old (x ∷ xs) y (suc k) d ne = get-snoc_old xs y k d (λ e. ne (ap suc e))

pub get-snoc_new : {A : Type 0} (xs : List A) (y : A) (d : A) → get_or (xs ++ y ∷ []) (length xs) d ≡ y
get-snoc_new [] y d = refl
get-snoc_new (x ∷ xs) y d = get-snoc_new xs y d

-- one more element, seen by a function
pub get-snoc : {A B : Type 0} (g : A → B) (xs : List A) (y : A) (k : ℕ) (d : A)
    → g (get_or (xs ++ y ∷ []) k d) ≡ (if k == length xs then g y else g (get_or xs k d))
get-snoc {A} {B} g xs y k d = by_same {P = g (get_or (xs ++ y ∷ []) k d) ≡ (if k == length xs then g y else g (get_or xs k d))} k (length xs)
    (λ e. ap (λ j. g (get_or (xs ++ y ∷ []) j d)) e ∙ ap g (get-snoc_new xs y d)
    ∙ sym (ap (λ b. if b then g y else g (get_or xs k d)) (ap (λ j. k == j) (sym e) ∙ same-yes k)))
    (λ ne f. ap g (get-snoc_old xs y k d ne) ∙ sym (ap (λ b. if b then g y else g (get_or xs k d)) f))

-- a changed element, seen by a function, where the change leaves what stands past the end
pub get-changed : {A B : Type 0} (f : A → A) (g : A → B) (n k : ℕ) (xs : List A) (d : A) → g (f d) ≡ g d
    → g (get_or (change_at f n xs) k d) ≡ (if k == n then g (f (get_or xs k d)) else g (get_or xs k d))
get-changed {A} {B} f g n k xs d fix = by_same {P = g (get_or (change_at f n xs) k d) ≡ (if k == n then g (f (get_or xs k d)) else g (get_or xs k d))} k n
    (λ e. here e (cases_lt n (length xs)) ∙ sym (ap (λ b. if b then g (f (get_or xs k d)) else g (get_or xs k d)) (ap (λ j. k == j) (sym e) ∙ same-yes k)))
    (λ ne t. ap g (changed-other f n k xs d ne) ∙ sym (ap (λ b. if b then g (f (get_or xs k d)) else g (get_or xs k d)) t))
  where
    here : k ≡ n → (n < length xs) ⊎ (length xs ≤ n) → g (get_or (change_at f n xs) k d) ≡ g (f (get_or xs k d))
    here e (inl l) = ap (λ j. g (get_or (change_at f n xs) j d)) e ∙ ap g (changed-same f n xs d l) ∙ ap (λ j. g (f (get_or xs j d))) (sym e)
    here e (inr o) = ap g (get-beyond (change_at f n xs) k d (omega (arith, length-changed f n xs))) ∙ sym fix
        ∙ ap (λ y. g (f y)) (sym (get-beyond xs k d (omega arith)))

pub get-map : {A B : Type 0} (f : A → A) (g : A → B) → ((x : A) → g (f x) ≡ g x) → (k : ℕ) (xs : List A) (d : A) → g (get_or (map f xs) k d) ≡ g (get_or xs k d)
get-map f g keeps k [] d = refl
get-map f g keeps zero (x ∷ xs) d = keeps x
get-map f g keeps (suc k) (x ∷ xs) d = get-map f g keeps k xs d

pub map-twice : {A B C : Type 0} (f : B → C) (g : A → B) (xs : List A) → map f (map g xs) ≡ map (λ x. f (g x)) xs
map-twice f g [] = refl
map-twice f g (x ∷ xs) = ap (λ l. f (g x) ∷ l) (map-twice f g xs)

pub length-mapped : {A B : Type 0} (f : A → B) (xs : List A) → length (map f xs) ≡ length xs
length-mapped f [] = refl
length-mapped f (x ∷ xs) = ap suc (length-mapped f xs)

pub get-numbered : {A B : Type 0} (f : ℕ → A → A) (g : A → B) → ((i : ℕ) (x : A) → g (f i x) ≡ g x) → (from k : ℕ) (xs : List A) (d : A)
    → g (get_or (each_numbered f from xs) k d) ≡ g (get_or xs k d)
get-numbered f g keeps from k [] d = refl
get-numbered f g keeps from zero (x ∷ xs) d = keeps from x
get-numbered f g keeps from (suc k) (x ∷ xs) d = get-numbered f g keeps (from + 1) k xs d

pub length-numbered : {A : Type 0} (f : ℕ → A → A) (from : ℕ) (xs : List A) → length (each_numbered f from xs) ≡ length xs
length-numbered f from [] = refl
length-numbered f from (x ∷ xs) = ap suc (length-numbered f (from + 1) xs)

pub numbered-at : {A : Type 0} (f : ℕ → A → A) (from k : ℕ) (xs : List A) (d : A) → k < length xs
    → get_or (each_numbered f from xs) k d ≡ f (from + k) (get_or xs k d)
numbered-at f from k [] d lt = absurd (omega arith)
numbered-at f from zero (x ∷ xs) d lt = let z : from ≡ from + 0 = omega arith in ap (λ i. f i x) z
numbered-at f from (suc k) (x ∷ xs) d lt = numbered-at f (from + 1) k xs d (omega arith)
    ∙ (let z : from + 1 + k ≡ from + suc k = omega arith in ap (λ i. f i (get_or xs k d)) z)

pub map-at : {A : Type 0} (f : A → A) (k : ℕ) (xs : List A) (d : A) → k < length xs → get_or (map f xs) k d ≡ f (get_or xs k d)
map-at f k [] d lt = absurd (omega arith)
map-at f zero (x ∷ xs) d lt = refl
map-at f (suc k) (x ∷ xs) d lt = map-at f k xs d (omega arith)

pub get-last : {A : Type 0} (xs : List A) (y : A) → slice_get (xs ++ y ∷ []) (length xs) ≡ Some y
get-last [] y = refl
get-last (x ∷ xs) y = get-last xs y

pub slice-front : {A : Type 0} (xs ys : List A) (k : ℕ) → k < length xs → slice_get (xs ++ ys) k ≡ slice_get xs k
slice-front [] ys k lt = absurd (omega arith)
slice-front (x ∷ xs) ys zero lt = refl
slice-front (x ∷ xs) ys (suc k) lt = slice-front xs ys k (omega arith)
