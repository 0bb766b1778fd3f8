-- Lists that are tested, changed, put into order or cut.
use Rattle.sctp_model.proofs.Names.{◌≡◌, ℕ, suc, ◌<◌, Bool, true, List, [], ◌∷◌, length, get_or, refl, arith, zero, ◌+◌, false, Some, ap, sym, ◌∙◌, take, ◌≤◌}
use Rattle.sctp_model.proofs.Names.{drop, None, ◌++◌, map, list_all, list_any, filter, slice_get, find, if◌then◌else◌, slice_index_or, is_some, min, subst, and}
use Rattle.sctp_model.proofs.Names.{change_at, change_where, insert_before, pieces, nat_tests}
use Rattle.std.proofs.Common.{length-take}
use Rattle.std.specs.List.{AllByRecursion}
use Rattle.std.specs.Prelude.{slice_set}
use Rattle.std.proofs.lemmas.Option.{slice_get-get_or}
use Rattle.std.proofs.lemmas.List.Folds.{list_all_more}
use Rattle.std.proofs.Math.ListN.{drop_of_length-le}
use Rattle.std.proofs.Math.Seq.{drop-cons}
use Rattle.sctp_data.specs.declared.chunk.chunk_selective_ack.GapAckBlock.{GapAckBlock}

-- ## Tests of all and of some

-- each element passes
pub all-from : {X : Type 0} (p : X → Bool) (xs : List X) → ((i : ℕ) (d : X) → i < length xs → p (get_or xs i d) ≡ true) → list_all p xs ≡ true
all-from p [] h = refl
all-from p (x ∷ xs) h = and (p x) (list_all p xs) (h 0 x (omega arith)) (all-from p xs (λ i d lt. h (suc i) d (omega (arith, lt))))

pub all-more : {X : Type 0} (P : X → Bool) (rs : List X) (i : ℕ) (b : Bool) → i < length rs → ((r : X) → slice_get rs i ≡ Some r → b ≡ P r)
    → list_all P (take i rs) ≡ true → list_all P (take (i + 1) rs) ≡ b
all-more P [] i b lt h e = absurd (omega arith)
all-more P (r ∷ rs) i b lt h e = cc (list_all_more P (r ∷ rs) i r lt, e, h (get_or (r ∷ rs) i r) (slice_get-get_or (r ∷ rs) i r lt))

pub all-no : {X : Type 0} (P : X → Bool) (rs : List X) (i : ℕ) → list_all P (take i rs) ≡ false → list_all P rs ≡ false
all-no P rs zero e = cc
all-no P [] (suc i) e = cc
all-no P (r ∷ rs) (suc i) e = grind (arith, nat_tests, all-no P rs i)

pub any-same : (p q : GapAckBlock → Bool) (old new : List GapAckBlock) → length new ≡ length old
    → ((i : ℕ) (d : GapAckBlock) → i < length old → p (get_or new i d) ≡ q (get_or old i d)) → list_any p new ≡ list_any q old
any-same p q [] [] e h = refl
any-same p q [] (c ∷ cs) e h = absurd (omega (arith, e))
any-same p q (b ∷ bs) [] e h = absurd (omega (arith, e))
any-same p q (b ∷ bs) (c ∷ cs) e h = cc (h 0 b (omega arith), any-same p q bs cs (omega (arith, e)) (λ i d lt. h (suc i) d (omega (arith, lt))))

-- one TSN further in the search
pub found-step : (p : ℕ → Bool) (ts : List ℕ) (i : ℕ) (b : Bool) → i < length ts → p (get_or ts i 0) ≡ b → find p ts ≡ find p (drop i ts)
    → find p ts ≡ (if b then Some (get_or ts i 0) else find p (drop (i + 1) ts))
found-step p ts i b lt e h = cc (h, drop-cons ts i 0 lt, e, (let z : suc i ≡ i + 1 = omega arith in z))

-- past its end
pub found-none : (p : ℕ → Bool) (ts : List ℕ) (i : ℕ) → length ts ≤ i → find p ts ≡ find p (drop i ts) → None ≡ find p ts
found-none p ts i le h = sym (h ∙ ap (find p) (drop_of_length-le ts le))

pub all_last : {X : Type 0} (P : X → Type 0) (xs : List X) (x : X) → AllByRecursion P (xs ++ x ∷ []) → P x
all_last P [] x all = all.0
all_last P (y ∷ ys) x all = all_last P ys x all.1

pub front_all : {X : Type 0} (P : X → Type 0) (xs : List X) (x : X) → AllByRecursion P (xs ++ x ∷ []) → AllByRecursion P xs
front_all P [] x all = tt
front_all P (y ∷ ys) x all = (all.0, front_all P ys x all.1)

-- ## Changes

-- an element is changed in its place
pub set-changed : {A : Type 0} (f : A → A) (xs : List A) (i : ℕ) (d : A) → i < length xs → slice_set xs i (f (slice_index_or xs i d)) ≡ change_at f i xs
set-changed f [] i d lt = absurd (omega arith)
set-changed f (x ∷ xs) zero d lt = refl
set-changed f (x ∷ xs) (suc i) d lt = ap (λ ys. x ∷ ys) (set-changed f xs i d (omega arith))

pub map-set : {A B : Type 0} (f : A → B) (g : B → B) (xs : List A) (i : ℕ) (y d : A) → i < length xs → f y ≡ g (f (slice_index_or xs i d))
    → map f (slice_set xs i y) ≡ change_at g i (map f xs)
map-set f g [] i y d lt e = absurd (omega arith)
map-set f g (x ∷ xs) zero y d lt e = ap (λ b. b ∷ map f xs) e
map-set f g (x ∷ xs) (suc i) y d lt e = ap (λ bs. f x ∷ bs) (map-set f g xs i y d (omega arith) e)

-- none is changed where none is found
pub none-changed : {X : Type 0} (p : X → Bool) (f : X → X) (xs : List X) → is_some (find p xs) ≡ false → change_where p f xs ≡ xs
none-changed p f [] none = refl
none-changed p f (x ∷ xs) none = grind (arith, nat_tests, none-changed p f xs)

pub same-at : {A B : Type 0} (f : A → ℕ) (g : B → ℕ) (xs : List A) (ys : List B) (k : ℕ) (d : A) (e : B) → map f xs ≡ map g ys → k < length xs
    → f (slice_index_or xs k d) ≡ g (slice_index_or ys k e)
same-at f g [] ys k d e same lt = absurd (omega (arith, lt))
same-at f g (x ∷ xs) [] k d e same lt = cc
same-at f g (x ∷ xs) (y ∷ ys) zero d e same lt = cc
same-at f g (x ∷ xs) (y ∷ ys) (suc k) d e same lt = let h : map f xs ≡ map g ys = cc in same-at f g xs ys k d e h (omega (arith, lt))

-- one change after another
pub twice : {X : Type 0} (p : X → Bool) (f g : X → X) → ((x : X) → p (f x) ≡ p x) → (xs : List X)
    → change_where p g (change_where p f xs) ≡ change_where p (λ x. g (f x)) xs
twice p f g same [] = refl
twice p f g same (x ∷ xs) = grind (arith, nat_tests, twice p f g same xs)

pub unchanged : {A : Type 0} (p : A → Bool) (f : A → A) → ((x : A) → f x ≡ x) → (xs : List A) → change_where p f xs ≡ xs
unchanged p f same [] = refl
unchanged p f same (x ∷ xs) = grind (arith, nat_tests, unchanged p f same xs)

-- ## Parts

-- what doesn't pass is left out, wherever it was put
pub filter-inserted : {X : Type 0} (p : X → Bool) (before : X → X → Bool) (x : X) (xs : List X) → p x ≡ false
    → filter p (insert_before before x xs) ≡ filter p xs
filter-inserted p before x [] out = ap (λ b. if b then x ∷ [] else []) out
filter-inserted p before x (e ∷ es) out = grind (arith, nat_tests, filter-inserted p before x es out)

pub length-inserted : {X : Type 0} (before : X → X → Bool) (x : X) (xs : List X) → length (insert_before before x xs) ≡ length xs + 1
length-inserted before x [] = refl
length-inserted before x (e ∷ es) = grind (arith, nat_tests, length-inserted before x es)

-- no more are taken than there are
pub take-min : {A : Type 0} (n k : ℕ) (xs : List A) → k ≡ min n (length xs) → take k xs ≡ take n xs
take-min zero zero [] e = refl
take-min (suc n) zero [] e = refl
take-min n (suc k) [] e = absurd (omega (arith, e))
take-min zero k (x ∷ xs) e = let z : k ≡ 0 = omega (arith, e) in ap (λ j. take j (x ∷ xs)) z
take-min (suc n) zero (x ∷ xs) e = absurd (omega (arith, e))
take-min (suc n) (suc k) (x ∷ xs) e = ap (λ l. x ∷ l) (take-min n k xs (omega (arith, e)))

pub piece-short : (most size : ℕ) (bytes : List ℕ) (i : ℕ) → length (get_or (pieces most size bytes) i []) ≤ size
piece-short zero size bytes i = omega arith
piece-short (suc most) size [] i = omega arith
piece-short (suc most) size (x ∷ xs) zero = omega (arith, length-take size (x ∷ xs))
piece-short (suc most) size (x ∷ xs) (suc i) = piece-short most size (drop size (x ∷ xs)) i

-- a new message has the index that stands past the last one
pub progress-more : (ps : List (ℕ × ℕ)) (n : ℕ) → slice_index_or (ps ++ (0, 0) ∷ []) n (0, 0) ≡ slice_index_or ps n (0, 0)
progress-more [] zero = refl
progress-more [] (suc n) = refl
progress-more (p ∷ ps) zero = refl
progress-more (p ∷ ps) (suc n) = progress-more ps n

-- what holds of an element that is put at a place, and of all others, holds of each
pub each-put : {X : Type 0} (P : ℕ → X → Type 0) (xs : List X) (j : ℕ) (y : X) → P j y
    → ((k : ℕ) (d : X) → k < length xs → d ≡ slice_index_or xs k d → (k ≡ j → ⊥) → P k d)
    → (k : ℕ) (d : X) → k < length (slice_set xs j y) → d ≡ slice_index_or (slice_set xs j y) k d → P k d
each-put P [] j y here rest k d lt e = absurd (omega (arith, lt))
each-put P (x ∷ xs) zero y here rest zero d lt e = subst (P zero) (sym e) here
each-put P (x ∷ xs) zero y here rest (suc k) d lt e = rest (suc k) d (omega (arith, lt)) e (λ z. omega (arith, z))
each-put P (x ∷ xs) (suc j) y here rest zero d lt e = rest zero d (omega arith) e (λ z. omega (arith, z))
each-put P (x ∷ xs) (suc j) y here rest (suc k) d lt e =
    each-put (λ i. P (suc i)) xs j y here (λ i z less f ne. rest (suc i) z (omega (arith, less)) f (λ q. ne (omega (arith, q)))) k d (omega (arith, lt)) e
