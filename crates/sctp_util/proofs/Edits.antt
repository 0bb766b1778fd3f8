-- Lists that are changed in place: one element put in, taken out or changed, and loops that do so.
use Rattle.std.proofs.Common.{◌≡◌, ◌≢◌, ℕ, zero, suc, ◌+◌, ◌-◌, ◌<◌, ◌≤◌, Bool, true, false, ◌||◌, not, cond, if◌then◌else◌, List, [], ◌∷◌, ◌++◌, length}
use Rattle.std.proofs.Common.{get_or, set, take, drop, map, None, ◌∙◌, sym, refl, ap, subst, inl, inr, add-one, arith}
use Rattle.std.specs.List.{All, AllPairs, filter, insert, remove, find, list_any, sum_by}
use Rattle.std.proofs.lemmas.Bool.{cases_lt, cases_eq}
use Rattle.std.proofs.lemmas.List.Elements.{All-head, All-tail}
use Rattle.std.proofs.lemmas.List.Edits.{length-insert, get_or-insert_below, get_or-insert_at, get_or-insert_above, map_over_more}
use Rattle.std.proofs.lemmas.List.Filters.{sum_by-filter_both}
use Rattle.std.proofs.lemmas.List.Sums.{sum_by-cons}
use Rattle.std.proofs.lemmas.List.{set-get_or}
use Rattle.sctp_util.specs.Lists.{insert_before, change_where}

module _ {X : Type 0} (p : X → Bool) where
  -- in std's words
  pub those-filter : (xs : List X) → filter p xs ≡ filter p xs
  those-filter [] = refl
  those-filter (x ∷ xs) = ap (λ ys. cond (p x) (x ∷ ys) ys) (those-filter xs)

  pub change_where-map : (f : X → X) (xs : List X) → change_where p f xs ≡ map (λ x. if p x then f x else x) xs
  change_where-map f [] = refl
  change_where-map f (x ∷ xs) = ap (λ ys. (if p x then f x else x) ∷ ys) (change_where-map f xs)

  pub length-change_where : (f : X → X) (xs : List X) → length (change_where p f xs) ≡ length xs
  length-change_where f [] = refl
  length-change_where f (x ∷ xs) = ap suc (length-change_where f xs)

  pub those-append : (xs ys : List X) → filter p (xs ++ ys) ≡ filter p xs ++ filter p ys
  those-append [] ys = refl
  those-append (x ∷ xs) ys = put_before x _ _ _ (p x) (those-append xs ys)
    where
      put_before : (x : X) (u v w : List X) (b : Bool) → u ≡ v ++ w → (if b then x ∷ u else u) ≡ (if b then x ∷ v else v) ++ w
      put_before x u v w true e = ap (λ zs. x ∷ zs) e
      put_before x u v w false e = e

  pub change_where-append : (f : X → X) (xs ys : List X) → change_where p f (xs ++ ys) ≡ change_where p f xs ++ change_where p f ys
  change_where-append f [] ys = refl
  change_where-append f (x ∷ xs) ys = ap (λ zs. (if p x then f x else x) ∷ zs) (change_where-append f xs ys)

  -- where none passes, none is changed
  pub change_where-none : (f : X → X) (xs : List X) → All (λ x. p x ≡ false) xs → change_where p f xs ≡ xs
  change_where-none f [] h = refl
  change_where-none f (x ∷ xs) h = rw (All-head (λ y. p y ≡ false) x xs h) (ap (λ ys. x ∷ ys) (change_where-none f xs (All-tail (λ y. p y ≡ false) x xs h)))

  -- where none passes, all that fail is all
  pub those-none : (xs : List X) → All (λ x. p x ≡ false) xs → filter (λ x. not (p x)) xs ≡ xs
  those-none [] h = refl
  those-none (x ∷ xs) h = rw (All-head (λ y. p y ≡ false) x xs h) (ap (λ ys. x ∷ ys) (those-none xs (All-tail (λ y. p y ≡ false) x xs h)))

  pub find-none : (xs : List X) → All (λ x. p x ≡ false) xs → find p xs ≡ None
  find-none [] h = refl
  find-none (x ∷ xs) h = rw (All-head (λ y. p y ≡ false) x xs h) (find-none xs (All-tail (λ y. p y ≡ false) x xs h))

  -- the one place that passes
  pub record OnlyAt (xs : List X) (i : ℕ) : Type 0 where
    pub in_range : i < length xs
    pub here : (d : X) → p (get_or xs i d) ≡ true
    pub elsewhere : (k : ℕ) (d : X) → k < length xs → k ≢ i → p (get_or xs k d) ≡ false

  only_tail : (x : X) (xs : List X) (i : ℕ) → OnlyAt (x ∷ xs) (suc i) → OnlyAt xs i
  only_tail x xs i o = record {
    in_range = omega (arith, o.in_range);
    here = o.here;
    elsewhere = λ k d lt differs. o.elsewhere (suc k) d (omega arith) (λ e. differs (omega arith));
  }

  rest_fails : (x : X) (xs : List X) → OnlyAt (x ∷ xs) zero → All (λ y. p y ≡ false) xs
  rest_fails x xs o k d lt = o.elsewhere (suc k) d (omega arith) (λ e. omega arith)

  -- without it the list is that without the place
  pub those-only : (xs : List X) (i : ℕ) → OnlyAt xs i → filter (λ x. not (p x)) xs ≡ remove xs i
  those-only [] i o = absurd (omega (arith, o.in_range))
  those-only (x ∷ xs) zero o = rw (o.here x) (those-none xs (rest_fails x xs o))
  those-only (x ∷ xs) (suc i) o = rw (o.elsewhere 0 x (omega arith) (λ e. omega arith)) (ap (λ ys. x ∷ ys) (those-only xs i (only_tail x xs i o)))

  -- to change what passes is to write it at the place
  pub change_where-only : (f : X → X) (xs : List X) (i : ℕ) (d : X) → OnlyAt xs i → change_where p f xs ≡ set xs i (f (get_or xs i d))
  change_where-only f [] i d o = refl
  change_where-only f (x ∷ xs) zero d o = rw (o.here x) (ap (λ ys. f x ∷ ys) (change_where-none f xs (rest_fails x xs o)))
  change_where-only f (x ∷ xs) (suc i) d o =
      rw (o.elsewhere 0 x (omega arith) (λ e. omega arith)) (ap (λ ys. x ∷ ys) (change_where-only f xs i d (only_tail x xs i o)))

  -- those that pass and those that do not are all
  pub sum_by-those_both : (f : X → ℕ) (xs : List X) → sum_by f (filter (λ x. not (p x)) xs) + sum_by f (filter p xs) ≡ sum_by f xs
  sum_by-those_both f xs = let both = sum_by-filter_both p (λ x. not (p x)) (λ _. refl) f xs in rw (those-filter xs, not_those xs) (omega arith)
    where
      not_those : (xs : List X) → filter (λ x. not (p x)) xs ≡ filter (λ x. not (p x)) xs
      not_those [] = refl
      not_those (x ∷ xs) = ap (λ ys. cond (not (p x)) (x ∷ ys) ys) (not_those xs)

-- the place before the first element that x comes before
pub inserted-at : {X : Type 0} (before : X → X → Bool) (x : X) (xs : List X) (i : ℕ) → i ≤ length xs → ((k : ℕ) (d : X) → k < i
    → before x (get_or xs k d) ≡ false) → ((d : X) → i < length xs → before x (get_or xs i d) ≡ true) → insert_before before x xs ≡ insert xs i x
inserted-at before x [] zero le low high = refl
inserted-at before x [] (suc i) le low high = absurd (omega arith)
inserted-at before x (e ∷ es) zero le low high = rw (high e (omega arith)) refl
inserted-at before x (e ∷ es) (suc i) le low high = rw (low 0 e (omega arith))
    (ap (λ ys. e ∷ ys) (inserted-at before x es i (omega arith) (λ k d lt. low (suc k) d (omega arith)) (λ d lt. high d (omega arith))))

module _ {X : Type 0} (R : X → X → Type 0) where
  pub pairs_cons : (x : X) (xs : List X) → All (R x) xs → AllPairs R xs → AllPairs R (x ∷ xs)
  pairs_cons x xs a h zero zero d lt short = absurd (omega arith)
  pairs_cons x xs a h zero (suc j) d lt short = a j d (omega arith)
  pairs_cons x xs a h (suc i) zero d lt short = absurd (omega arith)
  pairs_cons x xs a h (suc i) (suc j) d lt short = h i j d (omega arith) (omega arith)

  -- a new element that stands right to each
  pub pairs_insert : (xs : List X) (i : ℕ) (y : X) → i ≤ length xs → AllPairs R xs → ((k : ℕ) (d : X) → k < i → R (get_or xs k d) y)
      → ((k : ℕ) (d : X) → i ≤ k → k < length xs → R y (get_or xs k d)) → AllPairs R (insert xs i y)
  pairs_insert xs i y le h before after a b d lt short =
      let n = length-insert xs i y le in
      elim (cases_lt a i) [
        | inl la ↦ elim (cases_lt b i) [
          | inl lb ↦ subst (λ u. R u (get_or (insert xs i y) b d)) (sym (get_or-insert_below xs i y d a la le))
              (subst (λ u. R (get_or xs a d) u) (sym (get_or-insert_below xs i y d b lb le)) (h a b d lt (omega arith)))
          | inr hb ↦ elim (cases_eq b i) [
            | inl eb ↦ subst (λ u. R u (get_or (insert xs i y) b d)) (sym (get_or-insert_below xs i y d a la le)) (subst (λ j. R (get_or xs a d)
                (get_or (insert xs i y) j d)) (sym eb) (subst (λ u. R (get_or xs a d) u) (sym (get_or-insert_at xs i y d le)) (before a d la)))
            | inr nb ↦ subst (λ u. R u (get_or (insert xs i y) b d)) (sym (get_or-insert_below xs i y d a la le))
                (subst (λ j. R (get_or xs a d) (get_or (insert xs i y) j d)) {x = b - 1 + 1} (omega arith)
                (subst (λ u. R (get_or xs a d) u) (sym (get_or-insert_above xs i y d (b - 1) (omega arith) le)) (h a (b - 1) d (omega arith) (omega arith))))
          ]
        ]
        | inr ha ↦ subst (λ j. R (get_or (insert xs i y) a d) (get_or (insert xs i y) j d)) {x = b - 1 + 1} (omega arith)
            (subst (λ u. R (get_or (insert xs i y) a d) u) (sym (get_or-insert_above xs i y d (b - 1) (omega arith) le)) (elim (cases_eq a i) [
              | inl ea ↦ subst (λ j. R (get_or (insert xs i y) j d) (get_or xs (b - 1) d)) (sym ea)
                  (subst (λ u. R u (get_or xs (b - 1) d)) (sym (get_or-insert_at xs i y d le)) (after (b - 1) d (omega arith) (omega arith)))
              | inr na ↦ subst (λ j. R (get_or (insert xs i y) j d) (get_or xs (b - 1) d)) {x = a - 1 + 1} (omega arith) (subst (λ u. R u (get_or xs (b - 1) d))
                  (sym (get_or-insert_above xs i y d (a - 1) (omega arith) le)) (h (a - 1) (b - 1) d (omega arith) (omega arith)))
            ]))
      ]

-- one place of a loop that removes what does not pass
pub removed_step : {X : Type 0} (p : X → Bool) (xs : List X) (i : ℕ) (x : X) → i < length xs → x ≡ get_or xs i x → p x ≡ false
    → take i (remove xs i) ++ filter p (drop i (remove xs i)) ≡ take i xs ++ filter p (drop i xs)
removed_step p [] i x lt e h = absurd (omega arith)
removed_step p (y ∷ xs) zero x lt e h = rw (subst (λ u. p u ≡ false) e h) refl
removed_step p (y ∷ xs) (suc i) x lt e h = ap (λ ys. y ∷ ys) (removed_step p xs i x (omega arith) e h)

-- the one that is removed is the next that passes
pub removed_next : {X : Type 0} (p : X → Bool) (xs : List X) (i : ℕ) (x : X) → i < length xs → x ≡ get_or xs i x → p x ≡ true
    → filter p (drop i xs) ≡ x ∷ filter p (drop i (remove xs i))
removed_next p [] i x lt e h = absurd (omega arith)
removed_next p (y ∷ xs) zero x lt e h = rw (subst (λ u. p u ≡ true) e h) (ap (λ u. u ∷ filter p xs) (sym e))
removed_next p (y ∷ xs) (suc i) x lt e h = removed_next p xs i x (omega arith) e h

-- a step of a loop that gathers what passes
module _ {X : Type 0} (p : X → Bool) where
  put_before : (x : X) (u v w : List X) (b : Bool) → u ≡ v ++ w → (if b then x ∷ u else u) ≡ (if b then x ∷ v else v) ++ w
  put_before x u v w true e = ap (λ ys. x ∷ ys) e
  put_before x u v w false e = e

  those-suc : (xs : List X) (i : ℕ) (d : X) → i < length xs
      → filter p (take (suc i) xs) ≡ filter p (take i xs) ++ (if p (get_or xs i d) then get_or xs i d ∷ [] else [])
  those-suc [] i d lt = absurd (omega arith)
  those-suc (x ∷ xs) zero d lt = refl
  those-suc (x ∷ xs) (suc i) d lt = put_before x _ _ _ (p x) (those-suc xs i d (omega arith))

  pub those-more : (xs : List X) (i : ℕ) (d : X) → i < length xs
      → filter p (take (i + 1) xs) ≡ filter p (take i xs) ++ (if p (get_or xs i d) then get_or xs i d ∷ [] else [])
  those-more xs i d lt = rw add-one (those-suc xs i d lt)

or_swap : (a b c : Bool) → (a || (b || c)) ≡ (b || (a || c))
or_swap true true c = refl
or_swap true false c = refl
or_swap false true c = refl
or_swap false false c = refl

pub or_assoc : (a b c : Bool) → ((a || b) || c) ≡ (a || (b || c))
or_assoc true b c = refl
or_assoc false b c = refl

pub list_any-append : {X : Type 0} (p : X → Bool) (xs ys : List X) → list_any p (xs ++ ys) ≡ (list_any p xs || list_any p ys)
list_any-append p [] ys = refl
list_any-append p (x ∷ xs) ys = ap (λ b. p x || b) (list_any-append p xs ys) ∙ sym (or_assoc (p x) (list_any p xs) (list_any p ys))

pub list_any-inserted : {X : Type 0} (p : X → Bool) (before : X → X → Bool) (x : X) (xs : List X)
    → list_any p (insert_before before x xs) ≡ (p x || list_any p xs)
list_any-inserted p before x [] = refl
list_any-inserted p before x (e ∷ es) =
    elim (before x e) as (λ b. list_any p (if b then x ∷ e ∷ es else e ∷ insert_before before x es) ≡ (p x || (p e || list_any p es))) [
      | true ↦ refl
      | false ↦ ap (λ b. p e || b) (list_any-inserted p before x es) ∙ or_swap (p e) (p x) (list_any p es)
    ]

-- what passes a test among those stands among all
pub list_any-those : {X : Type 0} (p q : X → Bool) (xs : List X) → list_any p (filter q xs) ≡ true → list_any p xs ≡ true
list_any-those p q [] h = h
list_any-those p q (x ∷ xs) h = step (p x) (q x) refl h (list_any-those p q xs)
  where
    step : (c b : Bool) → p x ≡ c → list_any p (if b then x ∷ filter q xs else filter q xs) ≡ true → (list_any p (filter q xs) ≡ true → list_any p xs ≡ true)
        → (c || list_any p xs) ≡ true
    step true b e h ih = refl
    step false true e h ih = ih (rw e at h)
    step false false e h ih = ih h

pub sum_by-inserted : {X : Type 0} (f : X → ℕ) (before : X → X → Bool) (x : X) (xs : List X) → sum_by f (insert_before before x xs) ≡ f x + sum_by f xs
sum_by-inserted f before x [] = sum_by-cons f x []
sum_by-inserted f before x (e ∷ es) = elim (before x e) as (λ b. sum_by f (if b then x ∷ e ∷ es else e ∷ insert_before before x es) ≡ f x + sum_by f (e ∷ es)) [
  | true ↦ sum_by-cons f x (e ∷ es)
  | false ↦ let rest = sum_by-inserted f before x es in let new = sum_by-cons f e (insert_before before x es) in let old = sum_by-cons f e es in omega arith
]

-- a step of a loop that changes what passes
module _ {X : Type 0} (p : X → Bool) (f : X → X) (xs ys : List X) (i : ℕ) (x : X) (lt : i < length xs) (so_far : ys ≡ change_where p f (take i xs) ++ drop i xs)
    (read : x ≡ get_or ys i x) where
  mapped : ys ≡ map (λ x. if p x then f x else x) (take i xs) ++ drop i xs
  mapped = so_far ∙ ap (λ zs. zs ++ drop i xs) (change_where-map p f (take i xs))

  over_more : set ys i (if p x then f x else x) ≡ change_where p f (take (i + 1) xs) ++ drop (i + 1) xs
  over_more = map_over_more (λ x. if p x then f x else x) xs ys i x lt mapped read
      ∙ ap (λ zs. zs ++ drop (i + 1) xs) (sym (change_where-map p f (take (i + 1) xs)))

  pub changed_step : p x ≡ true → set ys i (f x) ≡ change_where p f (take (i + 1) xs) ++ drop (i + 1) xs
  changed_step h = ap (λ b. set ys i (if b then f x else x)) (sym h) ∙ over_more

  pub rewritten_step : p x ≡ false → set ys i x ≡ change_where p f (take (i + 1) xs) ++ drop (i + 1) xs
  rewritten_step h = ap (λ b. set ys i (if b then f x else x)) (sym h) ∙ over_more

  pub unchanged_step : p x ≡ false → ys ≡ change_where p f (take (i + 1) xs) ++ drop (i + 1) xs
  unchanged_step h = sym (set-get_or ys i x) ∙ ap (λ u. set ys i u) (sym read) ∙ rewritten_step h
