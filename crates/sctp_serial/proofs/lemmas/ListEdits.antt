-- Lists: places, removals, changes.
use Rattle.std.proofs.Common.{◌≡◌, ℕ, zero, suc, ◌++◌, take, drop, length-take-le, ◌≤◌, ◌<◌, Bool, true, false, ◌||◌, not, if◌then◌else◌, List, [], ◌∷◌, length}
use Rattle.std.proofs.Common.{get_or, set, refl, sym, ap, ◌∙◌, subst, arith}
use Rattle.std.proofs.lemmas.Bool.{true≢false}
use Rattle.std.specs.List.{All, list_any, position_or_len, remove, insert}
use Rattle.std.proofs.Math.ListN.{take-append-drop}
use Rattle.sctp_util.specs.Lists.{insert_before, change_first, after_leading}

pub neither : (a b : Bool) → (a || b) ≡ false → (a ≡ false) × (b ≡ false)
neither true b h = (h, absurd (true≢false h))
neither false b h = (refl, h)

module _ {X : Type 0} (p : X → Bool) where
  -- the first that passes, seen from the front
  pub later : (x : X) (xs : List X) → p x ≡ false → position_or_len p (x ∷ xs) ≡ suc (position_or_len p xs)
  later x xs e = rw e (omega arith)

  pub here : (x : X) (xs : List X) → p x ≡ true → position_or_len p (x ∷ xs) ≡ 0
  here x xs e = rw e refl

  -- where the first that passes stands, one passes
  pub any_at : (xs : List X) → position_or_len p xs < length xs → list_any p xs ≡ true
  any_at [] lt = absurd (omega arith)
  any_at (x ∷ xs) lt = at_head (p x) refl (any_at xs)
    where
      at_head : (b : Bool) → p x ≡ b → (position_or_len p xs < length xs → list_any p xs ≡ true) → (p x || list_any p xs) ≡ true
      at_head true e rec = rw e refl
      at_head false e rec = rw e (rec (omega (arith, later x xs e)))

  pub none_at : (xs : List X) → position_or_len p xs ≡ length xs → list_any p xs ≡ false
  none_at [] h = refl
  none_at (x ∷ xs) h = at_head (p x) refl (none_at xs)
    where
      at_head : (b : Bool) → p x ≡ b → (position_or_len p xs ≡ length xs → list_any p xs ≡ false) → (p x || list_any p xs) ≡ false
      at_head true e rec = absurd (omega (arith, here x xs e))
      at_head false e rec = rw e (rec (omega (arith, later x xs e)))

  -- the first that passes is changed in its place
  pub first_changed : (f : X → X) (xs : List X) (d : X) → change_first p f xs ≡ set xs (position_or_len p xs) (f (get_or xs (position_or_len p xs) d))
  first_changed f [] d = refl
  first_changed f (x ∷ xs) d = at_head (p x) refl (first_changed f xs d)
    where
      at_head : (b : Bool) → p x ≡ b → change_first p f xs ≡ set xs (position_or_len p xs) (f (get_or xs (position_or_len p xs) d))
          → (if p x then f x ∷ xs else x ∷ change_first p f xs) ≡ set (x ∷ xs) (position_or_len p (x ∷ xs)) (f (get_or (x ∷ xs) (position_or_len p (x ∷ xs)) d))
      at_head true e rec = ap (λ b. if b then f x ∷ xs else x ∷ change_first p f xs) e ∙ ap (λ i. set (x ∷ xs) i (f (get_or (x ∷ xs) i d))) (sym (here x xs e))
      at_head false e rec = ap (λ b. if b then f x ∷ xs else x ∷ change_first p f xs) e ∙ ap (λ ys. x ∷ ys) rec
          ∙ ap (λ i. set (x ∷ xs) i (f (get_or (x ∷ xs) i d))) (sym (later x xs e))

-- tests that agree on each element find the same place
pub same_position : {X : Type 0} (p q : X → Bool) (xs : List X) → All (λ x. p x ≡ q x) xs → position_or_len p xs ≡ position_or_len q xs
same_position p q [] h = refl
same_position {X = X} p q (x ∷ xs) h = at_head (p x) refl (h 0 x (omega arith)) (same_position p q xs (λ k d lt. h (suc k) d (omega arith)))
  where
    at_head : (b : Bool) → p x ≡ b → p x ≡ q x → position_or_len p xs ≡ position_or_len q xs → position_or_len p (x ∷ xs) ≡ position_or_len q (x ∷ xs)
    at_head true e same rec = here p x xs e ∙ sym (here q x xs (sym same ∙ e))
    at_head false e same rec = later p x xs e ∙ ap suc rec ∙ sym (later q x xs (sym same ∙ e))

-- what is left behind the elements in front that pass
pub after_leading-position : {X : Type 0} (p : X → Bool) (xs : List X) → after_leading p xs ≡ drop (position_or_len (λ x. not (p x)) xs) xs
after_leading-position p [] = refl
after_leading-position {X = X} p (x ∷ xs) = at_head (p x) refl (after_leading-position p xs)
  where
    at_head : (b : Bool) → p x ≡ b → after_leading p xs ≡ drop (position_or_len (λ y. not (p y)) xs) xs
        → (if p x then after_leading p xs else x ∷ xs) ≡ drop (position_or_len (λ y. not (p y)) (x ∷ xs)) (x ∷ xs)
    at_head true e rec = ap (λ b. if b then after_leading p xs else x ∷ xs) e ∙ rec ∙ ap (λ i. drop i (x ∷ xs)) (sym (later (λ y. not (p y)) x xs (ap not e)))
    at_head false e rec = ap (λ b. if b then after_leading p xs else x ∷ xs) e ∙ ap (λ i. drop i (x ∷ xs)) (sym (here (λ y. not (p y)) x xs (ap not e)))

-- an element put in before the first that it comes before
pub inserted-position : {X : Type 0} (before : X → X → Bool) (x : X) (xs : List X) → insert_before before x xs ≡ insert xs (position_or_len (before x) xs) x
inserted-position before x [] = refl
inserted-position {X = X} before x (e ∷ es) = at_head (before x e) refl (inserted-position before x es)
  where
    at_head : (b : Bool) → before x e ≡ b → insert_before before x es ≡ insert es (position_or_len (before x) es) x
        → (if before x e then x ∷ e ∷ es else e ∷ insert_before before x es) ≡ insert (e ∷ es) (position_or_len (before x) (e ∷ es)) x
    at_head true h rec = ap (λ b. if b then x ∷ e ∷ es else e ∷ insert_before before x es) h ∙ ap (λ i. insert (e ∷ es) i x) (sym (here (before x) e es h))
    at_head false h rec = ap (λ b. if b then x ∷ e ∷ es else e ∷ insert_before before x es) h ∙ ap (λ ys. e ∷ ys) rec
        ∙ ap (λ i. insert (e ∷ es) i x) (sym (later (before x) e es h))

-- the element between two lists
pub remove_seam : {X : Type 0} (front : List X) (y : X) (zs : List X) (n : ℕ) → length front ≡ n → remove (front ++ y ∷ zs) n ≡ front ++ zs
remove_seam {X = X} front y zs n e = subst (λ i. remove (front ++ y ∷ zs) i ≡ front ++ zs) e (at front)
  where
    at : (front : List X) → remove (front ++ y ∷ zs) (length front) ≡ front ++ zs
    at [] = refl
    at (a ∷ front) = ap (λ ys. a ∷ ys) (at front)

-- putting an element back
pub insert-remove : {X : Type 0} (xs : List X) (i : ℕ) (d : X) → i < length xs → insert (remove xs i) i (get_or xs i d) ≡ xs
insert-remove [] i d lt = absurd (omega arith)
insert-remove (x ∷ xs) zero d lt = refl
insert-remove (x ∷ xs) (suc i) d lt = ap (λ ys. x ∷ ys) (insert-remove xs i d (omega arith))

-- taking out what was put in
pub remove-insert : {X : Type 0} (xs : List X) (i : ℕ) (y : X) → i ≤ length xs → remove (insert xs i y) i ≡ xs
remove-insert xs i y le = remove_seam (take i xs) y (drop i xs) i (length-take-le i xs le) ∙ take-append-drop i xs

-- an element of a list that has one, for a default
pub an_element : {X : Type 0} (xs : List X) (i : ℕ) → i < length xs → X
an_element [] i lt = absurd (omega arith)
an_element (x ∷ xs) i lt = x
