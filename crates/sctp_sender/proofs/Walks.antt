-- A list that is gone through from its front, and one that is changed where a test passes.
use Rattle.sctp_sender.proofs.Names.{◌≡◌, ℕ, zero, suc, ◌+◌, ◌<◌, Bool, true, false, List, [], ◌∷◌, length, drop, get_or, slice_get, Option, Some, None, refl}
use Rattle.sctp_sender.proofs.Names.{ap, sym, ◌∙◌, arith, if◌then◌else◌, find, is_some, none-some, change_where, insert_before}

pub none-of : {X : Type 0} (o : Option X) → is_some o ≡ false → o ≡ None
none-of None h = refl
none-of (Some x) h = cc

-- what stands at a place
pub read-of : {X : Type 0} (xs : List X) (i : ℕ) (x : X) → slice_get xs i ≡ Some x → (i < length xs) × (x ≡ get_or xs i x)
read-of [] i x e = absurd (none-some x e)
read-of (y ∷ ys) zero x e = let same : y ≡ x = cc in (omega arith, sym same)
read-of (y ∷ ys) (suc i) x e = let h = read-of ys i x e in (omega (arith, h.0), h.1)

module _ {X : Type 0} (p : X → Bool) where
  -- the first that passes, from a place on
  pub find-step : (xs : List X) (i : ℕ) (x : X) (b : Bool) → slice_get xs i ≡ Some x → p x ≡ b
      → find p (drop i xs) ≡ (if b then Some x else find p (drop (i + 1) xs))
  find-step [] i x b e h = absurd (none-some x e)
  find-step (y ∷ ys) zero x b e h = let same : y ≡ x = cc in
      ap (λ k. if k then Some y else find p ys) (ap p same ∙ h) ∙ ap (λ z. if b then Some z else find p ys) same
  find-step (y ∷ ys) (suc i) x b e h =
      let next : suc i + 1 ≡ suc (i + 1) = omega arith in
      find-step ys i x b e h ∙ ap (λ k. if b then Some x else find p (drop k (y ∷ ys))) (sym next)

  module _ (g : X → X) (keeps : (x : X) → p (g x) ≡ p x) where
    -- what is found is found changed
    pub found-changed : (xs : List X) (x : X) → find p xs ≡ Some x → find p (change_where p g xs) ≡ Some (g x)
    found-changed [] x e = absurd (none-some x e)
    found-changed (y ∷ ys) x e = by (p y) refl e (found-changed ys x)
      where
        by : (b : Bool) → p y ≡ b → (if b then Some y else find p ys) ≡ Some x → (find p ys ≡ Some x → find p (change_where p g ys) ≡ Some (g x))
            → (if p (if b then g y else y) then Some (if b then g y else y) else find p (change_where p g ys)) ≡ Some (g x)
        by true h f ih = let same : y ≡ x = cc in ap (λ k. if k then Some (g y) else find p (change_where p g ys)) (keeps y ∙ h) ∙ ap (λ z. Some (g z)) same
        by false h f ih = ap (λ k. if k then Some y else find p (change_where p g ys)) h ∙ ih f

    -- two changes of the same elements are one
    pub changed-twice : (h : X → X) (xs : List X) → change_where p h (change_where p g xs) ≡ change_where p (λ x. h (g x)) xs
    changed-twice h [] = refl
    changed-twice h (y ∷ ys) = by (p y) refl (changed-twice h ys)
      where
        by : (b : Bool) → p y ≡ b → change_where p h (change_where p g ys) ≡ change_where p (λ x. h (g x)) ys
            → (if p (if b then g y else y) then h (if b then g y else y) else (if b then g y else y)) ∷ change_where p h (change_where p g ys)
            ≡ (if b then h (g y) else y) ∷ change_where p (λ x. h (g x)) ys
        by true e ih = ap (λ k. (if k then h (g y) else g y) ∷ change_where p h (change_where p g ys)) (keeps y ∙ e) ∙ ap (λ zs. h (g y) ∷ zs) ih
        by false e ih = ap (λ k. (if k then h y else y) ∷ change_where p h (change_where p g ys)) e ∙ ap (λ zs. y ∷ zs) ih

  -- what is put into a list where nothing passed, and passes
  pub find-inserted : (before : X → X → Bool) (x : X) (xs : List X) → find p xs ≡ None → p x ≡ true → find p (insert_before before x xs) ≡ Some x
  find-inserted before x [] e h = ap (λ k. if k then Some x else None) h
  find-inserted before x (y ∷ ys) e h = by (before x y) (p y) refl e (λ none. find-inserted before x ys none h)
    where
      later : (k : Bool) → p y ≡ k → (if k then Some y else find p ys) ≡ None → (find p ys ≡ None → find p (insert_before before x ys) ≡ Some x)
          → (if p y then Some y else find p (insert_before before x ys)) ≡ Some x
      later true f none ih = absurd (none-some y (sym none))
      later false f none ih = ap (λ k. if k then Some y else find p (insert_before before x ys)) f ∙ ih none

      by : (b k : Bool) → p y ≡ k → (if k then Some y else find p ys) ≡ None → (find p ys ≡ None → find p (insert_before before x ys) ≡ Some x)
          → find p (if b then x ∷ y ∷ ys else y ∷ insert_before before x ys) ≡ Some x
      by true k f none ih = ap (λ j. if j then Some x else find p (y ∷ ys)) h
      by false k f none ih = later k f none ih
