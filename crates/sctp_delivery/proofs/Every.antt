-- What is so of each element of a list, whatever edits it.
use Rattle.sctp_delivery.proofs.Names.{◌≡◌, ℕ, zero, suc, ◌<◌, Bool, true, false, List, [], ◌∷◌, ◌++◌, length, map, take, drop, get_or, Some, refl, subst}
use Rattle.sctp_delivery.proofs.Names.{arith, if◌then◌else◌, ◌||◌, Contains, All, filter, list_any, change_where, insert_before, not_both}
use Rattle.std.specs.List.{find}
use Rattle.sctp_delivery.proofs.Cases.{at-if}

abbrev pub Every : {A : Type 0} → (A → Type 0) → List A → Type 0
Every P [] = Unit {0}
Every P (x ∷ xs) = P x × Every P xs

pub every-of : {A : Type 0} (P Q : A → Type 0) → ((x : A) → P x → Q x) → (xs : List A) → Every P xs → Every Q xs
every-of P Q h [] e = tt
every-of P Q h (x ∷ xs) e = (h x e.0, every-of P Q h xs e.1)

pub every-mapped : {A B : Type 0} (P : A → Type 0) (Q : B → Type 0) (f : A → B) → ((x : A) → P x → Q (f x)) → (xs : List A) → Every P xs → Every Q (map f xs)
every-mapped P Q f h [] e = tt
every-mapped P Q f h (x ∷ xs) e = (h x e.0, every-mapped P Q f h xs e.1)

pub every-made : {A B : Type 0} (Q : B → Type 0) (f : A → B) → ((x : A) → Q (f x)) → (xs : List A) → Every Q (map f xs)
every-made Q f h [] = tt
every-made Q f h (x ∷ xs) = (h x, every-made Q f h xs)

pub every-pair : {A : Type 0} (P Q : A → Type 0) (xs : List A) → Every P xs → Every Q xs → Every (λ x. P x × Q x) xs
every-pair P Q [] e f = tt
every-pair P Q (x ∷ xs) e f = ((e.0, f.0), every-pair P Q xs e.1 f.1)

pub every-both : {A : Type 0} (P Q R : A → Type 0) → ((x : A) → P x → Q x → R x) → (xs : List A) → Every P xs → Every Q xs → Every R xs
every-both P Q R f xs e h = every-of (λ x. P x × Q x) R (λ x i. f x i.0 i.1) xs (every-pair P Q xs e h)

module _ {A : Type 0} (P : A → Type 0) where
  pub every-all : ((x : A) → P x) → (xs : List A) → Every P xs
  every-all h [] = tt
  every-all h (x ∷ xs) = (h x, every-all h xs)

  pub every-inserted : (before : A → A → Bool) (x : A) (xs : List A) → P x → Every P xs → Every P (insert_before before x xs)
  every-inserted before x [] px e = (px, tt)
  every-inserted before x (y ∷ ys) px e = at-if (Every P) (before x y) (λ h. (px, e)) (λ h. (e.0, every-inserted before x ys px e.1))

  pub every-passing : (p : A → Bool) (xs : List A) → Every P xs → Every P (filter p xs)
  every-passing p [] e = tt
  every-passing p (x ∷ xs) e = at-if (Every P) (p x) (λ h. (e.0, every-passing p xs e.1)) (λ h. every-passing p xs e.1)

  -- those that pass, where each that does is so
  pub every-tested : (p : A → Bool) (xs : List A) → Every (λ x. p x ≡ true → P x) xs → Every P (filter p xs)
  every-tested p [] e = tt
  every-tested p (x ∷ xs) e = at-if (Every P) (p x) (λ h. (e.0 h, every-tested p xs e.1)) (λ h. every-tested p xs e.1)

  pub every-changed : (p : A → Bool) (f : A → A) → ((x : A) → p x ≡ true → P x → P (f x)) → (xs : List A) → Every P xs → Every P (change_where p f xs)
  every-changed p f keep [] e = tt
  every-changed p f keep (x ∷ xs) e = (at-if P (p x) (λ h. keep x h e.0) (λ h. e.0), every-changed p f keep xs e.1)

  pub every-taken : (n : ℕ) (xs : List A) → Every P xs → Every P (take n xs)
  every-taken zero xs e = tt
  every-taken (suc n) [] e = tt
  every-taken (suc n) (x ∷ xs) e = (e.0, every-taken n xs e.1)

  pub every-left : (n : ℕ) (xs : List A) → Every P xs → Every P (drop n xs)
  every-left zero xs e = e
  every-left (suc n) [] e = tt
  every-left (suc n) (x ∷ xs) e = every-left n xs e.1

  pub every-joined : (xs ys : List A) → Every P xs → Every P ys → Every P (xs ++ ys)
  every-joined [] ys e f = f
  every-joined (x ∷ xs) ys e f = (e.0, every-joined xs ys e.1 f)

  pub every-at : (xs : List A) (k : ℕ) (d : A) → k < length xs → Every P xs → P (get_or xs k d)
  every-at [] k d lt e = absurd (omega (arith, lt))
  every-at (x ∷ xs) zero d lt e = e.0
  every-at (x ∷ xs) (suc k) d lt e = every-at xs k d (omega (arith, lt)) e.1

  pub every-contained : (xs : List A) (x : A) → Contains xs x → Every P xs → P x
  every-contained xs x h e = subst P h.2 (every-at xs h.0 x h.1 e)

  pub all-of-every : (xs : List A) → Every P xs → All P xs
  all-of-every xs e k d lt = every-at xs k d lt e

  pub every-of-all : (xs : List A) → All P xs → Every P xs
  every-of-all [] h = tt
  every-of-all (x ∷ xs) h = (h zero x (omega arith), every-of-all xs (λ k d lt. h (suc k) d (omega (arith, lt))))

  pub every-found : (p : A → Bool) (xs : List A) (x : A) → find p xs ≡ Some x → Every P xs → P x
  every-found p [] x e h = cc
  every-found p (y ∷ ys) x e h = by (p y) (λ f. every-found p ys x f h.1) e
    where
      by : (b : Bool) → (find p ys ≡ Some x → P x) → (if b then Some y else find p ys) ≡ Some x → P x
      by true ih f = let same : y ≡ x = cc in subst P same h.0
      by false ih f = ih f

  -- one of those that pass
  pub one-of : (p : A → Bool) (xs : List A) → list_any p xs ≡ true → Every P xs → (x : A) × (p x ≡ true) × P x
  one-of p [] e h = absurd (not_both e)
  one-of p (x ∷ xs) e h = by (p x) refl (λ g. one-of p xs g h.1) e
    where
      by : (b : Bool) → p x ≡ b → (list_any p xs ≡ true → (y : A) × (p y ≡ true) × P y) → (b || list_any p xs) ≡ true → (y : A) × (p y ≡ true) × P y
      by true f ih g = (x, f, h.0)
      by false f ih g = ih g
