-- An element taken out of a list, whose place the last one takes.
use Rattle.std.proofs.Common.{◌≡◌, ℕ, zero, suc, ◌+◌, ◌-◌, ◌<◌, ◌≤◌, Bool, true, false, List, [], ◌∷◌, ◌++◌, length, length-append, get_or, take, drop}
use Rattle.std.proofs.Common.{map, Some, None, refl, ap, sym, subst, ◌∙◌, arith}
use Rattle.std.proofs.lemmas.Bool.{ne_eqb}
use Rattle.std.proofs.lemmas.List.{map-append, length-set, length-take}
use Rattle.std.proofs.lemmas.List.Elements.{All-head, All-tail}
use Rattle.std.proofs.lemmas.List.Folds.{find-append}
use Rattle.std.proofs.lemmas.List.Sums.{sum_by-cons, sum_by-append}
use Rattle.std.proofs.lemmas.Option.{slice_get_within, slice_get-get_or, get_or_from_slice_get}
use Rattle.std.specs.List.{All, AllByRecursion, filter, find, slice_rotate_right, sum_by, swap_remove}
use Rattle.std.specs.Prelude.{◌==◌, Option, if◌then◌else◌, not, slice_get, slice_set}
use Rattle.std.specs.Option.{option_or}
use Rattle.sctp_util.proofs.Edits.{OnlyAt, those-none}
use Rattle.sctp_util.proofs.Cases.{some-same, by_same, same-yes}
use Rattle.sctp_util.proofs.Getting.{get-snoc_new}
use Rattle.sctp_stream.specs.Numbers.{IsPlaced, IsOnlyPlace, IsAbsent, swapped_out}
use Rattle.sctp_stream.proofs.NumberPlaces.{set-same, set-other}

-- ## The last one comes first

-- what holds of a list, from the last element on
pub from-last : {X : Type 0} (P : List X → Type 0) → P [] → ((ys : List X) (x : X) → P (ys ++ x ∷ [])) → (xs : List X) → P xs
from-last P none more [] = none
from-last P none more (x ∷ xs) = from-last (λ ys. P (x ∷ ys)) (more [] x) (λ ys y. more (x ∷ ys) y) xs

pub taken-front : {X : Type 0} (ys : List X) (x : X) → take (length ys) (ys ++ x ∷ []) ≡ ys
taken-front [] x = refl
taken-front (y ∷ ys) x = ap (λ zs. y ∷ zs) (taken-front ys x)

pub dropped-front : {X : Type 0} (ys : List X) (x : X) → drop (length ys) (ys ++ x ∷ []) ≡ x ∷ []
dropped-front [] x = refl
dropped-front (y ∷ ys) x = dropped-front ys x

pub rotated : {X : Type 0} (ys : List X) (x : X) → slice_rotate_right (ys ++ x ∷ []) 1 ≡ x ∷ ys
rotated ys x =
    let n : length (ys ++ x ∷ []) - 1 ≡ length ys = omega (arith, length-append ys (x ∷ [])) in
    rw n (rw (dropped-front ys x, taken-front ys x) refl)

rotated-sum : {X : Type 0} (f : X → ℕ) (xs : List X) → sum_by f (slice_rotate_right xs 1) ≡ sum_by f xs
rotated-sum {X} f = from-last (λ xs. sum_by f (slice_rotate_right xs 1) ≡ sum_by f xs) refl more
  where
    more : (ys : List X) (x : X) → sum_by f (slice_rotate_right (ys ++ x ∷ []) 1) ≡ sum_by f (ys ++ x ∷ [])
    more ys x = ap (sum_by f) (rotated ys x) ∙ omega (arith, sum_by-cons f x ys, sum_by-append f ys (x ∷ []), sum_by-cons f x [])

pub rotated-map : {X Y : Type 0} (f : X → Y) (xs : List X) → map f (slice_rotate_right xs 1) ≡ slice_rotate_right (map f xs) 1
rotated-map {X} {Y} f = from-last (λ xs. map f (slice_rotate_right xs 1) ≡ slice_rotate_right (map f xs) 1) refl more
  where
    more : (ys : List X) (x : X) → map f (slice_rotate_right (ys ++ x ∷ []) 1) ≡ slice_rotate_right (map f (ys ++ x ∷ [])) 1
    more ys x = ap (map f) (rotated ys x) ∙ sym (ap (λ zs. slice_rotate_right zs 1) (map-append f ys (x ∷ [])) ∙ rotated (map f ys) (f x))

-- what holds of each
rotated-each : {X : Type 0} (Q : X → Type 0) (xs : List X) → AllByRecursion Q xs → AllByRecursion Q (slice_rotate_right xs 1)
rotated-each {X} Q = from-last (λ xs. AllByRecursion Q xs → AllByRecursion Q (slice_rotate_right xs 1)) (λ h. h) more
  where
    parts : (ys : List X) (x : X) → AllByRecursion Q (ys ++ x ∷ []) → AllByRecursion Q (x ∷ ys)
    parts [] x h = h
    parts (y ∷ ys) x h = let rest = parts ys x h.1 in (rest.0, (h.0, rest.1))

    more : (ys : List X) (x : X) → AllByRecursion Q (ys ++ x ∷ []) → AllByRecursion Q (slice_rotate_right (ys ++ x ∷ []) 1)
    more ys x h = subst (AllByRecursion Q) (sym (rotated ys x)) (parts ys x h)

-- ## What passes is taken out

module _ {X : Type 0} (p : X → Bool) where
  abbrev fails : X → Bool
  fails x = not (p x)

  rotated-none : (xs : List X) → find p xs ≡ None → find p (slice_rotate_right xs 1) ≡ None
  rotated-none = from-last (λ xs. find p xs ≡ None → find p (slice_rotate_right xs 1) ≡ None) (λ e. refl) more
    where
      by : (b : Bool) (x : X) (o : Option X) → option_or o (if b then Some x else None) ≡ None → (if b then Some x else o) ≡ None
      by true x None e = e
      by false x None e = e
      by b x (Some y) e = cc

      more : (ys : List X) (x : X) → find p (ys ++ x ∷ []) ≡ None → find p (slice_rotate_right (ys ++ x ∷ []) 1) ≡ None
      more ys x e = ap (find p) (rotated ys x) ∙ by (p x) x (find p ys) (sym (find-append p ys (x ∷ [])) ∙ e)

  left-none : (xs : List X) → find p (filter fails xs) ≡ None
  left-none [] = refl
  left-none (x ∷ xs) = by (p x) refl (left-none xs)
    where
      by : (b : Bool) → p x ≡ b → find p (filter fails xs) ≡ None → find p (if not b then x ∷ filter fails xs else filter fails xs) ≡ None
      by true h ih = ih
      by false h ih = ap (λ b. if b then Some x else find p (filter fails xs)) h ∙ ih

  -- none is found
  pub out-none : (xs : List X) → find p (swapped_out p xs) ≡ None
  out-none [] = refl
  out-none (x ∷ xs) = by (p x) refl (out-none xs)
    where
      by : (b : Bool) → p x ≡ b → find p (swapped_out p xs) ≡ None
          → find p (if b then slice_rotate_right (filter fails xs) 1 else x ∷ swapped_out p xs) ≡ None
      by true h ih = rotated-none (filter fails xs) (left-none xs)
      by false h ih = ap (λ b. if b then Some x else find p (swapped_out p xs)) h ∙ ih

  -- the others count for what they did
  pub out-sum : (f : X → ℕ) (xs : List X) → sum_by f (swapped_out p xs) ≡ sum_by f (filter fails xs)
  out-sum f [] = refl
  out-sum f (x ∷ xs) = by (p x) (out-sum f xs)
    where
      by : (b : Bool) → sum_by f (swapped_out p xs) ≡ sum_by f (filter fails xs)
          → sum_by f (if b then slice_rotate_right (filter fails xs) 1 else x ∷ swapped_out p xs)
          ≡ sum_by f (if not b then x ∷ filter fails xs else filter fails xs)
      by true ih = rotated-sum f (filter fails xs)
      by false ih = omega (arith, sum_by-cons f x (swapped_out p xs), sum_by-cons f x (filter fails xs), ih)

  left-each : (Q : X → Type 0) (xs : List X) → AllByRecursion Q xs → AllByRecursion Q (filter fails xs)
  left-each Q [] h = tt
  left-each Q (x ∷ xs) h = by (p x) (left-each Q xs h.1)
    where
      by : (b : Bool) → AllByRecursion Q (filter fails xs) → AllByRecursion Q (if not b then x ∷ filter fails xs else filter fails xs)
      by true ih = ih
      by false ih = (h.0, ih)

  -- what holds of each still does
  pub out-each : (Q : X → Type 0) (xs : List X) → AllByRecursion Q xs → AllByRecursion Q (swapped_out p xs)
  out-each Q [] h = tt
  out-each Q (x ∷ xs) h = by (p x) (out-each Q xs h.1)
    where
      by : (b : Bool) → AllByRecursion Q (swapped_out p xs)
          → AllByRecursion Q (if b then slice_rotate_right (filter fails xs) 1 else x ∷ swapped_out p xs)
      by true ih = rotated-each Q (filter fails xs) (left-each Q xs h.1)
      by false ih = (h.0, ih)

  -- where none passes, all stay
  pub out-stay : (xs : List X) → All (λ x. p x ≡ false) xs → xs ≡ swapped_out p xs
  out-stay [] h = refl
  out-stay (x ∷ xs) h = rw (All-head (λ y. p y ≡ false) x xs h) (ap (λ ys. x ∷ ys) (out-stay xs (All-tail (λ y. p y ≡ false) x xs h)))

  -- ## The one that passes

  only-tail : (x : X) (xs : List X) (i : ℕ) → OnlyAt p (x ∷ xs) (suc i) → OnlyAt p xs i
  only-tail x xs i o = record {
    in_range = omega (arith, o.in_range);
    here = o.here;
    elsewhere = λ k d lt differs. o.elsewhere (suc k) d (omega arith) (λ e. differs (omega arith));
  }

  rest-fail : (x : X) (xs : List X) → OnlyAt p (x ∷ xs) zero → All (λ y. p y ≡ false) xs
  rest-fail x xs o k d lt = o.elsewhere (suc k) d (omega arith) (λ e. omega arith)

  last-first : (xs : List X) (x d : X) (n : ℕ) → n ≡ length xs → take n (get_or (x ∷ xs) n d ∷ xs) ≡ slice_rotate_right xs 1
  last-first = from-last (λ xs. (x d : X) (n : ℕ) → n ≡ length xs → take n (get_or (x ∷ xs) n d ∷ xs) ≡ slice_rotate_right xs 1) none more
    where
      none : (x d : X) (n : ℕ) → n ≡ 0 → take n (get_or (x ∷ []) n d ∷ []) ≡ slice_rotate_right [] 1
      none x d n e = rw e refl

      more : (ys : List X) (y x d : X) (n : ℕ) → n ≡ length (ys ++ y ∷ []) → take n (get_or (x ∷ (ys ++ y ∷ [])) n d ∷ (ys ++ y ∷ []))
          ≡ slice_rotate_right (ys ++ y ∷ []) 1
      more ys y x d n e =
          let is : n ≡ suc (length ys) = omega (arith, e, length-append ys (y ∷ [])) in
          rw is (ap (λ z. z ∷ take (length ys) (ys ++ y ∷ [])) (get-snoc_new ys y d) ∙ ap (λ zs. y ∷ zs) (taken-front ys y) ∙ sym (rotated ys y))

  set-out : (xs : List X) (n i : ℕ) (d : X) → suc n ≡ length xs → OnlyAt p xs i → take n (slice_set xs i (get_or xs n d)) ≡ swapped_out p xs
  set-out [] n i d e o = absurd (omega (arith, o.in_range))
  set-out (x ∷ xs) n zero d e o =
      rw (o.here x) (last-first xs x d n (omega (arith, e)) ∙ ap (λ ys. slice_rotate_right ys 1) (sym (those-none p xs (rest-fail x xs o))))
  set-out (x ∷ xs) zero (suc i) d e o = absurd (omega (arith, o.in_range, e))
  set-out (x ∷ xs) (suc n) (suc i) d e o =
      rw (o.elsewhere 0 x (omega arith) (λ z. omega arith)) (ap (λ ys. x ∷ ys) (set-out xs n i d (omega (arith, e)) (only-tail x xs i o)))

  -- std's `swap_remove` of it
  pub only-out : (xs : List X) (i : ℕ) (d : X) → OnlyAt p xs i → swap_remove xs i d ≡ swapped_out p xs
  only-out xs i d o = set-out xs (length xs - 1) i d (omega (arith, o.in_range)) o

-- ## Numbers

-- the one at its only place
pub number-out : (ns : List ℕ) (t k d : ℕ) → IsOnlyPlace t ns k → swap_remove ns k d ≡ swapped_out (λ n. n == t) ns
number-out ns t k d place = only-out (λ n. n == t) ns k d (record {
  in_range = slice_get_within ns k t place.here;
  here = λ e. ap (λ n. n == t) (get_or_from_slice_get ns k t e place.here) ∙ same-yes t;
  elsewhere = λ j e lt differs. ne_eqb (get_or ns j e) t (λ z. differs (place.only j (slice_get-get_or ns j e lt ∙ ap Some z)));
})

-- where it does not stand, none is taken out
pub absent-number : (ns : List ℕ) (t : ℕ) → IsAbsent t ns → ns ≡ swapped_out (λ n. n == t) ns
absent-number ns t absent = out-stay (λ n. n == t) ns (λ k e lt. ne_eqb (get_or ns k e) t (λ z. absent k (slice_get-get_or ns k e lt ∙ ap Some z)))

-- ## What stands where then

pub taken-at : {X : Type 0} (xs : List X) (n k : ℕ) → k < n → slice_get (take n xs) k ≡ slice_get xs k
taken-at xs zero k lt = absurd (omega arith)
taken-at [] (suc n) k lt = refl
taken-at (x ∷ xs) (suc n) zero lt = refl
taken-at (x ∷ xs) (suc n) (suc k) lt = taken-at xs n k (omega (arith, lt))

module _ {X : Type 0} (xs : List X) (p : ℕ) (d : X) (inside : p < length xs) where
  pub out-length : length (swap_remove xs p d) + 1 ≡ length xs
  out-length =
      let last = get_or xs (length xs - 1) d in
      omega (arith, inside, length-take (length xs - 1) (slice_set xs p last), length-set xs p last)

  pub stays-there : (k : ℕ) → (k ≡ p → ⊥) → k + 1 < length xs → slice_get (swap_remove xs p d) k ≡ slice_get xs k
  stays-there k ne lt =
      let last = get_or xs (length xs - 1) d in
      taken-at (slice_set xs p last) (length xs - 1) k (omega (arith, lt)) ∙ set-other xs p k last (λ e. ne (sym e))

  pub last-here : p + 1 < length xs → slice_get (swap_remove xs p d) p ≡ slice_get xs (length xs - 1)
  last-here lt =
      let last = get_or xs (length xs - 1) d in
      taken-at (slice_set xs p last) (length xs - 1) p (omega (arith, lt)) ∙ set-same xs p last inside
      ∙ sym (slice_get-get_or xs (length xs - 1) d (omega (arith, lt)))

-- ## The table of their places

module _ (places ns new : List ℕ) (p d : ℕ) (placed : IsPlaced places ns) (inside : p < length ns) (is : new ≡ swap_remove ns p d) where
  pub count : length new + 1 ≡ length ns
  count = ap (λ ls. length ls + 1) is ∙ out-length ns p d inside

  stayed : (s k : ℕ) → (k ≡ p → ⊥) → slice_get new k ≡ Some s → slice_get ns k ≡ Some s
  stayed s k ne e =
      let less = slice_get_within new k s e in
      sym (ap (λ ls. slice_get ls k) is ∙ stays-there ns p d inside k ne (omega (arith, less, count))) ∙ e

  -- where the last one was taken out, the table stays right
  pub placed-front : length new ≤ p → IsPlaced places new
  placed-front le s k e = placed s k (stayed s k (λ z. omega (arith, z, le, slice_get_within new k s e)) e)

  module _ (m : ℕ) (here : slice_get new p ≡ Some m) where
    stood : slice_get ns (length ns - 1) ≡ Some m
    stood =
        let less = slice_get_within new p m here in
        sym (ap (λ ls. slice_get ls p) is ∙ last-here ns p d inside (omega (arith, less, count))) ∙ here

    pub entry-inside : m < length places
    entry-inside = slice_get_within places m (length ns - 1) (placed m (length ns - 1) stood)

    -- where another took its place, the new place is written
    pub placed-moved : IsPlaced (slice_set places m p) new
    placed-moved s k e = by_same k p
        (λ z. let same : m ≡ s = some-same (sym here ∙ ap (slice_get new) (sym z) ∙ e) in
        ap (slice_get (slice_set places m p)) (sym same) ∙ set-same places m p entry-inside ∙ ap Some (sym z))
        (λ ne t. set-other places m s p (differs ne) ∙ placed s k (stayed s k ne e))
      where
        differs : (k ≡ p → ⊥) → m ≡ s → ⊥
        differs ne same =
            let less = slice_get_within new k s e in
            let last : length ns - 1 ≡ k = some-same (sym (placed m (length ns - 1) stood) ∙ ap (slice_get places) same ∙ placed s k (stayed s k ne e)) in
            omega (arith, last, less, count)
