-- Streams that are found by their numbers: the one at a place, and what its change makes of them all.
use Rattle.std.proofs.Common.{◌≡◌, ℕ, zero, suc, ◌<◌, Bool, true, false, List, [], ◌∷◌, ◌++◌, length, get_or, map, Some, None, refl, ap, sym, ◌∙◌, arith}
use Rattle.std.specs.List.{filter, slice_rotate_right, swap_remove}
use Rattle.std.specs.Prelude.{◌==◌, not, if◌then◌else◌, find, slice_get, slice_index_or, slice_set}
use Rattle.std.proofs.lemmas.Bool.{eq-eqb, ne_eqb}
use Rattle.std.proofs.lemmas.Option.{slice_get_within}
use Rattle.sctp_util.specs.Lists.{change_where}
use Rattle.sctp_util.proofs.Edits.{OnlyAt, change_where-only, change_where-none, find-none}
use Rattle.sctp_util.proofs.Getting.{length-mapped}
use Rattle.sctp_stream.specs.Numbers.{IsOnlyPlace, IsAbsent, swapped_out}
use Rattle.sctp_stream.proofs.Removals.{only-out, out-stay, rotated-map}
use Rattle.sctp_util.proofs.Cases.{some-same}

module _ {X : Type 0} (p : X → Bool) where
  pub find-first : (xs : List X) (i : ℕ) (d : X) → i < length xs → ((k : ℕ) (d : X) → k < i → p (get_or xs k d) ≡ false) → p (get_or xs i d) ≡ true
      → find p xs ≡ Some (get_or xs i d)
  find-first [] i d lt before here = absurd (omega (arith, lt))
  find-first (x ∷ xs) zero d lt before here = rw here refl
  find-first (x ∷ xs) (suc i) d lt before here =
      rw (before 0 x (omega arith)) (find-first xs i d (omega (arith, lt)) (λ k d lt. before (suc k) d (omega arith)) here)

pub map-set_same : {A B : Type 0} (f : A → B) (xs : List A) (i : ℕ) (y d : A) → f y ≡ f (slice_index_or xs i d) → map f (slice_set xs i y) ≡ map f xs
map-set_same f [] i y d e = refl
map-set_same f (x ∷ xs) zero y d e = ap (λ b. b ∷ map f xs) e
map-set_same f (x ∷ xs) (suc i) y d e = ap (λ bs. f x ∷ bs) (map-set_same f xs i y d e)

module _ {X : Type 0} (num : X → ℕ) where
  number-at : (ls : List X) (k : ℕ) (d : X) → k < length ls → slice_get (map num ls) k ≡ Some (num (slice_index_or ls k d))
  number-at [] k d lt = absurd (omega (arith, lt))
  number-at (l ∷ ls) zero d lt = refl
  number-at (l ∷ ls) (suc k) d lt = number-at ls k d (omega (arith, lt))

  -- the numbers of those with another number
  others : (s : ℕ) (ls : List X) → map num (filter (λ l. not (num l == s)) ls) ≡ filter (λ n. not (n == s)) (map num ls)
  others s [] = refl
  others s (l ∷ ls) = by (not (num l == s)) (filter (λ n. not (n == s)) (map num ls)) (filter (λ l. not (num l == s)) ls) (others s ls)
    where
      by : (b : Bool) (ms : List ℕ) (ks : List X) → map num ks ≡ ms → map num (if b then l ∷ ks else ks) ≡ (if b then num l ∷ ms else ms)
      by true ms ks e = ap (λ ns. num l ∷ ns) e
      by false ms ks e = e

  -- the numbers of the streams without one are the numbers without it
  pub numbers-out : (s : ℕ) (ls : List X) → map num (swapped_out (λ l. num l == s) ls) ≡ swapped_out (λ n. n == s) (map num ls)
  numbers-out s [] = refl
  numbers-out s (l ∷ ls) = by (num l == s) (numbers-out s ls)
    where
      by : (b : Bool) → map num (swapped_out (λ l. num l == s) ls) ≡ swapped_out (λ n. n == s) (map num ls)
          → map num (if b then slice_rotate_right (filter (λ l. not (num l == s)) ls) 1 else l ∷ swapped_out (λ l. num l == s) ls)
          ≡ (if b then slice_rotate_right (filter (λ n. not (n == s)) (map num ls)) 1 else num l ∷ swapped_out (λ n. n == s) (map num ls))
      by true ih = rotated-map num (filter (λ l. not (num l == s)) ls) ∙ ap (λ ms. slice_rotate_right ms 1) (others s ls)
      by false ih = ap (λ ms. num l ∷ ms) ih

  module _ (ls : List X) (ns : List ℕ) (is : ns ≡ map num ls) (s : ℕ) where
    -- no stream has the number
    differs : IsAbsent s ns → (k : ℕ) (d : X) → k < length ls → (num (slice_index_or ls k d) == s) ≡ false
    differs absent k d lt = ne_eqb _ _ (λ e. absent k (ap (λ ms. slice_get ms k) is ∙ number-at ls k d lt ∙ ap Some e))

    pub absent-find : IsAbsent s ns → find (λ l. num l == s) ls ≡ None
    absent-find absent = find-none (λ l. num l == s) ls (differs absent)

    pub absent-change : (f : X → X) → IsAbsent s ns → ls ≡ change_where (λ l. num l == s) f ls
    absent-change f absent = sym (change_where-none (λ l. num l == s) f ls (differs absent))

    pub absent-out : IsAbsent s ns → ls ≡ swapped_out (λ l. num l == s) ls
    absent-out absent = out-stay (λ l. num l == s) ls (differs absent)

    module _ (k : ℕ) (p : IsOnlyPlace s ns k) where
      pub inside : k < length ls
      inside = omega (arith, slice_get_within ns k s p.here, ap length is, length-mapped num ls)

      only : OnlyAt (λ l. num l == s) ls k
      only = record {
        in_range = inside;
        here = λ d. eq-eqb _ _ (some-same (sym (number-at ls k d inside) ∙ ap (λ ms. slice_get ms k) (sym is) ∙ p.here));
        elsewhere = λ j d less ne. ne_eqb _ _ (λ z. ne (p.only j (ap (λ ms. slice_get ms j) is ∙ number-at ls j d less ∙ ap Some z)));
      }

      pub found : (x : X) → x ≡ slice_index_or ls k x → find (λ l. num l == s) ls ≡ Some x
      found x e = find-first (λ l. num l == s) ls k x inside (λ j d lt. only.elsewhere j d (omega (arith, lt, inside)) (λ z. omega (arith, lt, z)))
          (only.here x) ∙ ap Some (sym e)

      -- the one at the place is changed, and no other
      pub changed : (f : X → X) (x y : X) → x ≡ slice_index_or ls k x → y ≡ f x → slice_set ls k y ≡ change_where (λ l. num l == s) f ls
      changed f x y e made = ap (slice_set ls k) (made ∙ ap f e) ∙ sym (change_where-only (λ l. num l == s) f ls k x only)

      pub numbers-stay : (x y : X) → x ≡ slice_index_or ls k x → num y ≡ num x → ns ≡ map num (slice_set ls k y)
      numbers-stay x y e same = is ∙ sym (map-set_same num ls k y x (same ∙ ap num e))

      -- the one at the place is taken out, and no other
      pub without : (d : X) → swap_remove ls k d ≡ swapped_out (λ l. num l == s) ls
      without d = only-out (λ l. num l == s) ls k d only

      pub numbers-without : (d : X) → swapped_out (λ n. n == s) ns ≡ map num (swap_remove ls k d)
      numbers-without d = ap (swapped_out (λ n. n == s)) is ∙ sym (numbers-out s ls) ∙ ap (map num) (sym (without d))

-- ## One that is opened and closed again

module _ {X : Type 0} (p : X → Bool) where
  -- one more that passes is taken out again
  pub taken-back : (xs : List X) (y : X) → p y ≡ true → find p xs ≡ None → swapped_out p (xs ++ y ∷ []) ≡ xs
  taken-back [] y passes none = rw passes refl
  taken-back (x ∷ xs) y passes none = by (p x) none (taken-back xs y passes)
    where
      by : (b : Bool) → (if b then Some x else find p xs) ≡ None → (find p xs ≡ None → swapped_out p (xs ++ y ∷ []) ≡ xs)
          → (if b then slice_rotate_right (filter (λ x. not (p x)) (xs ++ y ∷ [])) 1 else x ∷ swapped_out p (xs ++ y ∷ [])) ≡ x ∷ xs
      by true e rest = absurd (cc)
      by false e rest = ap (λ ys. x ∷ ys) (rest e)
