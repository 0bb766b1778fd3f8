-- The progress of streams as it is kept, found by their numbers.
use Rattle.std.proofs.Common.{◌≡◌, ℕ, zero, suc, ◌<◌, Bool, true, false, List, [], ◌∷◌, length, map, Option, Some, None, refl, ap, sym, ◌∙◌}
use Rattle.std.specs.Prelude.{◌==◌, if◌then◌else◌, find, is_some, slice_get, slice_index_or, slice_set, MatchOption}
use Rattle.std.proofs.lemmas.Bool.{eq-eqb}
use Rattle.std.proofs.lemmas.List.{get_or_default}
use Rattle.sctp_util.specs.Lists.{change_where, change_at}
use Rattle.sctp_util.proofs.Getting.{map-twice}
use Rattle.sctp_util.proofs.Cases.{some-same}
use Rattle.sctp_stream.specs.Numbers.{IsOnlyPlace, IsAbsent}
use Rattle.sctp_stream.proofs.StreamPlaces as Places
use Rattle.sctp_link.specs.declared.progress.StreamProgress.{StreamProgress}
use Rattle.sctp_link.specs.Progress.{Standing, standing_of, number, has_number, numbers_of, fresh}

-- ## Lists

pub mapped-at : {A B : Type 0} (f : A → B) (xs : List A) (k : ℕ) (d : A) → slice_index_or (map f xs) k (f d) ≡ f (slice_index_or xs k d)
mapped-at f [] k d = refl
mapped-at f (x ∷ xs) zero d = refl
mapped-at f (x ∷ xs) (suc k) d = mapped-at f xs k d

pub mapped-set : {A B : Type 0} (f : A → B) (xs : List A) (k : ℕ) (y : A) → map f (slice_set xs k y) ≡ slice_set (map f xs) k (f y)
mapped-set f [] k y = refl
mapped-set f (x ∷ xs) zero y = refl
mapped-set f (x ∷ xs) (suc k) y = ap (λ ys. f x ∷ ys) (mapped-set f xs k y)

changed-set : {A : Type 0} (f : A → A) (k : ℕ) (xs : List A) (x : A) → x ≡ slice_index_or xs k x → slice_set xs k (f x) ≡ change_at f k xs
changed-set f k [] x e = refl
changed-set f zero (y ∷ ys) x e = ap (λ z. f z ∷ ys) e
changed-set f (suc k) (y ∷ ys) x e = ap (λ zs. y ∷ zs) (changed-set f k ys x e)

pub same-set : {A : Type 0} (xs : List A) (k : ℕ) (x : A) → x ≡ slice_index_or xs k x → slice_set xs k x ≡ xs
same-set [] k x e = refl
same-set (y ∷ ys) zero x e = ap (λ z. z ∷ ys) e
same-set (y ∷ ys) (suc k) x e = ap (λ zs. y ∷ zs) (same-set ys k x e)

-- the number of none that is found stands nowhere
pub absent-of : (s : ℕ) (ps : List Standing) → find (has_number s) ps ≡ None → IsAbsent s (numbers_of ps)
absent-of s [] none k e = cc
absent-of s (p ∷ ps) none zero e = absurd (by (p.number == s) (eq-eqb p.number s (some-same e)) none)
  where
    by : (b : Bool) → b ≡ true → (if b then Some p else find (has_number s) ps) ≡ None → ⊥
    by true e none = cc
    by false e none = cc
absent-of s (p ∷ ps) none (suc k) e = absent-of s ps (by (p.number == s) none) k e
  where
    by : (b : Bool) → (if b then Some p else find (has_number s) ps) ≡ None → find (has_number s) ps ≡ None
    by true e = absurd (cc)
    by false e = e

-- what is kept is told by its numbers
pub numbers-shown : (ps : List StreamProgress) → map (λ (p : StreamProgress). p.number) ps ≡ numbers_of (map standing_of ps)
numbers-shown ps = sym (map-twice number standing_of ps)

-- what is shown alike has the same numbers
pub numbers-alike : (ps qs : List StreamProgress) → map standing_of qs ≡ map standing_of ps
    → map (λ (p : StreamProgress). p.number) qs ≡ map (λ (p : StreamProgress). p.number) ps
numbers-alike ps qs e = numbers-shown qs ∙ ap numbers_of e ∙ sym (numbers-shown ps)

module _ (ns : List ℕ) (ps : List StreamProgress) (is : ns ≡ map (λ (p : StreamProgress). p.number) ps) where
  pub shown : ns ≡ numbers_of (map standing_of ps)
  shown = is ∙ numbers-shown ps

  -- ## One that is not there

  pub absent-shown : (s : ℕ) → find (has_number s) (map standing_of ps) ≡ None → IsAbsent s ns
  absent-shown s none k e = absent-of s (map standing_of ps) none k (ap (λ ms. slice_get ms k) (sym shown) ∙ e)

  pub absent-found : (s : ℕ) → IsAbsent s ns → find (has_number s) (map standing_of ps) ≡ None
  absent-found s absent = Places.absent-find number (map standing_of ps) ns shown s absent

  pub absent-on : (s : ℕ) (f : Standing → Standing) → IsAbsent s ns → map standing_of ps ≡ change_where (has_number s) f (map standing_of ps)
  absent-on s f absent = Places.absent-change number (map standing_of ps) ns shown s f absent

  -- ## One at a place

  pub place-inside : (s k : ℕ) → IsOnlyPlace s ns k → k < length ps
  place-inside s k only = Places.inside (λ (p : StreamProgress). p.number) ps ns is s k only

  pub numbered : (k : ℕ) (p q : StreamProgress) → p ≡ slice_index_or ps k p → q.number ≡ p.number
      → ns ≡ map (λ (x : StreamProgress). x.number) (slice_set ps k q)
  numbered k p q at' same = is ∙ sym (Places.map-set_same (λ (x : StreamProgress). x.number) ps k q p (same ∙ ap (λ (x : StreamProgress). x.number) at'))

  shown-at : (k : ℕ) (p : StreamProgress) → p ≡ slice_index_or ps k p → standing_of p ≡ slice_index_or (map standing_of ps) k (standing_of p)
  shown-at k p at' = ap standing_of at' ∙ sym (mapped-at standing_of ps k p)

  pub found-at : (s k : ℕ) → IsOnlyPlace s ns k → (p : StreamProgress) → p ≡ slice_index_or ps k p
      → find (has_number s) (map standing_of ps) ≡ Some (standing_of p)
  found-at s k only p at' = Places.found number (map standing_of ps) ns shown s k only (standing_of p) (shown-at k p at')

  pub put-on : (s k : ℕ) → IsOnlyPlace s ns k → (p q : StreamProgress) → p ≡ slice_index_or ps k p → (f : Standing → Standing)
      → standing_of q ≡ f (standing_of p) → map standing_of (slice_set ps k q) ≡ change_where (has_number s) f (map standing_of ps)
  put-on s k only p q at' f made = mapped-set standing_of ps k q
      ∙ Places.changed number (map standing_of ps) ns shown s k only f (standing_of p) (standing_of q) (shown-at k p at') made

  pub put-at : (k : ℕ) (p q : StreamProgress) → p ≡ slice_index_or ps k p → (f : Standing → Standing) → standing_of q ≡ f (standing_of p)
      → map standing_of (slice_set ps k q) ≡ change_at f k (map standing_of ps)
  put-at k p q at' f made = cc (mapped-set standing_of ps k q, made, changed-set f k (map standing_of ps) (standing_of p) (shown-at k p at'))

  pub opens : (s : ℕ) (o : Option ℕ) → MatchOption o (IsAbsent s ns) (IsOnlyPlace s ns) → is_some o ≡ is_some (find (has_number s) (map standing_of ps))
  opens s None absent = ap is_some (sym (absent-found s absent))
  opens s (Some k) only =
      let ls = map standing_of ps in
      let x = slice_index_or ls k (fresh 0) in
      let inside = Places.inside number ls ns shown s k only in
      ap is_some (sym (Places.found number ls ns shown s k only x (get_or_default ls k (fresh 0) x inside)))

-- the progress in other memory
pub kept-set : (ps : List StreamProgress) (k : ℕ) (p q : StreamProgress) → p ≡ slice_index_or ps k p → standing_of q ≡ standing_of p
    → map standing_of (slice_set ps k q) ≡ map standing_of ps
kept-set ps k p q at' same = mapped-set standing_of ps k q ∙ ap (slice_set (map standing_of ps) k) same
    ∙ same-set (map standing_of ps) k (standing_of p) (ap standing_of at' ∙ sym (mapped-at standing_of ps k p))

-- what is read at a place twice is the same
pub same-place : (ps : List StreamProgress) (k : ℕ) (p q : StreamProgress) → k < length ps → p ≡ slice_index_or ps k p → q ≡ slice_index_or ps k q → p ≡ q
same-place ps k p q lt e f = e ∙ get_or_default ps k p q lt ∙ sym f
