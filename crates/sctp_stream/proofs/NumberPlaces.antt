-- A table that has the place of each number.
use Rattle.std.proofs.Common.{◌≡◌, ℕ, zero, suc, ◌<◌, ◌≤◌, List, [], ◌∷◌, ◌++◌, length, length-append, Some, None, refl, ap, sym, ◌∙◌, arith, inl, inr}
use Rattle.std.specs.Prelude.{◌⊎◌, slice_get, slice_set}
use Rattle.std.specs.List.{remove}
use Rattle.std.proofs.lemmas.Bool.{cases_lt, cases_eq}
use Rattle.std.proofs.lemmas.List.Edits.{length-remove}
use Rattle.std.proofs.lemmas.Option.{slice_get_within, none-some}
use Rattle.sctp_util.proofs.Getting.{get-last, slice-front}
use Rattle.sctp_util.proofs.Cases.{some-same}
use Rattle.sctp_stream.specs.Numbers.{IsPlaced, IsOnlyPlace, IsAbsent}

-- ## What a look finds

module _ (places ns : List ℕ) (placed : IsPlaced places ns) where
  -- a number stands at one place only
  pub once : (s j k : ℕ) → slice_get ns j ≡ Some s → slice_get ns k ≡ Some s → j ≡ k
  once s j k here there = some-same (sym (placed s j here) ∙ placed s k there)

  pub no-entry : (s : ℕ) → slice_get places s ≡ None → IsAbsent s ns
  no-entry s none k here = none-some k (sym none ∙ placed s k here)

  -- where its entry leads to another number or past the last one
  pub astray : (s p : ℕ) → slice_get places s ≡ Some p → (slice_get ns p ≡ Some s → ⊥) → IsAbsent s ns
  astray s p entry other k here = other (ap (slice_get ns) (some-same (sym entry ∙ placed s k here)) ∙ here)

  pub only-place : (s p : ℕ) → slice_get ns p ≡ Some s → IsOnlyPlace s ns p
  only-place s p here = record { here = here; only = λ j there. once s j p there here }

-- ## An element set, and one taken out

pub set-same : {A : Type 0} (xs : List A) (i : ℕ) (y : A) → i < length xs → slice_get (slice_set xs i y) i ≡ Some y
set-same [] i y lt = absurd (omega arith)
set-same (x ∷ xs) zero y lt = refl
set-same (x ∷ xs) (suc i) y lt = set-same xs i y (omega arith)

pub set-other : {A : Type 0} (xs : List A) (i j : ℕ) (y : A) → (i ≡ j → ⊥) → slice_get (slice_set xs i y) j ≡ slice_get xs j
set-other [] i j y ne = refl
set-other (x ∷ xs) zero zero y ne = absurd (ne refl)
set-other (x ∷ xs) zero (suc j) y ne = refl
set-other (x ∷ xs) (suc i) zero y ne = refl
set-other (x ∷ xs) (suc i) (suc j) y ne = set-other xs i j y (λ e. ne (ap suc e))

pub removed-below : (ns : List ℕ) (p k : ℕ) → k < p → p < length ns → slice_get (remove ns p) k ≡ slice_get ns k
removed-below [] p k lt short = absurd (omega arith)
removed-below (n ∷ ns) zero k lt short = absurd (omega arith)
removed-below (n ∷ ns) (suc p) zero lt short = refl
removed-below (n ∷ ns) (suc p) (suc k) lt short = removed-below ns p k (omega arith) (omega arith)

pub removed-above : (ns : List ℕ) (p k : ℕ) → p ≤ k → p < length ns → slice_get (remove ns p) k ≡ slice_get ns (suc k)
removed-above [] p k le short = absurd (omega arith)
removed-above (n ∷ ns) zero k le short = refl
removed-above (n ∷ ns) (suc p) zero le short = absurd (omega arith)
removed-above (n ∷ ns) (suc p) (suc k) le short = removed-above ns p k (omega arith) (omega arith)

-- ## Numbers that differ are no more than they can be

abbrev AreBelow : ℕ → List ℕ → Type 0
AreBelow m ns = (s k : ℕ) → slice_get ns k ≡ Some s → s < m

abbrev AreApart : List ℕ → Type 0
AreApart ns = (s j k : ℕ) → slice_get ns j ≡ Some s → slice_get ns k ≡ Some s → j ≡ k

abbrev Stands : ℕ → List ℕ → Type 0
Stands s ns = (k : ℕ) × (slice_get ns k ≡ Some s)

look : (s : ℕ) (ns : List ℕ) → Stands s ns ⊎ IsAbsent s ns
look s [] = inr (λ k e. none-some s e)
look s (n ∷ ns) = by (cases_eq n s) (look s ns)
  where
    neither : (n ≡ s → ⊥) → IsAbsent s ns → IsAbsent s (n ∷ ns)
    neither other absent zero e = other (some-same e)
    neither other absent (suc k) e = absent k e

    by : (n ≡ s) ⊎ (n ≡ s → ⊥) → Stands s ns ⊎ IsAbsent s ns → Stands s (n ∷ ns) ⊎ IsAbsent s (n ∷ ns)
    by (inl same) rest = inl (0, ap Some same)
    by (inr other) (inl there) = inl (suc there.0, there.1)
    by (inr other) (inr absent) = inr (neither other absent)

module _ (ns : List ℕ) (p m : ℕ) (here : slice_get ns p ≡ Some m) (apart : AreApart ns) where
  short : p < length ns
  short = slice_get_within ns p m here

  -- where an element of the rest stood
  stood : (s k : ℕ) → slice_get (remove ns p) k ≡ Some s
      → ((k < p) × (slice_get ns k ≡ Some s)) ⊎ ((p ≤ k) × (slice_get ns (suc k) ≡ Some s))
  stood s k e = elim (cases_lt k p) [
    | inl lt ↦ inl (lt, sym (removed-below ns p k lt short) ∙ e)
    | inr le ↦ inr (le, sym (removed-above ns p k le short) ∙ e)
  ]

  rest-below : AreBelow (suc m) ns → AreBelow m (remove ns p)
  rest-below below s k e = by (stood s k e)
    where
      lower : (j : ℕ) → (j ≡ p → ⊥) → slice_get ns j ≡ Some s → s < m
      lower j differs there = elim (cases_lt s m) [
        | inl lt ↦ lt
        | inr le ↦
            let same : s ≡ m = omega (arith, le, below s j there) in
            absurd (differs (apart m j p (there ∙ ap Some same) here))
      ]

      by : ((k < p) × (slice_get ns k ≡ Some s)) ⊎ ((p ≤ k) × (slice_get ns (suc k) ≡ Some s)) → s < m
      by (inl h) = lower k (λ z. omega (arith, h.0, z)) h.1
      by (inr h) = lower (suc k) (λ z. omega (arith, h.0, z)) h.1

  rest-apart : AreApart (remove ns p)
  rest-apart s j k a b = by (stood s j a) (stood s k b)
    where
      by : ((j < p) × (slice_get ns j ≡ Some s)) ⊎ ((p ≤ j) × (slice_get ns (suc j) ≡ Some s))
          → ((k < p) × (slice_get ns k ≡ Some s)) ⊎ ((p ≤ k) × (slice_get ns (suc k) ≡ Some s)) → j ≡ k
      by (inl u) (inl v) = apart s j k u.1 v.1
      by (inl u) (inr v) = absurd (omega (arith, apart s j (suc k) u.1 v.1, u.0, v.0))
      by (inr u) (inl v) = absurd (omega (arith, apart s (suc j) k u.1 v.1, u.0, v.0))
      by (inr u) (inr v) = omega (arith, apart s (suc j) (suc k) u.1 v.1)

-- below m there are at most m different numbers
at-most : (m : ℕ) (ns : List ℕ) → AreBelow m ns → AreApart ns → length ns ≤ m
at-most zero [] below apart = omega arith
at-most zero (n ∷ ns) below apart = absurd (omega (arith, below n 0 refl))
at-most (suc m) ns below apart = by (at-most m) (look m ns)
  where
    lower : IsAbsent m ns → AreBelow m ns
    lower absent s k e = elim (cases_lt s m) [
      | inl lt ↦ lt
      | inr le ↦
          let same : s ≡ m = omega (arith, le, below s k e) in
          absurd (absent k (e ∙ ap Some same))
    ]

    by : ((xs : List ℕ) → AreBelow m xs → AreApart xs → length xs ≤ m) → Stands m ns ⊎ IsAbsent m ns → length ns ≤ suc m
    by fits (inl there) =
        let p = there.0 in
        let rest = fits (remove ns p) (rest-below ns p m there.1 apart below) (rest-apart ns p m there.1 apart) in
        omega (arith, rest, length-remove ns p (slice_get_within ns p m there.1))
    by fits (inr absent) = omega (arith, fits ns (lower absent) apart)

-- the table is at least as long as the list
pub no-more : (places ns : List ℕ) → IsPlaced places ns → length ns ≤ length places
no-more places ns placed = at-most (length places) ns (λ s k e. slice_get_within places s k (placed s k e)) (once places ns placed)

-- ## A number put behind the others

module _ (places ns : List ℕ) (placed : IsPlaced places ns) (n : ℕ) (absent : IsAbsent n ns) where
  -- fewer stand there than there are numbers
  pub fewer : (m : ℕ) → length places ≤ m → n < m → length ns < m
  fewer m short lt = omega (arith, at-most m (n ∷ ns) below apart)
    where
      below : AreBelow m (n ∷ ns)
      below s zero e = omega (arith, lt, some-same e)
      below s (suc k) e = omega (arith, slice_get_within places s k (placed s k e), short)

      apart : AreApart (n ∷ ns)
      apart s zero zero a b = refl
      apart s zero (suc k) a b = absurd (absent k (b ∙ sym a))
      apart s (suc j) zero a b = absurd (absent j (a ∙ sym b))
      apart s (suc j) (suc k) a b = ap suc (once places ns placed s j k a b)

  pub more : n < length places → IsPlaced (slice_set places n (length ns)) (ns ++ n ∷ [])
  more lt s k e = elim (cases_lt k (length ns)) [
    | inl below ↦ old (sym (slice-front ns (n ∷ []) k below) ∙ e)
    | inr le ↦
        let last : length ns ≡ k = omega (arith, le, slice_get_within (ns ++ n ∷ []) k s e, length-append ns (n ∷ [])) in
        let same : n ≡ s = some-same (sym (get-last ns n) ∙ ap (slice_get (ns ++ n ∷ [])) last ∙ e) in
        ap (slice_get (slice_set places n (length ns))) (sym same) ∙ set-same places n (length ns) lt ∙ ap Some last
  ]
    where
      old : slice_get ns k ≡ Some s → slice_get (slice_set places n (length ns)) s ≡ Some k
      old here = set-other places n s (length ns) (λ same. absent k (here ∙ ap Some (sym same))) ∙ placed s k here
