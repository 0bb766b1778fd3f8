-- What a FORWARD-TSN makes of the streams that it visits, and of those that it does not.
use Rattle.sctp_receiver.proofs.Names.{◌≡◌, ℕ, zero, suc, ◌+◌, ◌<◌, ◌≤◌, Bool, true, false, List, [], ◌∷◌, length, map, Some, None, refl, ap, sym, ◌∙◌, arith}
use Rattle.sctp_receiver.proofs.Names.{◌==◌, ◌&&◌, ◌||◌, nat_lt, if◌then◌else◌, slice_get, slice_index_or, slice_set, sum_by, filter, lt-ltb, nat_tests}
use Rattle.sctp_receiver.proofs.Names.{sum_by-cons, sum_by-set, slice_get_within, get_or_from_slice_get, by_same, some-same, AreInverse, VisitOrder}
use Rattle.sctp_receiver.proofs.Names.{is_spot_before, is_visited}
use Rattle.std.specs.Prelude.{Option}
use Rattle.std.proofs.lemmas.Option.{slice_get-get_or}
use Rattle.sctp_receiver.proofs.VisitOrders.{set-here, set-there}

-- ## Each is visited

-- a list that has at each place what f makes of the other's
pub mapped-by : {X : Type 0} (f : X → X) (xs ys : List X) → length ys ≡ length xs
    → ((p : ℕ) (x : X) → slice_get xs p ≡ Some x → slice_get ys p ≡ Some (f x)) → ys ≡ map f xs
mapped-by f [] [] n h = refl
mapped-by f [] (y ∷ ys) n h = absurd (omega (arith, n))
mapped-by f (x ∷ xs) [] n h = absurd (omega (arith, n))
mapped-by f (x ∷ xs) (y ∷ ys) n h =
    ap (λ z. z ∷ ys) (some-same (h 0 x refl)) ∙ ap (λ zs. f x ∷ zs) (mapped-by f xs ys (omega (arith, n)) (λ p x e. h (suc p) x e))

-- the spots before a count are those before the one less, and that one
pub next-spot : (i : ℕ) (o : Option ℕ) → (o ≡ Some i → ⊥) → is_spot_before i o ≡ is_spot_before (i + 1) o
next-spot i None ne = refl
next-spot i (Some k) ne = same k (λ e. ne (ap Some e))
  where
    same : (k : ℕ) → (k ≡ i → ⊥) → nat_lt k i ≡ nat_lt k (i + 1)
    same k nk = grind (arith, nat_tests)

-- ## How many are visited

abbrev tell : Bool → ℕ
tell true = 1
tell false = 0

-- no more than pass the test, where each place before the count does
few-answered : (count : ℕ) (order spots : List ℕ) (bs : List Bool) → AreInverse order spots
    → ((i : ℕ) → i < count → (p : ℕ) × (slice_get order i ≡ Some p) × (slice_get bs p ≡ Some true)) → count ≤ sum_by tell bs
few-answered zero order spots bs inverse h = omega arith
few-answered (suc n) order spots bs inverse h =
    let last = h n (omega arith) in
    let p = last.0 in
    let lt = slice_get_within bs p true last.2 in
    let s = sum_by-set tell bs p false false lt in
    let here = ap tell (get_or_from_slice_get bs p true false last.2) in
    let ih = few-answered n order spots (slice_set bs p false) inverse (λ i less. let q = h i (omega (arith, less)) in
    (q.0, q.1, set-there bs p (q.0) false (λ z. omega (arith, less, spot-is i (q.0) p q.1 z last.1)) ∙ q.2)) in
    omega (arith, s, here, ih)
  where
    spot-is : (i q p : ℕ) → slice_get order i ≡ Some q → q ≡ p → slice_get order n ≡ Some p → i ≡ n
    spot-is i q p a z b = some-same (sym ((inverse i q).0 a) ∙ ap (slice_get spots) z ∙ (inverse n p).0 b)

module _ {X : Type 0} (any : X → Bool) where
  answered : (xs : List X) → sum_by tell (map any xs) ≡ length (filter any xs)
  answered [] = refl
  answered (x ∷ xs) = sum_by-cons tell (any x) (map any xs) ∙ by (any x) (answered xs)
    where
      by : (b : Bool) → sum_by tell (map any xs) ≡ length (filter any xs)
          → tell b + sum_by tell (map any xs) ≡ length (if b then x ∷ filter any xs else filter any xs)
      by true ih = omega (arith, ih)
      by false ih = omega (arith, ih)

  at-mapped : (xs : List X) (p : ℕ) (x : X) → slice_get xs p ≡ Some x → slice_get (map any xs) p ≡ Some (any x)
  at-mapped [] p x e = cc
  at-mapped (y ∷ xs) zero x e = ap (λ z. Some (any z)) (some-same e)
  at-mapped (y ∷ xs) (suc p) x e = at-mapped xs p x e

  pub element : (xs : List X) (p : ℕ) → p < length xs → (x : X) × (slice_get xs p ≡ Some x)
  element [] p lt = absurd (omega (arith, lt))
  element (x ∷ xs) zero lt = (x, refl)
  element (x ∷ xs) (suc p) lt = element xs p (omega (arith, lt))

  pub few-visited : (v : VisitOrder) (xs : List X) → AreInverse v.order v.spots → v.count ≤ length v.order → length v.spots ≡ length xs
      → ((p : ℕ) (x : X) → slice_get xs p ≡ Some x → is_visited p v ≡ true → any x ≡ true) → v.count ≤ length (filter any xs)
  few-visited v xs inverse within same all =
      let h = few-answered v.count v.order v.spots (map any xs) inverse each in
      omega (arith, h, answered xs)
    where
      each : (i : ℕ) → i < v.count → (p : ℕ) × (slice_get v.order i ≡ Some p) × (slice_get (map any xs) p ≡ Some true)
      each i lt =
          let o = element' v.order i (omega (arith, lt, within)) in
          let spot = (inverse i (o.0)).0 o.1 in
          let inside = slice_get_within v.spots (o.0) i spot in
          let x = element xs (o.0) (omega (arith, inside, same)) in
          (o.0, o.1, at-mapped xs (o.0) (x.0) x.1 ∙ ap Some (all (o.0) (x.0) x.1 (ap (is_spot_before v.count) spot ∙ lt-ltb i v.count lt)))
        where
          element' : (ns : List ℕ) (p : ℕ) → p < length ns → (n : ℕ) × (slice_get ns p ≡ Some n)
          element' [] p lt = absurd (omega (arith, lt))
          element' (n ∷ ns) zero lt = (n, refl)
          element' (n ∷ ns) (suc p) lt = element' ns p (omega (arith, lt))

-- ## Who is visited

module _ {X : Type 0} (any inc : X → Bool) where
  -- those that are not visited hold nothing incomplete
  abbrev pub OthersHoldNone : VisitOrder → List X → Type 0
  OthersHoldNone v xs = (p : ℕ) (x : X) → slice_get xs p ≡ Some x → is_visited p v ≡ false → inc x ≡ false

  -- those that are visited hold any
  abbrev pub VisitedHoldAny : VisitOrder → List X → Type 0
  VisitedHoldAny v xs = (p : ℕ) (x : X) → slice_get xs p ≡ Some x → is_visited p v ≡ true → any x ≡ true

  -- the one at a place changes, and is visited from then on where it was or may hold more, and holds any
  module _ (v w : VisitOrder) (xs : List X) (k : ℕ) (x y : X) (more : Bool) (lt : k < length xs) (at : x ≡ slice_index_or xs k x)
      (others : (p : ℕ) → (p == k) ≡ false → is_visited p w ≡ is_visited p v) (here : is_visited k w ≡ (any y && (more || is_visited k v))) where
    pub others-renewed : OthersHoldNone v xs → (any y ≡ false → inc y ≡ false) → (more ≡ false → inc x ≡ false → inc y ≡ false)
        → OthersHoldNone w (slice_set xs k y)
    others-renewed before none keeps p z e = by_same p k
        (λ s h. let is : z ≡ y = some-same (sym e ∙ ap (slice_get (slice_set xs k y)) s ∙ set-here xs k y lt) in
        ap inc is ∙ by (any y) more (is_visited k v) (sym here ∙ ap (λ q. is_visited q w) (sym s) ∙ h) none keeps
        (before k x (slice_get-get_or xs k x lt ∙ ap Some (sym at))))
        (λ ne t h. before p z (sym (set-there xs k p y ne) ∙ e) (sym (others p t) ∙ h))
      where
        by : (a m was : Bool) → (a && (m || was)) ≡ false → (a ≡ false → inc y ≡ false) → (m ≡ false → inc x ≡ false → inc y ≡ false)
            → (was ≡ false → inc x ≡ false) → inc y ≡ false
        by false m was h none keeps before = none refl
        by true true was h none keeps before = cc
        by true false was h none keeps before = keeps refl (before h)

    pub visited-renewed : VisitedHoldAny v xs → VisitedHoldAny w (slice_set xs k y)
    visited-renewed before p z e = by_same p k
        (λ s h. let is : z ≡ y = some-same (sym e ∙ ap (slice_get (slice_set xs k y)) s ∙ set-here xs k y lt) in
        ap any is ∙ by (any y) (more || is_visited k v) (sym here ∙ ap (λ q. is_visited q w) (sym s) ∙ h))
        (λ ne t h. before p z (sym (set-there xs k p y ne) ∙ e) (sym (others p t) ∙ h))
      where
        by : (a b : Bool) → (a && b) ≡ true → a ≡ true
        by true b h = refl
        by false b h = cc
