-- Lists of items that take the same room each, written and read again.
use Rattle.std.proofs.Common.{◌≡◌, ℕ, zero, suc, ◌+◌, ◌*◌, List, [], ◌∷◌, ◌++◌, length, refl, sym, ap, ◌∙◌, arith, append_assoc, length-append}
use Rattle.std.specs.List.{flat_map, AllByRecursion}
use Rattle.std.proofs.lemmas.List.Concat.{flat_map-cons}
use Rattle.std.proofs.Math.Nat.{mul-suc}
use Rattle.sctp_util.specs.Each.{each}

each_front : {A : Type 0} (n : ℕ) (f : ℕ → A) → each (suc n) f ≡ f 0 ∷ each n (λ i. f (suc i))
unfolding each
each_front zero f = refl
each_front (suc n) f = ap (λ (x : List _). x ++ f (suc n) ∷ []) (each_front n f)

each_same : {A : Type 0} (n : ℕ) (f g : ℕ → A) → ((i : ℕ) → f i ≡ g i) → each n f ≡ each n g
unfolding each
each_same zero f g h = refl
each_same (suc n) f g h = rw (each_same n f g h, h n) refl

module _ {A : Type 0} (encoding : A → List ℕ) (item : List ℕ → ℕ → A) (k : ℕ) (FitsItem : A → Type 0) (long : (x : A) → length (encoding x) ≡ k)
    (again : (x : A) (front rest : List ℕ) (at : ℕ) → length front ≡ at → FitsItem x → item (front ++ (encoding x ++ rest)) at ≡ x) where
  pub items_again : (xs : List A) (front rest : List ℕ) (at : ℕ) → length front ≡ at → AllByRecursion FitsItem xs
      → each (length xs) (λ i. item (front ++ (flat_map encoding xs ++ rest)) (at + k * i)) ≡ xs
  unfolding each
  items_again [] front rest at e fits = refl
  items_again (x ∷ xs) front rest at e fits =
      let whole : List ℕ = front ++ (flat_map encoding (x ∷ xs) ++ rest) in
      let more : List ℕ = flat_map encoding xs ++ rest in
      let grouped : whole ≡ front ++ (encoding x ++ more) = rw flat_map-cons (simp append_assoc) in
      let further : whole ≡ (front ++ encoding x) ++ more = grouped ∙ sym (append_assoc front (encoding x) more) in
      let next : length (front ++ encoding x) ≡ at + k = omega (arith, length-append front (encoding x), long x, e) in
      let others = items_again xs (front ++ encoding x) rest (at + k) next fits.1 in
      let shift : each (length xs) (λ i. item whole (at + k * suc i)) ≡ each (length xs) (λ i. item ((front ++ encoding x) ++ more) (at + k + k * i)) =
      each_same (length xs) (λ i. item whole (at + k * suc i)) (λ i. item ((front ++ encoding x) ++ more) (at + k + k * i))
      (λ i. let p : at + k * suc i ≡ at + k + k * i = omega (arith, mul-suc k i) in rw (p, further) refl) in
      let zeroth : at + k * 0 ≡ at = omega arith in
      let first : item whole (at + k * 0) ≡ x = rw zeroth (ap (λ (y : List ℕ). item y at) grouped ∙ again x front more at e fits.0) in
      each_front (length xs) (λ i. item whole (at + k * i)) ∙ rw (first, shift, others) refl
