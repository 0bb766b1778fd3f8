-- One number leaves a map.
use Rattle.std.proofs.Common.{◌≡◌, ℕ, ◌<◌, ◌==◌, Bool, true, false, if◌then◌else◌, List, [], ◌∷◌, ◌++◌, length, Option, Some, None, IsSome, is_some, refl, sym}
use Rattle.std.proofs.Common.{ap, subst, ◌∙◌, ◌≢◌, inl, inr, unwrap_or, arith}
use Rattle.std.specs.List.{Any}
use Rattle.std.proofs.lemmas.Bool.{eq-eqb, ne_eqb, false≢true}
use Rattle.std.proofs.lemmas.List.{length-append, get_or_append_left}
use Rattle.sctp_follow.specs.Lanes.{held}
use Rattle.sctp_follow.specs.declared.lanes.Part.{Part}

pub some_is : {A : Type 0} (a b : A) → Some a ≡ Some b → a ≡ b
some_is {A = A} a b e = ap (λ (o : Option A). unwrap_or o a) e

pub pair_is : {A B : Type 0} (e : A × B) (a : A) (b : B) → e.0 ≡ a → e.1 ≡ b → e ≡ (a, b)
pair_is (x, y) a b p q = rw (p, q) refl

pub chosen : {S : Type 0} (b : Bool) (x y : S) → b ≡ true → (if b then x else y) ≡ x
chosen true x y e = refl
chosen false x y e = absurd (false≢true e)

pub passed : {S : Type 0} (b : Bool) (x y : S) → b ≡ false → (if b then x else y) ≡ y
passed true x y e = absurd (false≢true (sym e))
passed false x y e = refl

module _ {S : Type 0} (f g : ℕ → S) (z : S) (k : ℕ) (left : (t : ℕ) → g t ≡ (if t == k then z else f t)) where
  pub left_at : (t : ℕ) → t ≡ k → g t ≡ z
  left_at t e = left t ∙ chosen (t == k) z (f t) (eq-eqb t k e)

  pub left_other : (t : ℕ) → (t ≡ k → ⊥) → g t ≡ f t
  left_other t e = left t ∙ passed (t == k) z (f t) (ne_eqb t k e)

-- what is still there was there, and is another one
module _ {X : Type 0} (f g : ℕ → Option X) (k : ℕ) (left : (t : ℕ) → g t ≡ (if t == k then None else f t)) where
  pub other_there : (t : ℕ) → IsSome (g t) → k ≢ t
  other_there t has same = absurd (false≢true (subst (λ (o : Option X). is_some o ≡ true) (left_at f g None k left t (sym same)) has))

  pub still_there : (t : ℕ) → IsSome (g t) → IsSome (f t)
  still_there t has = subst (λ (o : Option X). is_some o ≡ true) (left_other f g None k left t (λ e. other_there t has (sym e))) has

  pub still_is : (t : ℕ) (x : X) → g t ≡ Some x → f t ≡ Some x
  still_is t x e = sym (left_other f g None k left t (λ s. other_there t (ap is_some e) (sym s))) ∙ e

module _ {X : Type 0} (f g : ℕ → List X) (k : ℕ) (left : (t : ℕ) → g t ≡ (if t == k then [] else f t)) where
  pub other_held : (t : ℕ) → 0 < length (g t) → k ≢ t
  other_held t has same = let e : length (g t) ≡ 0 = ap length (left_at f g [] k left t (sym same)) in absurd (omega arith)

  pub still_held : (t : ℕ) → 0 < length (g t) → 0 < length (f t)
  still_held t has = subst (λ (xs : List X). 0 < length xs) (left_other f g [] k left t (λ e. other_held t has (sym e))) has

pub held_some : (part : Option Part) → 0 < length (held part) → IsSome part
held_some None has = absurd (omega (arith, has))
held_some (Some part) has = refl

-- what one of some elements is, one of more is
pub any_more : {X : Type 0} (P : X → Type 0) (xs : List X) (y : X) → Any P xs → Any P (xs ++ y ∷ [])
any_more P xs y h =
    let k = h.0 in let x = h.1 in let lt = h.2 in let is = h.3 in
    (k, x, omega (arith, lt, length-append xs (y ∷ [])), get_or_append_left xs (y ∷ []) x k lt ∙ is, h.4)
