-- Laws of walks over bytes.
use Rattle.std.proofs.Common.{◌≡◌, ℕ, List, [], ◌∷◌, ◌++◌, refl, sym, subst}
use Rattle.sctp_util.specs.Walk.{Walks}

module _ {A : Type 0} (Step : List ℕ → A → Type 0) (next : List ℕ → List ℕ) where
  pub walks_none : (bytes : List ℕ) → Walks Step next bytes [] bytes
  unfolding Walks
  walks_none bytes = refl

  -- a walk goes one step further
  pub walks_next : (bytes : List ℕ) (xs : List A) (rest : List ℕ) (x : A) → Walks Step next bytes xs rest → Step rest x
      → Walks Step next bytes (xs ++ x ∷ []) (next rest)
  unfolding Walks
  walks_next bytes [] rest x so_far step =
      let P : List ℕ → Type 0 = λ b. Step b x × (next b ≡ next rest) in
      subst P (sym so_far) (step, refl)
  walks_next bytes (y ∷ xs) rest x so_far step = (so_far.0, walks_next (next bytes) xs rest x so_far.1 step)

  -- a walk that comes to where no step is possible goes on from wherever another one stands
  pub walks_on : (bytes : List ℕ) (xs ys : List A) (rest end : List ℕ) → ((x : A) → Step end x → ⊥) → Walks Step next bytes xs rest
      → Walks Step next bytes ys end → (zs : List A) × Walks Step next rest zs end
  unfolding Walks
  walks_on bytes [] ys rest end ended a b = let P : List ℕ → Type 0 = λ r. (zs : List A) × Walks Step next r zs end in subst P a (ys, b)
  walks_on bytes (x ∷ xs) [] rest end ended a b = let P : List ℕ → Type 0 = λ r. Step r x in absurd (ended x (subst P b a.0))
  walks_on bytes (x ∷ xs) (y ∷ ys) rest end ended a b = walks_on (next bytes) xs ys rest end ended a.1 b.1

  -- where a step is possible, whoever walks to an end takes one
  pub walks_step : (bytes : List ℕ) (xs ys : List A) (rest end : List ℕ) → ((x : A) → Step end x → ⊥) → (rest ≡ end → ⊥) → Walks Step next bytes xs rest
      → Walks Step next bytes ys end → (x : A) × Step rest x
  unfolding Walks
  walks_step bytes xs ys rest end ended more a b = let on = walks_on bytes xs ys rest end ended a b in first on.0 on.1
    where
      first : (zs : List A) → Walks Step next rest zs end → (x : A) × Step rest x
      first [] e = absurd (more e)
      first (z ∷ zs) w = (z, w.0)

  -- two walks to an end are one, where bytes begin with one item at most
  pub walks_one : ((bytes : List ℕ) (x y : A) → Step bytes x → Step bytes y → x ≡ y) → (bytes : List ℕ) (xs ys : List A) (e f : List ℕ)
      → ((x : A) → Step e x → ⊥) → ((x : A) → Step f x → ⊥) → Walks Step next bytes xs e → Walks Step next bytes ys f → xs ≡ ys
  unfolding Walks
  walks_one one bytes [] [] e f at_e at_f a b = refl
  walks_one one bytes [] (y ∷ ys) e f at_e at_f a b = let P : List ℕ → Type 0 = λ r. Step r y in absurd (at_e y (subst P a b.0))
  walks_one one bytes (x ∷ xs) [] e f at_e at_f a b = let P : List ℕ → Type 0 = λ r. Step r x in absurd (at_f x (subst P b a.0))
  walks_one one bytes (x ∷ xs) (y ∷ ys) e f at_e at_f a b =
      let first : x ≡ y = one bytes x y a.0 b.0 in
      let others : xs ≡ ys = walks_one one (next bytes) xs ys e f at_e at_f a.1 b.1 in
      cc
