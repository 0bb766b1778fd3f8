-- Whatever a test says.
use Rattle.sctp_delivery.proofs.Names.{◌≡◌, ⊤, ℕ, Bool, true, false, refl, if◌then◌else◌, not_both}

pub by-test : {P : Type 0} (b : Bool) → (b ≡ true → P) → (b ≡ false → P) → P
by-test true f g = f refl
by-test false f g = g refl

pub at-test : (P : Bool → Type 0) (b : Bool) → (b ≡ true → P true) → (b ≡ false → P false) → P b
at-test P true f g = f refl
at-test P false f g = g refl

pub at-if : {A : Type 0} (P : A → Type 0) (b : Bool) {x y : A} → (b ≡ true → P x) → (b ≡ false → P y) → P (if b then x else y)
at-if P true f g = f refl
at-if P false f g = g refl

-- ## What is said only where a test holds

abbrev pub Where : Bool → Type 0 → Type 0
Where true T = T
Where false T = ⊤

pub where-yes : (b : Bool) (T : Type 0) → (b ≡ true → T) → Where b T
where-yes true T h = h refl
where-yes false T h = tt

pub where-is : (b : Bool) (T : Type 0) → b ≡ true → Where b T → T
where-is true T e h = h
where-is false T e h = absurd (not_both e)

pub where-map : (b : Bool) (T U : Type 0) → (T → U) → Where b T → Where b U
where-map true T U f h = f h
where-map false T U f h = tt

-- of each stream
abbrev pub all_streams : ℕ → Bool
all_streams s = true
