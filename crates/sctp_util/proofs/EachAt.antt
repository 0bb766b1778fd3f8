-- Laws of `each`.
use Rattle.std.proofs.Common.{◌≡◌, ℕ, zero, suc, ◌+◌, [], ◌∷◌, ◌++◌, refl, add-one, length, length-append, arith}
use Rattle.sctp_util.specs.Each.{each}

pub each_none : {A : Type 0} (f : ℕ → A) → each 0 f ≡ []
unfolding each
each_none f = refl

pub each_next : {A : Type 0} (i : ℕ) (f : ℕ → A) → each (i + 1) f ≡ each i f ++ f i ∷ []
unfolding each
each_next i f = rw add-one refl

pub length_each : {A : Type 0} (n : ℕ) (f : ℕ → A) → length (each n f) ≡ n
unfolding each
length_each zero f = refl
length_each (suc n) f = simp length-append (omega (arith, length_each n f))
