-- Numbers of types.
use Rattle.std.proofs.Common.{◌≡◌, ℕ, List, [], ◌∷◌, refl, sym, ap, ◌∙◌, Bool, true, false}
use Rattle.std.specs.Prelude.{if◌then◌else◌, ◌==◌}
use Rattle.std.proofs.lemmas.Bool.{eqb-true}
use Rattle.sctp_params.specs.declared.param.param_type.ParamType.{ParamType}
use Rattle.sctp_params.specs.declared.param.param_type.ParamType.TheVariants.{ChunkList}
use Rattle.sctp_params.specs.ParamType.{type_number, type_from, type_among, named_types}

number_of_type_among : (ts : List ParamType) (n : ℕ) → type_number (type_among ts n) ≡ n
number_of_type_among [] n = refl
number_of_type_among (t ∷ ts) n = step (n == type_number t) refl (number_of_type_among ts n)
  where
    step : (b : Bool) → (n == type_number t) ≡ b → type_number (type_among ts n) ≡ n → type_number (if b then t else type_among ts n) ≡ n
    step true e later = sym (eqb-true n (type_number t) e)
    step false e later = later

-- the type with a number has that number
pub number_of_type_from : (n : ℕ) → type_number (type_from n) ≡ n
unfolding type_from
number_of_type_from n = number_of_type_among named_types n

-- the number of the type ChunkList
pub is_chunk_list : (n : ℕ) → type_from n ≡ ChunkList → n ≡ 32771
is_chunk_list n e = sym (number_of_type_from n) ∙ ap type_number e

pub not_chunk_list : (n : ℕ) → (type_from n ≡ ChunkList → ⊥) → n ≡ 32771 → ⊥
unfolding type_from
not_chunk_list n other e = other (rw e refl)
