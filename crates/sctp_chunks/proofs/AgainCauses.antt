-- Causes that are written read back.
use Rattle.std.proofs.Common.{◌≡◌, ℕ, ◌+◌, ◌-◌, ◌^◌, ◌<◌, List, [], ◌∷◌, ◌++◌, length, take, drop, refl, sym, ap, subst, ◌∙◌, arith, append_assoc}
use Rattle.std.proofs.Common.{length-append}
use Rattle.std.specs.List.{AllByRecursion}
use Rattle.std.proofs.lemmas.List.{take_at, drop_at}
use Rattle.std.proofs.lemmas.List.Concat.{flat_map-cons}
use Rattle.sctp_util.specs.Field.{be16, u16_at}
use Rattle.sctp_util.specs.Walk.{Walks}
use Rattle.sctp_util.proofs.Fields.{length_be16, u16_at_be16}
use Rattle.sctp_chunks.specs.declared.chunk.error_cause.ErrorCause.{ErrorCause}
use Rattle.sctp_chunks.specs.ErrorCause.{ReadsCause, ReadsCauses, HasCauseEncoding, after_cause, cause_declared_length, cause_value_at, cause_encoding}
use Rattle.sctp_chunks.specs.ErrorCause.{causes_encoding}
use Rattle.sctp_chunks.specs.Fits.{FitsCause}
use Rattle.sctp_chunks.proofs.Causes.{length_cause_encoding}

module _ (c : ErrorCause) (rest : List ℕ) (fits : FitsCause c) (short : HasCauseEncoding c) where
  abbrev n : ℕ
  n = 4 + length c.raw

  abbrev encoding : List ℕ
  encoding = cause_encoding c ++ rest

  regroup : encoding ≡ be16 c.code.0 ++ (be16 n ++ (c.raw ++ rest))
  unfolding cause_encoding
  regroup = simp append_assoc

  cause_code : u16_at encoding 0 ≡ c.code.0
  cause_code = ap (λ (x : List ℕ). u16_at x 0) regroup ∙ u16_at_be16 [] _ c.code.0 0 refl fits

  cause_length : cause_declared_length encoding ≡ n
  cause_length = ap (λ (x : List ℕ). u16_at x 2) regroup ∙ u16_at_be16 (be16 c.code.0) (c.raw ++ rest) n 2 (length_be16 c.code.0) short

  cause_value : cause_value_at encoding ≡ c.raw
  unfolding cause_value_at
  cause_value =
      let front : List ℕ = be16 c.code.0 ++ be16 n in
      let four : length front ≡ 4 = omega (arith, length-append (be16 c.code.0) (be16 n), length_be16 c.code.0, length_be16 n) in
      let e : encoding ≡ front ++ (c.raw ++ rest) = regroup ∙ sym (append_assoc (be16 c.code.0) (be16 n) (c.raw ++ rest)) in
      let m : cause_declared_length encoding - 4 ≡ length c.raw = omega (arith, cause_length) in
      rw m (ap (λ (x : List ℕ). take (length c.raw) (drop 4 x)) e ∙ ap (take (length c.raw)) (drop_at front (c.raw ++ rest) 4 four)
      ∙ take_at c.raw rest (length c.raw) refl)

  cause_after : after_cause encoding ≡ rest
  unfolding after_cause
  cause_after = rw cause_length (drop_at (cause_encoding c) rest n (length_cause_encoding c))

  cause_reads : ReadsCause encoding c
  cause_reads =
      let len : length encoding ≡ n + length rest = omega (arith, length-append (cause_encoding c) rest, length_cause_encoding c) in
      record {
        is_cause = record { headed = omega (arith, len); least = omega (arith, cause_length); within = omega (arith, cause_length, len) };
        fields = sym (rw (cause_code, cause_value) refl);
      }

causes_walk : (cs : List ErrorCause) → AllByRecursion FitsCause cs → length (causes_encoding cs) < 2 ^ 16
    → Walks ReadsCause after_cause (causes_encoding cs) cs []
unfolding Walks
causes_walk [] fits short = refl
causes_walk (c ∷ cs) fits short =
    let e : causes_encoding (c ∷ cs) ≡ cause_encoding c ++ causes_encoding cs = flat_map-cons cause_encoding c cs in
    let len : length (causes_encoding (c ∷ cs)) ≡ length (cause_encoding c) + length (causes_encoding cs) = ap length e
    ∙ length-append (cause_encoding c) (causes_encoding cs) in
    let own : HasCauseEncoding c = omega (arith, len, length_cause_encoding c, short) in
    let others = causes_walk cs fits.1 (omega (arith, len, short)) in
    let P : List ℕ → Type 0 = λ b. ReadsCause b c × Walks ReadsCause after_cause (after_cause b) cs [] in
    let Q : List ℕ → Type 0 = λ b. Walks ReadsCause after_cause b cs [] in
    subst P (sym e) (cause_reads c (causes_encoding cs) fits.0 own, subst Q (sym (cause_after c (causes_encoding cs) fits.0 own)) others)

pub causes_again : (cs : List ErrorCause) → AllByRecursion FitsCause cs → length (causes_encoding cs) < 2 ^ 16 → ReadsCauses (causes_encoding cs) cs
causes_again cs fits short = record { rest = []; walk = causes_walk cs fits short; ended = omega arith }
