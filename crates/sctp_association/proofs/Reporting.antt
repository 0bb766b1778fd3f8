-- Parameters that are told of, one by one.
use Rattle.std.proofs.Common.{◌≡◌, inl, inr, ℕ, zero, suc, ◌+◌, ◌-◌, ◌*◌, ◌/◌, ◌<◌, ◌≤◌, true, false, List, [], ◌∷◌, ◌++◌, length, drop, refl, ap}
use Rattle.std.proofs.Common.{subst, arith, ◌∙◌, map, take, length-append}
use Rattle.std.proofs.lemmas.Bool.{cases_Bool}
use Rattle.std.proofs.lemmas.Bool.Decides.{nat_tests}
use Rattle.std.proofs.lemmas.List.{length-drop, length-take, map-append}
use Rattle.std.proofs.lemmas.Option.{none-some}
use Rattle.std.specs.Prelude.{Option, Some, None, nat_lt, slice_range}
use Rattle.sctp_association.specs.Reports.{if_some, joined, padded, told_params, unrecognized, with_later}
use Rattle.sctp_association.specs.Openings.{owed_to_init}
use Rattle.sctp_association.specs.declared.due.Due.{Due}
use Rattle.sctp_handshake.specs.InitValues.{is_param, place, report, told_from}
use Rattle.sctp_handshake.specs.ParamTypes.{ends_at, is_told}
use Rattle.sctp_handshake.specs.declared.answer.Reply.{Reply}
use Rattle.sctp_handshake.specs.declared.answer.Reply.TheVariants as reply
use Rattle.sctp_handshake.specs.declared.init_value.Reported.{Reported}
use Rattle.sctp_params.specs.Param.{Parameter, unknown_param}
use Rattle.sctp_params.specs.ParamFraming.{param_declared_length}
use Rattle.sctp_params.specs.ParamKind.{parameter_of}
use Rattle.sctp_params.specs.declared.param.param_kind.ParamKind.{ParamKind}
use Rattle.sctp_util.specs.Padding.{padded_length, padding_of}

-- ## Which are told of

-- a parameter lies within the bytes
pub param_within : (value : List ℕ) (at : ℕ) → is_param value at ≡ true → at + (4 + (place value at).length) ≤ length value
param_within value at is =
    let most : 4 ≤ length (drop at value) = grind (arith, nat_tests) in
    let least : 4 ≤ param_declared_length (drop at value) = grind (arith, nat_tests) in
    let within : param_declared_length (drop at value) ≤ length (drop at value) = grind (arith, nat_tests) in
    omega (arith, length-drop at value)

-- so does one that is told of
pub told_within : (n : ℕ) (value : List ℕ) (at : ℕ) (r : Reported) → told_from n value at ≡ Some r → (r.from ≤ r.to) × (r.to ≤ length value)
told_within zero value at r h = absurd (none-some r h)
told_within (suc n) value at r h = elim (cases_Bool (is_param value at)) [
  | inl is ↦ elim (cases_Bool (is_told (place value at).typ)) [
    | inl told ↦
        let same : report value at (place value at) ≡ r = cc (rw (is, told) at h) in
        let within = param_within value at is in
        subst (λ (x : Reported). (x.from ≤ x.to) × (x.to ≤ length value)) same (omega arith, omega (arith, within))
    | inr untold ↦ elim (cases_Bool (ends_at (place value at).typ)) [
      | inl ends ↦ absurd (none-some r (rw (is, untold, ends) at h))
      | inr goes ↦ told_within n value (place value at).next r (rw (is, untold, goes) at h)
    ]
  ]
  | inr none ↦ absurd (none-some r (rw none at h))
]

module _ (value : List ℕ) (at : ℕ) where
  -- none is told of from here on
  pub params_over : (n : ℕ) → told_from (length value) value at ≡ None → told_params n value at ≡ []
  params_over zero none = refl
  params_over (suc n) none = ap (λ o. with_later o value (λ next. told_params n value next)) none

  -- one is, and others behind it
  pub params_next : (seen : ℕ) (r : Reported) → seen < length value → told_from (length value) value at ≡ Some r
      → told_params (length value - seen) value at ≡ slice_range value r.from r.to ∷ told_params (length value - (seen + 1)) value r.next
  params_next seen r lt is =
      let e : length value - seen ≡ suc (length value - (seen + 1)) = omega arith in
      ap (λ n. told_params n value at) e ∙ ap (λ o. with_later o value (λ next. told_params (length value - (seen + 1)) value next)) is

-- no parameter more is looked at
pub params_none : (value : List ℕ) (at n : ℕ) → n ≡ 0 → told_params n value at ≡ []
params_none value at n e = rw e refl

-- one has no room, or has
module _ (most : ℕ) (bytes p : List ℕ) (ps : List (List ℕ)) where
  pub joined_full : most - length bytes < length p + padding_of (length bytes) → joined most bytes (p ∷ ps) ≡ bytes
  joined_full lt = let full : nat_lt (most - length bytes) (length p + padding_of (length bytes)) ≡ true = grind (arith, nat_tests) in rw full refl

  pub joined_more : length p + padding_of (length bytes) ≤ most - length bytes → joined most bytes (p ∷ ps) ≡ joined most (padded bytes ++ p) ps
  joined_more le = let room : nat_lt (most - length bytes) (length p + padding_of (length bytes)) ≡ false = grind (arith, nat_tests) in rw room refl

pub length_padded : (bytes : List ℕ) → length (padded bytes) ≡ length bytes + padding_of (length bytes)
length_padded bytes =
    let few : padding_of (length bytes) ≤ 3 = omega arith in
    let three : List ℕ = 0 ∷ 0 ∷ 0 ∷ [] in
    let zeros : length (take (padding_of (length bytes)) three) ≡ padding_of (length bytes) = omega (arith, length-take {A = ℕ}) in
    omega (arith, length-append bytes (take (padding_of (length bytes)) three), zeros)

-- some bytes
pub some_if : (bytes : List ℕ) → 0 < length bytes → if_some bytes ≡ Some bytes
some_if [] lt = absurd (omega (arith, lt))
some_if (b ∷ bs) lt = refl

pub none_if : (bytes : List ℕ) → length bytes ≡ 0 → if_some bytes ≡ None
none_if [] e = refl
none_if (b ∷ bs) e = absurd (omega (arith, e))

-- ## What an INIT ACK tells

module _ (room : ℕ) (raw : List ℕ) (at : ℕ) where
  pub unrecognized_over : (n : ℕ) → is_param raw at ≡ false → unrecognized n room raw at ≡ []
  unrecognized_over zero none = refl
  unrecognized_over (suc n) none = rw none refl

  pub unrecognized_full : (n : ℕ) → is_param raw at ≡ true → (room - 4) / 4 * 4 < 4 + (place raw at).length → unrecognized n room raw at ≡ []
  unrecognized_full zero is lt = refl
  unrecognized_full (suc n) is lt =
      let full : nat_lt ((room - 4) / 4 * 4) (4 + (place raw at).length) ≡ true = grind (arith, nat_tests) in rw (is, full) refl

  pub unrecognized_next : (seen : ℕ) → seen < length raw → is_param raw at ≡ true → 4 + (place raw at).length ≤ (room - 4) / 4 * 4
      → unrecognized (length raw - seen) room raw at ≡ unknown_param 8 (slice_range raw at (at + (4 + (place raw at).length)))
      ∷ unrecognized (length raw - (seen + 1)) (room - (4 + padded_length (4 + (place raw at).length))) raw (place raw at).next
  unrecognized_next seen lt is le =
      let e : length raw - seen ≡ suc (length raw - (seen + 1)) = omega arith in
      let fits : nat_lt ((room - 4) / 4 * 4) (4 + (place raw at).length) ≡ false = grind (arith, nat_tests) in
      ap (λ n. unrecognized n room raw at) e ∙ rw (is, fits) refl

-- one parameter more
pub one_behind : (xs : List ParamKind) (x : ParamKind) (ps : List Parameter) → map parameter_of xs ≡ ps
    → map parameter_of (xs ++ x ∷ []) ≡ ps ++ parameter_of x ∷ []
one_behind xs x ps is = map-append parameter_of xs (x ∷ []) ∙ ap (λ l. l ++ parameter_of x ∷ []) is

-- ## What is due

-- a reply leaves of which parameters an INIT ACK is to tell
pub told_to_init : (r : Option Reply) (tag : ℕ) (d : Due) → (owed_to_init r tag d).unknown_params ≡ d.unknown_params
told_to_init None tag d = refl
told_to_init (Some (reply.ShutdownComplete true)) tag d = refl
told_to_init (Some (reply.ShutdownComplete false)) tag d = refl
told_to_init (Some _) tag d = refl
