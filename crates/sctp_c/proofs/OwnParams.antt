-- Requests of a RE-CONFIG that are written.
use Rattle.std.proofs.Common.{◌≡◌, ℕ, ◌+◌, ◌*◌, ◌^◌, ◌<◌, ◌≤◌, true, List, [], ◌++◌, length, append_assoc, ap, refl, subst, ◌∙◌, arith, length-append}
use Rattle.std.proofs.lemmas.Bool.Decides.{nat_tests}
use Rattle.std.specs.List.{flat_map}
use Rattle.sctp_util.specs.Field.{be16}
use Rattle.sctp_util.proofs.Fields.{length_be16, u16_at_be16}
use Rattle.sctp_params.specs.Param.{Parameter, heartbeat_info, state_cookie, supported_address_types, outgoing_reset_request, reconfig_response, random}
use Rattle.sctp_params.specs.Param.{chunk_list, requested_hmac_algorithm, supported_extensions, forward_tsn_supported, unknown_param}
use Rattle.sctp_params.specs.ParamFraming.{param_framed, param_type_at}
use Rattle.sctp_params.specs.ParamKind.{IsReadAs, ReadsParam}
use Rattle.sctp_params.proofs.ParamLengths.{length_flat_map}
use Rattle.sctp_c.specs.Requests.{is_own}

-- a header, numbers and streams one behind the other are a parameter
pub streams_framed : (typ : ℕ) (front ss b : List ℕ) → b ≡ ((be16 typ ++ be16 (4 + length front + 2 * length ss)) ++ front) ++ flat_map be16 ss
    → b ≡ param_framed typ (front ++ flat_map be16 ss)
unfolding be16
streams_framed typ front ss b e =
    let many : length (flat_map be16 ss) ≡ 2 * length ss = length_flat_map be16 2 length_be16 ss in
    let n : 4 + length front + 2 * length ss ≡ 4 + length (front ++ flat_map be16 ss) = omega (arith, length-append front (flat_map be16 ss), many) in
    let m : ((be16 typ ++ be16 (4 + length front + 2 * length ss)) ++ front) ++ flat_map be16 ss
    ≡ be16 typ ++ (be16 (4 + length front + 2 * length ss) ++ (front ++ flat_map be16 ss)) = simp append_assoc in
    e ∙ m ∙ ap (λ (k : ℕ). be16 typ ++ (be16 k ++ (front ++ flat_map be16 ss))) n

-- ## No reader takes a request of these types

own_small : (typ : ℕ) → is_own typ ≡ true → typ ≤ 18
own_small typ own = grind (arith, nat_tests)

-- a type that is one of another kind
not_of : (typ n : ℕ) → typ ≡ n → is_own typ ≡ true → is_own n ≡ true
not_of typ n e own = subst (λ t. is_own t ≡ true) e own

not_kind : (typ : ℕ) (p : Parameter) → is_own typ ≡ true → IsReadAs typ p → ⊥
not_kind typ (heartbeat_info b) own k = let h = not_of typ 1 k.0 own in cc
not_kind typ (state_cookie b) own k = let h = not_of typ 7 k.0 own in cc
not_kind typ (supported_address_types b) own k = let h = not_of typ 12 k.0 own in cc
not_kind typ (outgoing_reset_request b) own k = let h = not_of typ 13 k.0 own in cc
not_kind typ (reconfig_response b) own k = let h = not_of typ 16 k.0 own in cc
not_kind typ (random b) own k = absurd (omega (arith, own_small typ own, k.0))
not_kind typ (chunk_list b) own k = absurd (omega (arith, own_small typ own, k.0))
not_kind typ (requested_hmac_algorithm b) own k = absurd (omega (arith, own_small typ own, k.0))
not_kind typ (supported_extensions b) own k = absurd (omega (arith, own_small typ own, k.0))
not_kind typ forward_tsn_supported own k = absurd (omega (arith, own_small typ own, k.0))
not_kind typ (unknown_param n b) own k = absurd (omega (arith, own_small typ own, k.0, k.1.0))

pub own_not_read : (typ : ℕ) (value : List ℕ) (p : Parameter) → typ < 2 ^ 16 → is_own typ ≡ true → ReadsParam (param_framed typ value) p → ⊥
unfolding be16
own_not_read typ value p fits own reads =
    let is : param_type_at (param_framed typ value) ≡ typ = u16_at_be16 [] (be16 (4 + length value) ++ value) typ 0 refl fits in
    not_kind typ p own (subst (λ (t : ℕ). IsReadAs t p) is reads.kind)
