-- How long the value of each kind is.
use Rattle.std.proofs.Common.{◌≡◌, ℕ, suc, refl, ap, ◌+◌, ◌*◌, ◌-◌, ◌/◌, ◌≤◌, Bool, true, false, drop, length-take, List, [], ◌∷◌, length, arith, length-append}
use Rattle.std.specs.Prelude.{Option, Some, None, is_some, if◌then◌else◌, nat_le}
use borrow.Author.Tests.{leb-true}
use Rattle.std.specs.List.{flat_map}
use Rattle.std.proofs.lemmas.List.Concat.{flat_map-cons}
use Rattle.sctp_util.specs.Each.{each}
use Rattle.sctp_util.proofs.EachAt.{length_each}
use Rattle.sctp_util.specs.Field.{be16, u16_at, u32_at}
use Rattle.sctp_util.proofs.Fields.{length_be16, length_be32}
use Rattle.sctp_util.specs.declared.util.ChunkType.{ChunkType}
use Rattle.sctp_params.specs.ParamType.{type_from}
use Rattle.sctp_params.specs.ParamFraming.{param_declared_length, param_value_at}
use Rattle.sctp_params.specs.Param.{Parameter, heartbeat_info, state_cookie, supported_address_types, outgoing_reset_request, reconfig_response, random}
use Rattle.sctp_params.specs.Param.{chunk_list, requested_hmac_algorithm, supported_extensions, forward_tsn_supported, unknown_param, ReadsParamValue, Reads}
use Rattle.sctp_params.specs.Param.{param_value_of, param_encoding, chunk_types, chunk_type_numbers}
use Rattle.sctp_params.specs.declared.param.param_type.ParamType.{ParamType}
use Rattle.sctp_params.specs.declared.param.param_requested_hmac_algorithm.HmacAlgorithm.{HmacAlgorithm}
use Rattle.sctp_params.specs.declared.param.param_reconfig_response.ParamReconfigResponse.{ParamReconfigResponse}
use Rattle.sctp_params.specs.AddressTypes.{address_types_value, type_encoding}
use Rattle.sctp_params.specs.HmacAlgorithm.{algorithms_value, algorithm_encoding, algorithm_from}
use Rattle.sctp_params.specs.ResetRequest.{ResetRequest, reset_request_value}
use Rattle.sctp_params.specs.ReconfigResponse.{response_value, response_in, next_tsns_encoding}

-- a list whose elements take n bytes each
pub length_flat_map : {A : Type 0} (f : A → List ℕ) (n : ℕ) → ((x : A) → length (f x) ≡ n) → (xs : List A) → length (flat_map f xs) ≡ n * length xs
length_flat_map f n each [] = omega arith
length_flat_map f n each (x ∷ xs) = rw (flat_map-cons, length-append, each x, length_flat_map f n each xs) (omega arith)

pub length_address_types_value : (types : List ParamType) → length (address_types_value types) ≡ 2 * length types
unfolding address_types_value
length_address_types_value types = length_flat_map type_encoding 2 (λ t. length_be16 _) types

pub length_algorithms_value : (algorithms : List HmacAlgorithm) → length (algorithms_value algorithms) ≡ 2 * length algorithms
unfolding algorithms_value
length_algorithms_value algorithms = length_flat_map algorithm_encoding 2 (λ a. length_be16 _) algorithms

pub length_reset_request_value : (r : ResetRequest) → length (reset_request_value r) ≡ 12 + 2 * length r.stream_identifiers
unfolding reset_request_value
length_reset_request_value r =
    let streams = length_flat_map be16 2 length_be16 r.stream_identifiers in
    simp (length-append, length_be32) (omega (arith, streams))

pub length_chunk_type_numbers : (ts : List ChunkType) → length (chunk_type_numbers ts) ≡ length ts
length_chunk_type_numbers [] = refl
length_chunk_type_numbers (t ∷ ts) = ap suc (length_chunk_type_numbers ts)

length_next_tsns_encoding : (o : Option (ℕ × ℕ)) → length (next_tsns_encoding o) ≡ (if is_some o then 8 else 0)
length_next_tsns_encoding None = omega arith
length_next_tsns_encoding (Some x) = simp (length-append, length_be32) (omega arith)

pub length_response_value : (r : ParamReconfigResponse) → length (response_value r) ≡ 8 + (if is_some r.next_tsns then 8 else 0)
unfolding response_value
length_response_value r = simp (length-append, length_be32, length_next_tsns_encoding) (omega arith)

-- ---- what was read is written in no more room

length_chunk_types : (value : List ℕ) → length (chunk_types value) ≡ length value
length_chunk_types [] = refl
length_chunk_types (b ∷ value) = ap suc (length_chunk_types value)

response_no_longer : (value : List ℕ) → 8 ≤ length value → length (response_value (response_in value)) ≤ length value
response_no_longer value long = rw (length_response_value (response_in value)) (step (nat_le 16 (length value)) refl)
  where
    step : (b : Bool) → nat_le 16 (length value) ≡ b
        → 8 + (if is_some {T = ℕ × ℕ} (if b then Some (u32_at value 8, u32_at value 12) else None) then 8 else 0) ≤ length value
    step true e = omega (arith, leb-true 16 (length value) e)
    step false e = long

pub value_no_longer : (value : List ℕ) (p : Parameter) → ReadsParamValue value p → length (param_value_of p) ≤ length value
value_no_longer value (heartbeat_info b) r = omega (arith, ap length r)
value_no_longer value (state_cookie b) r = omega (arith, ap length r)
value_no_longer value (supported_address_types ts) r =
    omega (arith, length_address_types_value ts, ap length r.types, length_each (length value / 2) (λ i. type_from (u16_at value (2 * i))))
value_no_longer value (outgoing_reset_request q) r =
    omega (
      arith,
      length_reset_request_value q,
      ap (λ (x : ResetRequest). length x.stream_identifiers) r.fields,
      length_each ((length value - 12) / 2) (λ i. u16_at value (12 + 2 * i)),
      r.headed,
    )
value_no_longer value (reconfig_response q) r = rw r.fields (response_no_longer value r.long)
value_no_longer value (random b) r = omega (arith, ap length r)
value_no_longer value (chunk_list ts) r = omega (arith, length_chunk_type_numbers ts, ap length r, length_chunk_types value)
value_no_longer value (requested_hmac_algorithm hs) r =
    omega (arith, length_algorithms_value hs, ap length r.algorithms, length_each (length value / 2) (λ i. algorithm_from (u16_at value (2 * i))))
value_no_longer value (supported_extensions ts) r = omega (arith, length_chunk_type_numbers ts, ap length r, length_chunk_types value)
value_no_longer value forward_tsn_supported r = omega arith
value_no_longer value (unknown_param n b) r = omega (arith, ap length r)

pub length_param_encoding : (p : Parameter) → length (param_encoding p) ≡ 4 + length (param_value_of p)
unfolding param_encoding
length_param_encoding p = simp (length-append, length_be16) (omega arith)

-- a parameter that was read is written in no more than its declared length
pub param_no_longer : (IsKind : ℕ → Parameter → Type 0) (bytes : List ℕ) (p : Parameter) → Reads IsKind bytes p
    → 4 + length (param_value_of p) ≤ param_declared_length bytes
unfolding param_value_at
param_no_longer IsKind bytes p r =
    omega (arith, value_no_longer (param_value_at bytes) p r.value, length-take (param_declared_length bytes - 4) (drop 4 bytes), r.is_param.least)
