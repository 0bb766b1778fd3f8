-- What was read is written, and read again.
use Rattle.std.proofs.Common.{◌≡◌, ℕ, ◌+◌, ◌*◌, ◌-◌, ◌/◌, ◌^◌, ◌<◌, Bool, true, false, List, [], ◌∷◌, ◌++◌, length, take, drop, refl, sym, ap, ◌∙◌, arith}
use Rattle.std.proofs.Common.{append_assoc, length-append, inl, inr}
use Rattle.std.specs.Prelude.{Option, Some, None, if◌then◌else◌, nat_le}
use Rattle.std.specs.List.{flat_map}
use Rattle.std.proofs.Math.Seq.{take-length, take-add}
use Rattle.std.proofs.lemmas.List.{take_at, drop_at, length-take-le, length-drop, append-nil, take-append-drop}
use Rattle.sctp_util.specs.Field.{be16, be32, u16_at, u32_at}
use Rattle.sctp_util.proofs.Fields.{length_be16, length_be32, u16_at_be16, u32_at_be32}
use Rattle.sctp_util.proofs.Bytes.{be32_u32, u32_fits, u16_at_take, written_each, each_same}
use Rattle.sctp_params.proofs.ParamTypes.{number_of_type_from}
use Rattle.sctp_params.proofs.ParamLengths.{length_response_value, value_no_longer, length_param_encoding}
use Rattle.sctp_util.specs.declared.util.ChunkType.{ChunkType}
use Rattle.sctp_params.specs.declared.param.param_type.ParamType.{ParamType}
use Rattle.sctp_params.specs.declared.param.param_reconfig_response.ReconfigResult.{ReconfigResult}
use Rattle.sctp_params.specs.declared.param.param_reconfig_response.ReconfigResult.TheVariants.{SuccessNop, SuccessPerformed, Denied, ErrorWrongSsn}
use Rattle.sctp_params.specs.declared.param.param_reconfig_response.ReconfigResult.TheVariants.{ErrorRequestAlreadyInProgress, ErrorBadSequenceNumber}
use Rattle.sctp_params.specs.declared.param.param_reconfig_response.ReconfigResult.TheVariants.{InProgress, Unknown}
use Rattle.sctp_params.specs.declared.param.param_reconfig_response.ParamReconfigResponse.{ParamReconfigResponse}
use Rattle.sctp_params.specs.declared.param.param_requested_hmac_algorithm.HmacAlgorithm.{HmacAlgorithm}
use Rattle.sctp_util.specs.Each.{each}
use Rattle.sctp_util.specs.Padding.{padding_of, padded_length}
use Rattle.sctp_params.specs.ParamType.{type_from}
use Rattle.sctp_params.specs.AddressTypes.{ReadsAddressTypes, address_types_value, type_encoding}
use Rattle.sctp_params.specs.ResetRequest.{ResetRequest, ReadsResetRequest, reset_request_value}
use Rattle.sctp_params.specs.ReconfigResponse.{ReadsResponse, response_value, result_from, result_number}
use Rattle.sctp_params.specs.HmacAlgorithm.{ReadsAlgorithms, algorithms_value, algorithm_encoding, algorithm_from, algorithm_number, IsRequestable}
use Rattle.sctp_params.specs.ParamFraming.{IsParam, IsParamValue, param_type_at, param_declared_length, param_value_at, param_framed, after_param}
use Rattle.sctp_params.specs.ParamKind.{IsReadAs, HasReadType}
use Rattle.sctp_params.specs.Param.{Parameter, heartbeat_info, state_cookie, supported_address_types, outgoing_reset_request, reconfig_response, random}
use Rattle.sctp_params.specs.Param.{chunk_list, requested_hmac_algorithm, supported_extensions, forward_tsn_supported, unknown_param, ReadsParamValue}
use Rattle.sctp_params.specs.Param.{ReadsBack, HasOwnType, HasParamEncoding, param_number_of, param_value_of, param_encoding, chunk_types, chunk_type_numbers}

-- ---- framing

module _ (typ : ℕ) (value rest : List ℕ) (fits : typ < 2 ^ 16) (short : 4 + length value < 2 ^ 16) where
  abbrev encoding : List ℕ
  encoding = param_framed typ value ++ rest

  regroup : encoding ≡ be16 typ ++ (be16 (4 + length value) ++ (value ++ rest))
  regroup = simp append_assoc

  pub framed_type : param_type_at encoding ≡ typ
  framed_type = ap (λ (x : List ℕ). u16_at x 0) regroup ∙ u16_at_be16 [] (be16 (4 + length value) ++ (value ++ rest)) typ 0 refl fits

  pub framed_declared : param_declared_length encoding ≡ 4 + length value
  framed_declared = ap (λ (x : List ℕ). u16_at x 2) regroup ∙ u16_at_be16 (be16 typ) (value ++ rest) (4 + length value) 2 (length_be16 typ) short

  pub framed_value : param_value_at encoding ≡ value
  unfolding param_value_at
  framed_value =
      let front : List ℕ = be16 typ ++ be16 (4 + length value) in
      let four : length front ≡ 4 = omega (arith, length-append (be16 typ) (be16 (4 + length value)), length_be16 typ, length_be16 (4 + length value)) in
      let e : encoding ≡ front ++ (value ++ rest) = append_assoc front value rest in
      let n : param_declared_length encoding - 4 ≡ length value = omega (arith, framed_declared) in
      rw n (ap (λ (x : List ℕ). take (length value) (drop 4 x)) e ∙ ap (take (length value)) (drop_at front (value ++ rest) 4 four)
      ∙ take_at value rest (length value) refl)

  pub framed_reads : IsParam encoding
  framed_reads =
      let n : length encoding ≡ 4 + length value + length rest = omega (
        arith,
        length-append (param_framed typ value) rest,
        length-append (be16 typ ++ be16 (4 + length value)) value,
        length-append (be16 typ) (be16 (4 + length value)),
        length_be16 typ,
        length_be16 (4 + length value),
      ) in
      record {
        headed = omega (arith, n);
        least = omega (arith, framed_declared);
        within = omega (arith, framed_declared, n);
      }

-- ---- values

address_types_again : (value : List ℕ) (ts : List ParamType) → IsParamValue value → ReadsAddressTypes value ts → address_types_value ts ≡ value
unfolding address_types_value
address_types_again value ts v r =
    let n = length value / 2 in
    let all : 2 * n ≡ length value = omega (arith, r.even) in
    let written = written_each type_from type_encoding value 0 n (λ i. 2 * i) (λ i. omega arith) v.bytes (omega arith)
    (λ i lt. ap be16 (number_of_type_from (u16_at value (2 * i)))) in
    rw r.types (written ∙ rw all (take-length value))

reset_request_again : (value : List ℕ) (r : ResetRequest) → IsParamValue value → ReadsResetRequest value r → reset_request_value r ≡ value
unfolding reset_request_value
reset_request_again value r v h =
    let n = (length value - 12) / 2 in
    let cut : length (drop 12 value) ≡ length value - 12 = length-drop 12 value in
    let all : 2 * n ≡ length (drop 12 value) = omega (arith, h.even, h.headed, cut) in
    let streams : flat_map be16 (each n (λ i. u16_at value (12 + 2 * i))) ≡ drop 12 value =
    written_each (λ k. k) be16 value 12 n (λ i. 12 + 2 * i) (λ i. refl) v.bytes (omega (arith, h.headed)) (λ i lt. refl)
    ∙ rw all (take-length (drop 12 value)) in
    let first : be32 (u32_at value 0) ≡ take 4 value = be32_u32 value 0 v.bytes (omega (arith, h.headed)) in
    let second : be32 (u32_at value 4) ≡ take 4 (drop 4 value) = be32_u32 value 4 v.bytes (omega (arith, h.headed)) in
    let third : be32 (u32_at value 8) ≡ take 4 (drop 8 value) = be32_u32 value 8 v.bytes (omega (arith, h.headed)) in
    let eight : take 4 value ++ take 4 (drop 4 value) ≡ take 8 value = sym (take-add 4 4 value) in
    let twelve : take 8 value ++ take 4 (drop 8 value) ≡ take 12 value = sym (take-add 8 4 value) in
    rw (h.fields, streams, first, second, third, eight, twelve) (take-append-drop 12 value)

algorithm_number_again : (n : ℕ) → IsRequestable n → algorithm_number (algorithm_from n) ≡ n
unfolding algorithm_number algorithm_from
algorithm_number_again n (inl e) = rw e refl
algorithm_number_again n (inr e) = rw e refl

algorithms_again : (value : List ℕ) (hs : List HmacAlgorithm) → IsParamValue value → ReadsAlgorithms value hs
    → algorithms_value hs ≡ take (2 * (length value / 2)) value
unfolding algorithms_value
algorithms_again value hs v r =
    let n = length value / 2 in
    let written = written_each algorithm_from algorithm_encoding value 0 n (λ i. 2 * i) (λ i. omega arith) v.bytes (omega arith)
    (λ i lt. ap be16 (algorithm_number_again (u16_at value (2 * i)) (r.requestable i lt))) in
    rw r.algorithms written

algorithms_read : (value : List ℕ) (hs : List HmacAlgorithm) → ReadsAlgorithms value hs → ReadsAlgorithms (take (2 * (length value / 2)) value) hs
algorithms_read value hs r =
    let n = length value / 2 in
    let len : length (take (2 * n) value) ≡ 2 * n = length-take-le (2 * n) value (omega arith) in
    let half : length (take (2 * n) value) / 2 ≡ n = omega (arith, len) in
    let same = λ (i : ℕ) (lt : i < n). u16_at_take value (2 * n) (2 * i) (omega arith) in
    record {
      requestable = λ i lt. let k : i < n = omega (arith, lt, half) in rw (same i k) (r.requestable i k);
      algorithms = r.algorithms ∙ rw half (sym (each_same n (λ i. algorithm_from (u16_at (take (2 * n) value) (2 * i)))
          (λ i. algorithm_from (u16_at value (2 * i))) (λ i lt. ap algorithm_from (same i lt))));
    }

result_again : (r : ReconfigResult) → (result_from (result_number r) ≡ r) × (result_number r < 2 ^ 32)
unfolding result_from result_number
result_again SuccessNop = (refl, omega arith)
result_again SuccessPerformed = (refl, omega arith)
result_again Denied = (refl, omega arith)
result_again ErrorWrongSsn = (refl, omega arith)
result_again ErrorRequestAlreadyInProgress = (refl, omega arith)
result_again ErrorBadSequenceNumber = (refl, omega arith)
result_again InProgress = (refl, omega arith)
result_again Unknown = (refl, omega arith)

abbrev responding : ℕ → ReconfigResult → Option (ℕ × ℕ) → ParamReconfigResponse
responding number outcome tsns = record { reconfig_response_sequence_number = number; result = outcome; next_tsns = tsns }

response_plain : (number : ℕ) (outcome : ReconfigResult) → number < 2 ^ 32
    → ReadsResponse (response_value (responding number outcome None)) (responding number outcome None)
unfolding response_value
response_plain number outcome fits =
    let value : List ℕ = response_value (responding number outcome None) in
    let code = result_number outcome in
    let all : value ≡ be32 number ++ (be32 code ++ []) = append_assoc (be32 number) (be32 code) [] in
    let first : u32_at value 0 ≡ number = ap (λ (x : List ℕ). u32_at x 0) all ∙ u32_at_be32 [] (be32 code ++ []) number 0 refl fits in
    let second : u32_at value 4 ≡ code = ap (λ (x : List ℕ). u32_at x 4) all
    ∙ u32_at_be32 (be32 number) [] code 4 (length_be32 number) (result_again outcome).1 in
    let len : length value ≡ 8 = length_response_value (responding number outcome None) in
    record { long = omega (arith, len); fields = sym (rw (first, second, len, (result_again outcome).0) refl) }

response_tsns : (number : ℕ) (outcome : ReconfigResult) (sender receiver : ℕ) → number < 2 ^ 32 → sender < 2 ^ 32 → receiver < 2 ^ 32
    → ReadsResponse (response_value (responding number outcome (Some (sender, receiver)))) (responding number outcome (Some (sender, receiver)))
unfolding response_value
response_tsns number outcome sender receiver fits sender_fits receiver_fits =
    let value : List ℕ = response_value (responding number outcome (Some (sender, receiver))) in
    let code = result_number outcome in
    let front : List ℕ = be32 number ++ be32 code in
    let eight : length front ≡ 8 = simp (length-append, length_be32) refl in
    let twelve : length (front ++ be32 sender) ≡ 12 = simp (length-append, length_be32) refl in
    let all : value ≡ be32 number ++ (be32 code ++ (be32 sender ++ be32 receiver)) = append_assoc (be32 number) (be32 code) (be32 sender ++ be32 receiver) in
    let last : value ≡ (front ++ be32 sender) ++ (be32 receiver ++ []) = sym (append_assoc front (be32 sender) (be32 receiver))
    ∙ ap (λ (x : List ℕ). (front ++ be32 sender) ++ x) (sym (append-nil (be32 receiver))) in
    let first : u32_at value 0 ≡ number = ap (λ (x : List ℕ). u32_at x 0) all
    ∙ u32_at_be32 [] (be32 code ++ (be32 sender ++ be32 receiver)) number 0 refl fits in
    let second : u32_at value 4 ≡ code = ap (λ (x : List ℕ). u32_at x 4) all
    ∙ u32_at_be32 (be32 number) (be32 sender ++ be32 receiver) code 4 (length_be32 number) (result_again outcome).1 in
    let third : u32_at value 8 ≡ sender = u32_at_be32 front (be32 receiver) sender 8 eight sender_fits in
    let fourth : u32_at value 12 ≡ receiver = ap (λ (x : List ℕ). u32_at x 12) last ∙ u32_at_be32 (front ++ be32 sender) [] receiver 12 twelve receiver_fits in
    let len : length value ≡ 16 = length_response_value (responding number outcome (Some (sender, receiver))) in
    record { long = omega (arith, len); fields = sym (rw (first, second, third, fourth, len, (result_again outcome).0) refl) }

response_again : (value : List ℕ) (r : ParamReconfigResponse) → IsParamValue value → ReadsResponse value r → ReadsResponse (response_value r) r
response_again value r v h = rw h.fields (step (nat_le 16 (length value)))
  where
    step : (b : Bool) → ReadsResponse
        (response_value (responding (u32_at value 0) (result_from (u32_at value 4)) (if b then Some (u32_at value 8, u32_at value 12) else None)))
        (responding (u32_at value 0) (result_from (u32_at value 4)) (if b then Some (u32_at value 8, u32_at value 12) else None))
    step true = response_tsns _ _ _ _ (u32_fits value 0 v.bytes) (u32_fits value 8 v.bytes) (u32_fits value 12 v.bytes)
    step false = response_plain _ _ (u32_fits value 0 v.bytes)

chunk_types_again : (ts : List ChunkType) → ts ≡ chunk_types (chunk_type_numbers ts)
chunk_types_again [] = refl
chunk_types_again (t ∷ ts) = ap (λ (x : List ChunkType). t ∷ x) (chunk_types_again ts)

-- the value, as it is written
pub value_again : (value : List ℕ) (p : Parameter) → IsParamValue value → ReadsParamValue value p → ReadsParamValue (param_value_of p) p
value_again value (heartbeat_info b) v r = refl
value_again value (state_cookie b) v r = refl
value_again value (supported_address_types ts) v r = rw (address_types_again value ts v r) r
value_again value (outgoing_reset_request q) v r = rw (reset_request_again value q v r) r
value_again value (reconfig_response q) v r = response_again value q v r
value_again value (random b) v r = refl
value_again value (chunk_list ts) v r = chunk_types_again ts
value_again value (requested_hmac_algorithm hs) v r = rw (algorithms_again value hs v r) (algorithms_read value hs r)
value_again value (supported_extensions ts) v r = chunk_types_again ts
value_again value forward_tsn_supported v r = tt
value_again value (unknown_param n b) v r = refl

pub reads_back : (value : List ℕ) (p : Parameter) → IsParamValue value → ReadsParamValue value p → param_number_of p < 2 ^ 16 → ReadsBack HasOwnType p
unfolding param_encoding
reads_back value p v r fits =
    let short : HasParamEncoding p = omega (arith, value_no_longer value p r, v.short) in
    record {
      has_encoding = short;
      reads = λ rest. record {
        is_param = framed_reads (param_number_of p) (param_value_of p) rest fits short;
        kind = framed_type (param_number_of p) (param_value_of p) rest fits short;
        value = rw (framed_value (param_number_of p) (param_value_of p) rest fits short) (value_again value p v r);
      };
    }

-- the same under the numbers that are read
pub own_again : (p : Parameter) → HasReadType p → ReadsBack HasOwnType p → ReadsBack IsReadAs p
own_again p has b = record {
  has_encoding = b.has_encoding;
  reads = λ rest. let r = b.reads rest in record { is_param = r.is_param; kind = (r.kind, has); value = r.value };
}

-- ---- for walks over parameters

pub declared_param_encoding : (p : Parameter) (rest : List ℕ) → HasParamEncoding p
    → param_declared_length (param_encoding p ++ rest) ≡ 4 + length (param_value_of p)
unfolding param_encoding
declared_param_encoding p rest short =
    let n = length (param_value_of p) in
    let front : List ℕ = be16 (param_number_of p) in
    let e : param_framed (param_number_of p) (param_value_of p) ++ rest ≡ front ++ (be16 (4 + n) ++ (param_value_of p ++ rest)) = simp append_assoc in
    ap (λ (x : List ℕ). u16_at x 2) e ∙ u16_at_be16 front (param_value_of p ++ rest) (4 + n) 2 (length_be16 (param_number_of p)) short

-- behind a parameter's encoding and its padding stands what was put there
pub after_param_encoding : (p : Parameter) (padding rest : List ℕ) → HasParamEncoding p → length padding ≡ padding_of (4 + length (param_value_of p))
    → after_param (param_encoding p ++ (padding ++ rest)) ≡ rest
unfolding after_param
after_param_encoding p padding rest short e =
    let n = length (param_value_of p) in
    let all : length (param_encoding p ++ padding) ≡ padded_length (4 + n) =
    omega (arith, length-append (param_encoding p) padding, length_param_encoding p, e) in
    rw (declared_param_encoding p (padding ++ rest) short, ← append_assoc (param_encoding p) padding rest)
    (drop_at (param_encoding p ++ padding) rest (padded_length (4 + n)) all)
