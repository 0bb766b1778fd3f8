-- Bytes begin with one parameter of a kind at most.
use Rattle.std.proofs.Common.{◌≡◌, ℕ, ◌<◌, length, List, refl, ap, sym, ◌∙◌, arith}
use Rattle.sctp_util.specs.declared.util.ChunkType.{ChunkType}
use Rattle.sctp_params.specs.declared.param.param_type.ParamType.{ParamType}
use Rattle.sctp_params.specs.declared.param.param_reconfig_response.ParamReconfigResponse.{ParamReconfigResponse}
use Rattle.sctp_params.specs.declared.param.param_requested_hmac_algorithm.HmacAlgorithm.{HmacAlgorithm}
use Rattle.sctp_params.specs.ResetRequest.{ResetRequest}
use Rattle.sctp_params.specs.Param.{Parameter, heartbeat_info, state_cookie, supported_address_types, outgoing_reset_request, reconfig_response, random}
use Rattle.sctp_params.specs.Param.{chunk_list, requested_hmac_algorithm, supported_extensions, forward_tsn_supported, unknown_param, Reads}
use Rattle.sctp_params.specs.ParamKind.{ReadsParam}
use Rattle.sctp_params.specs.ParamKinds.{IsHeartbeatInfo, IsStateCookie, IsSupportedAddressTypes, IsOutgoingResetRequest, IsReconfigResponse, IsRandom}
use Rattle.sctp_params.specs.ParamKinds.{IsChunkList, IsRequestedHmacAlgorithm, IsSupportedExtensions, IsForwardTsnSupported, IsUnknownParam}

pub heartbeat_info_one : (bytes : List ℕ) (x : List ℕ) (p : Parameter) → Reads IsHeartbeatInfo bytes (heartbeat_info x) → Reads IsHeartbeatInfo bytes p
    → heartbeat_info x ≡ p
heartbeat_info_one bytes x (heartbeat_info y) r s = ap heartbeat_info (r.value ∙ sym s.value)
heartbeat_info_one bytes x _ r s = absurd s.kind

pub state_cookie_one : (bytes : List ℕ) (x : List ℕ) (p : Parameter) → Reads IsStateCookie bytes (state_cookie x) → Reads IsStateCookie bytes p
    → state_cookie x ≡ p
state_cookie_one bytes x (state_cookie y) r s = ap state_cookie (r.value ∙ sym s.value)
state_cookie_one bytes x _ r s = absurd s.kind

pub supported_address_types_one : (bytes : List ℕ) (x : List ParamType) (p : Parameter) → Reads IsSupportedAddressTypes bytes (supported_address_types x)
    → Reads IsSupportedAddressTypes bytes p → supported_address_types x ≡ p
supported_address_types_one bytes x (supported_address_types y) r s = ap supported_address_types (r.value.types ∙ sym s.value.types)
supported_address_types_one bytes x _ r s = absurd s.kind

pub outgoing_reset_request_one : (bytes : List ℕ) (x : ResetRequest) (p : Parameter) → Reads IsOutgoingResetRequest bytes (outgoing_reset_request x)
    → Reads IsOutgoingResetRequest bytes p → outgoing_reset_request x ≡ p
outgoing_reset_request_one bytes x (outgoing_reset_request y) r s = ap outgoing_reset_request (r.value.fields ∙ sym s.value.fields)
outgoing_reset_request_one bytes x _ r s = absurd s.kind

pub reconfig_response_one : (bytes : List ℕ) (x : ParamReconfigResponse) (p : Parameter) → Reads IsReconfigResponse bytes (reconfig_response x)
    → Reads IsReconfigResponse bytes p → reconfig_response x ≡ p
reconfig_response_one bytes x (reconfig_response y) r s = ap reconfig_response (r.value.fields ∙ sym s.value.fields)
reconfig_response_one bytes x _ r s = absurd s.kind

pub random_one : (bytes : List ℕ) (x : List ℕ) (p : Parameter) → Reads IsRandom bytes (random x) → Reads IsRandom bytes p → random x ≡ p
random_one bytes x (random y) r s = ap random (r.value ∙ sym s.value)
random_one bytes x _ r s = absurd s.kind

pub chunk_list_one : (bytes : List ℕ) (x : List ChunkType) (p : Parameter) → Reads IsChunkList bytes (chunk_list x) → Reads IsChunkList bytes p
    → chunk_list x ≡ p
chunk_list_one bytes x (chunk_list y) r s = ap chunk_list (r.value ∙ sym s.value)
chunk_list_one bytes x _ r s = absurd s.kind

pub requested_hmac_algorithm_one : (bytes : List ℕ) (x : List HmacAlgorithm) (p : Parameter) → Reads IsRequestedHmacAlgorithm bytes (requested_hmac_algorithm x)
    → Reads IsRequestedHmacAlgorithm bytes p → requested_hmac_algorithm x ≡ p
requested_hmac_algorithm_one bytes x (requested_hmac_algorithm y) r s = ap requested_hmac_algorithm (r.value.algorithms ∙ sym s.value.algorithms)
requested_hmac_algorithm_one bytes x _ r s = absurd s.kind

pub supported_extensions_one : (bytes : List ℕ) (x : List ChunkType) (p : Parameter) → Reads IsSupportedExtensions bytes (supported_extensions x)
    → Reads IsSupportedExtensions bytes p → supported_extensions x ≡ p
supported_extensions_one bytes x (supported_extensions y) r s = ap supported_extensions (r.value ∙ sym s.value)
supported_extensions_one bytes x _ r s = absurd s.kind

pub forward_tsn_supported_one : (bytes : List ℕ) (p : Parameter) → Reads IsForwardTsnSupported bytes p → forward_tsn_supported ≡ p
forward_tsn_supported_one bytes forward_tsn_supported s = refl
forward_tsn_supported_one bytes _ s = absurd s.kind

pub unknown_param_one : (bytes : List ℕ) (n : ℕ) (x : List ℕ) (p : Parameter) → Reads IsUnknownParam bytes (unknown_param n x) → Reads IsUnknownParam bytes p
    → unknown_param n x ≡ p
unknown_param_one bytes n x (unknown_param m y) r s =
    let type_is : n ≡ m = sym r.kind ∙ s.kind in
    let value_is : x ≡ y = r.value ∙ sym s.value in
    cc
unknown_param_one bytes n x _ r s = absurd s.kind

-- ---- one parameter of any kind

pub reads_one_param : (bytes : List ℕ) (p q : Parameter) → ReadsParam bytes p → ReadsParam bytes q → p ≡ q
reads_one_param bytes (heartbeat_info x) (heartbeat_info y) r s = ap heartbeat_info (r.value ∙ sym s.value)
reads_one_param bytes (state_cookie x) (state_cookie y) r s = ap state_cookie (r.value ∙ sym s.value)
reads_one_param bytes (supported_address_types x) (supported_address_types y) r s = ap supported_address_types (r.value.types ∙ sym s.value.types)
reads_one_param bytes (outgoing_reset_request x) (outgoing_reset_request y) r s = ap outgoing_reset_request (r.value.fields ∙ sym s.value.fields)
reads_one_param bytes (reconfig_response x) (reconfig_response y) r s = ap reconfig_response (r.value.fields ∙ sym s.value.fields)
reads_one_param bytes (random x) (random y) r s = ap random (r.value ∙ sym s.value)
reads_one_param bytes (chunk_list x) (chunk_list y) r s = ap chunk_list (r.value ∙ sym s.value)
reads_one_param bytes (requested_hmac_algorithm x) (requested_hmac_algorithm y) r s = ap requested_hmac_algorithm (r.value.algorithms ∙ sym s.value.algorithms)
reads_one_param bytes (supported_extensions x) (supported_extensions y) r s = ap supported_extensions (r.value ∙ sym s.value)
reads_one_param bytes forward_tsn_supported forward_tsn_supported r s = refl
reads_one_param bytes (unknown_param n x) (unknown_param m y) r s =
    let type_is : n ≡ m = sym r.kind.0 ∙ s.kind.0 in
    let value_is : x ≡ y = r.value ∙ sym s.value in
    cc
reads_one_param bytes p q r s = absurd (omega (arith, r.kind, s.kind))

pub no_param : (bytes : List ℕ) → length bytes < 4 → (p : Parameter) → ReadsParam bytes p → ⊥
no_param bytes short p r = omega (arith, r.is_param.headed)
