-- Parameters of every kind, as their wire parts: what bytes say of them, and how they are written.
use Rattle.std.specs.Prelude.{◌≡◌, ℕ, ◌+◌, ◌^◌, ◌<◌, List, [], ◌++◌, length, map}
use Rattle.sctp_util.specs.declared.util.ChunkType.{ChunkType}
use Rattle.sctp_params.specs.declared.param.param_type.ParamType.{ParamType}
use Rattle.sctp_params.specs.declared.param.param_type.ParamType.TheVariants as types
use Rattle.sctp_params.specs.declared.param.param_reconfig_response.ParamReconfigResponse.{ParamReconfigResponse}
use Rattle.sctp_params.specs.declared.param.param_requested_hmac_algorithm.HmacAlgorithm.{HmacAlgorithm}
use Rattle.sctp_params.specs.ParamType.{type_number}
use Rattle.sctp_params.specs.ParamFraming.{IsParam, param_type_at, param_value_at, param_framed}
use Rattle.sctp_params.specs.AddressTypes.{ReadsAddressTypes, address_types_value}
use Rattle.sctp_params.specs.ResetRequest.{ResetRequest, ReadsResetRequest, reset_request_value}
use Rattle.sctp_params.specs.ReconfigResponse.{ReadsResponse, response_value}
use Rattle.sctp_params.specs.HmacAlgorithm.{ReadsAlgorithms, algorithms_value}

pub data Parameter : Type 0 where
  heartbeat_info : List ℕ → Parameter
  state_cookie : List ℕ → Parameter
  supported_address_types : List ParamType → Parameter
  outgoing_reset_request : ResetRequest → Parameter
  reconfig_response : ParamReconfigResponse → Parameter
  random : List ℕ → Parameter
  chunk_list : List ChunkType → Parameter
  requested_hmac_algorithm : List HmacAlgorithm → Parameter
  supported_extensions : List ChunkType → Parameter
  forward_tsn_supported : Parameter
  unknown_param : ℕ → List ℕ → Parameter

-- chunk types stand one in a byte
abbrev pub chunk_types : List ℕ → List ChunkType
chunk_types value = map (λ n. record { 0 = n }) value

abbrev pub chunk_type_numbers : List ChunkType → List ℕ
chunk_type_numbers types = map (λ t. t.0) types

-- the type that a parameter's header names
abbrev pub param_type_of : Parameter → ParamType
param_type_of (heartbeat_info b) = types.HeartbeatInfo
param_type_of (state_cookie b) = types.StateCookie
param_type_of (supported_address_types ts) = types.SupportedAddrTypes
param_type_of (outgoing_reset_request r) = types.OutSsnResetReq
param_type_of (reconfig_response r) = types.ReconfigResp
param_type_of (random b) = types.Random
param_type_of (chunk_list ts) = types.ChunkList
param_type_of (requested_hmac_algorithm hs) = types.ReqHmacAlgo
param_type_of (supported_extensions ts) = types.SupportedExt
param_type_of forward_tsn_supported = types.ForwardTsnSupp
param_type_of (unknown_param n b) = types.Unknown n

abbrev pub param_number_of : Parameter → ℕ
param_number_of p = type_number (param_type_of p)

-- the value that a parameter is written with
abbrev pub param_value_of : Parameter → List ℕ
param_value_of (heartbeat_info b) = b
param_value_of (state_cookie b) = b
param_value_of (supported_address_types ts) = address_types_value ts
param_value_of (outgoing_reset_request r) = reset_request_value r
param_value_of (reconfig_response r) = response_value r
param_value_of (random b) = b
param_value_of (chunk_list ts) = chunk_type_numbers ts
param_value_of (requested_hmac_algorithm hs) = algorithms_value hs
param_value_of (supported_extensions ts) = chunk_type_numbers ts
param_value_of forward_tsn_supported = []
param_value_of (unknown_param n b) = b

-- what a value says, read as a parameter of this kind
abbrev pub ReadsParamValue : List ℕ → Parameter → Type 0
ReadsParamValue value (heartbeat_info b) = b ≡ value
ReadsParamValue value (state_cookie b) = b ≡ value
ReadsParamValue value (supported_address_types ts) = ReadsAddressTypes value ts
ReadsParamValue value (outgoing_reset_request r) = ReadsResetRequest value r
ReadsParamValue value (reconfig_response r) = ReadsResponse value r
ReadsParamValue value (random b) = b ≡ value
ReadsParamValue value (chunk_list ts) = ts ≡ chunk_types value
ReadsParamValue value (requested_hmac_algorithm hs) = ReadsAlgorithms value hs
ReadsParamValue value (supported_extensions ts) = ts ≡ chunk_types value
ReadsParamValue value forward_tsn_supported = Unit {0}
ReadsParamValue value (unknown_param n b) = b ≡ value

-- The bytes begin with this parameter, where IsKind says which parameters a type number is read as.
pub record Reads (IsKind : ℕ → Parameter → Type 0) (bytes : List ℕ) (p : Parameter) : Type 0 where
  pub is_param : IsParam bytes
  pub kind : IsKind (param_type_at bytes) p
  pub value : ReadsParamValue (param_value_at bytes) p

-- a parameter whose length can be declared
abbrev pub HasParamEncoding : Parameter → Type 0
HasParamEncoding p = 4 + length (param_value_of p) < 2 ^ 16

unfoldable pub param_encoding : Parameter → List ℕ
param_encoding p = param_framed (param_number_of p) (param_value_of p)

-- The parameter has an encoding, and bytes that begin with that encoding begin with this parameter, whatever follows.
pub record ReadsBack (IsKind : ℕ → Parameter → Type 0) (p : Parameter) : Type 0 where
  pub has_encoding : HasParamEncoding p
  pub reads : (rest : List ℕ) → Reads IsKind (param_encoding p ++ rest) p

-- a parameter under the number that it is written with
abbrev pub HasOwnType : ℕ → Parameter → Type 0
HasOwnType typ p = typ ≡ param_number_of p
