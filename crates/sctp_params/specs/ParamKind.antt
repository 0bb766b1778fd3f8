-- Which parameters are read, by their type numbers.
use Rattle.std.specs.Prelude.{◌≡◌, ◌≢◌, ℕ, ◌^◌, ◌<◌, ◌≤◌, ◌⊎◌, List, length}
use Rattle.sctp_util.specs.declared.error.Error.{Error}
use Rattle.sctp_util.specs.declared.error.Error.TheVariants as errors
use Rattle.sctp_params.specs.declared.param.param_kind.ParamKind.{ParamKind}
use Rattle.sctp_params.specs.declared.param.param_kind.ParamKind.TheVariants.{HeartbeatInfo, StateCookie, SupportedAddressTypes, OutgoingResetRequest}
use Rattle.sctp_params.specs.declared.param.param_kind.ParamKind.TheVariants.{ReconfigResponse, Random, ChunkList, RequestedHmacAlgorithm, SupportedExtensions}
use Rattle.sctp_params.specs.declared.param.param_kind.ParamKind.TheVariants.{ForwardTsnSupported, Unknown}
use Rattle.sctp_params.specs.ParamFraming.{param_type_at}
use Rattle.sctp_params.specs.ParamFault.{ParamHeaderFault, AddressTypesFault, ResetRequestFault, ResponseFault, AlgorithmsFault}
use Rattle.sctp_params.specs.ResetRequest.{reset_request_of}
use Rattle.sctp_params.specs.Param.{Parameter, heartbeat_info, state_cookie, supported_address_types, outgoing_reset_request, reconfig_response, random}
use Rattle.sctp_params.specs.Param.{chunk_list, requested_hmac_algorithm, supported_extensions, forward_tsn_supported, unknown_param, Reads, HasOwnType}

-- the wire part of each kind
abbrev pub parameter_of : ParamKind → Parameter
parameter_of (HeartbeatInfo p) = heartbeat_info p.heartbeat_information
parameter_of (StateCookie p) = state_cookie p.cookie
parameter_of (SupportedAddressTypes p) = supported_address_types p.address_types.items
parameter_of (OutgoingResetRequest p) = outgoing_reset_request (reset_request_of p)
parameter_of (ReconfigResponse p) = reconfig_response p
parameter_of (Random p) = random p.random_data
parameter_of (ChunkList p) = chunk_list p.chunk_types.items
parameter_of (RequestedHmacAlgorithm p) = requested_hmac_algorithm p.available_algorithms.items
parameter_of (SupportedExtensions p) = supported_extensions p.chunk_types.items
parameter_of (ForwardTsnSupported p) = forward_tsn_supported
parameter_of (Unknown p) = unknown_param p.typ p.value

-- a number of no kind, whose highest bit is set: the parameter is skipped and reading goes on (RFC 4960 3.2.1)
abbrev pub IsSkippedType : ℕ → Type 0
IsSkippedType n = (2 ^ 15 ≤ n) × (n ≢ 32770) × (n ≢ 32771) × (n ≢ 32772) × (n ≢ 32776) × (n ≢ 49152)

-- a number of no kind, whose highest bit is not set: reading stops
abbrev pub IsUnhandledType : ℕ → Type 0
IsUnhandledType n = (n < 2 ^ 15) × (n ≢ 1) × (n ≢ 7) × (n ≢ 12) × (n ≢ 13) × (n ≢ 16)

-- an unknown parameter has a number of no kind
abbrev pub HasReadType : Parameter → Type 0
HasReadType (unknown_param n b) = IsSkippedType n
HasReadType _ = Unit {0}

-- each kind is read under its own number
abbrev pub IsReadAs : ℕ → Parameter → Type 0
IsReadAs typ p = HasOwnType typ p × HasReadType p

-- the bytes begin with this parameter
abbrev pub ReadsParam : List ℕ → Parameter → Type 0
ReadsParam bytes p = Reads IsReadAs bytes p

unfoldable pub ParamFault : Error → List ℕ → Type 0
ParamFault e bytes =
    ParamHeaderFault e bytes
    ⊎ ((e ≡ errors.ErrParamTypeUnhandled (param_type_at bytes)) × (4 ≤ length bytes)
    × IsUnhandledType (param_type_at bytes))
    ⊎ ((param_type_at bytes ≡ 12) × AddressTypesFault e bytes)
    ⊎ ((param_type_at bytes ≡ 13) × ResetRequestFault e bytes)
    ⊎ ((param_type_at bytes ≡ 16) × ResponseFault e bytes)
    ⊎ ((param_type_at bytes ≡ 32772) × AlgorithmsFault e bytes)
