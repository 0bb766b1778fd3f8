-- The parameters of a RE-CONFIG as a caller in C reads and writes them (RFC 6525 4).
use Rattle.std.specs.Prelude.{◌≡◌, ◌≢◌, ◌⊎◌, ℕ, ◌+◌, ◌*◌, ◌-◌, ◌/◌, ◌%◌, ◌<◌, ◌≤◌, Bool, true, false, ◌||◌, ◌==◌, if◌then◌else◌, List, ◌++◌, length}
use Rattle.sctp_util.specs.declared.error.Error.{Error}
use Rattle.sctp_util.specs.declared.error.Error.TheVariants.{ErrParamHeaderTooShort, ErrParamTypeUnexpected, ErrSsnResetRequestParamTooShort}
use Rattle.sctp_util.specs.declared.error.Error.TheVariants.{ErrSsnResetRequestParamInvalidLength, ErrReconfigRespParamTooShort}
use Rattle.sctp_util.specs.Each.{each}
use Rattle.sctp_util.specs.Field.{be32, u16_at, u32_at}
use Rattle.sctp_params.specs.ParamFraming.{IsParam, param_framed, param_type_at, param_value_at}
use Rattle.sctp_params.specs.ResetRequest.{ResetRequest, reset_request_in}
use Rattle.sctp_c.specs.Out.{filled}
use Rattle.sctp_c.specs.declared.reconfig.SctpAddStreams.{SctpAddStreams}
use Rattle.sctp_c.specs.declared.reconfig.SctpReset.{SctpReset}
use Rattle.sctp_c.specs.declared.reconfig.SctpResponse.{SctpResponse}

-- the types of requests
abbrev pub is_request : ℕ → Bool
is_request t = t == 13 || (t == 14 || (t == 15 || (t == 17 || t == 18)))

-- the bytes begin with a request, and this is its number
pub record IsRequest (bytes : List ℕ) (number : ℕ) : Type 0 where
  pub is_param : IsParam bytes
  pub typ : is_request (param_type_at bytes) ≡ true
  pub long : 4 ≤ length (param_value_at bytes)
  pub value : number ≡ u32_at (param_value_at bytes) 0

abbrev pub IsEven : ℕ → Type 0
IsEven n = n % 2 ≡ 0

-- the numbers of an Outgoing SSN Reset Request
abbrev pub reset_answered : ResetRequest → SctpReset
reset_answered r = record {
  request = r.reconfig_request_sequence_number;
  response = r.reconfig_response_sequence_number;
  last_tsn = r.sender_last_tsn;
}

-- the bytes begin with an Outgoing SSN Reset Request of these numbers and so many streams; as many of them as there is room for stand in the rows
pub record IsReset (bytes : List ℕ) (t : SctpReset) (count : ℕ) (old rows : List ℕ) : Type 0 where
  pub is_param : IsParam bytes
  pub typ : param_type_at bytes ≡ 13
  pub long : 12 ≤ length (param_value_at bytes)
  pub even : IsEven (length (param_value_at bytes))
  pub numbers : t ≡ reset_answered (reset_request_in (param_value_at bytes))
  pub streams : count ≡ length (reset_request_in (param_value_at bytes)).stream_identifiers
  pub named : rows ≡ filled (reset_request_in (param_value_at bytes)).stream_identifiers old

-- the streams in the value of an Incoming SSN Reset Request (RFC 6525 4.2)
abbrev pub streams_asked : List ℕ → List ℕ
streams_asked value = each ((length value - 4) / 2) (λ i. u16_at value (4 + 2 * i))

-- the bytes begin with such a request of this number and so many streams; as many of them as there is room for stand in the rows
pub record IsIncomingReset (bytes : List ℕ) (number count : ℕ) (old rows : List ℕ) : Type 0 where
  pub is_param : IsParam bytes
  pub typ : param_type_at bytes ≡ 14
  pub long : 4 ≤ length (param_value_at bytes)
  pub even : IsEven (length (param_value_at bytes))
  pub request : number ≡ u32_at (param_value_at bytes) 0
  pub streams : count ≡ length (streams_asked (param_value_at bytes))
  pub named : rows ≡ filled (streams_asked (param_value_at bytes)) old

-- the type of a request to add outgoing or incoming streams (RFC 6525 4.5, 4.6)
abbrev pub add_streams_type : SctpAddStreams → ℕ
add_streams_type t = if t.is_incoming == 0 then 17 else 18

-- the bytes begin with such a request of this number, which adds so many streams
pub record IsAddStreams (bytes : List ℕ) (t : SctpAddStreams) : Type 0 where
  pub is_param : IsParam bytes
  pub typ : param_type_at bytes ≡ add_streams_type t
  pub flag : t.is_incoming ≤ 1
  pub long : length (param_value_at bytes) ≡ 8
  pub request : t.request ≡ u32_at (param_value_at bytes) 0
  pub new_streams : t.count ≡ u16_at (param_value_at bytes) 4

-- the bytes begin with a Re-configuration Response of these numbers
pub record IsResponse (bytes : List ℕ) (t : SctpResponse) : Type 0 where
  pub is_param : IsParam bytes
  pub typ : param_type_at bytes ≡ 16
  pub long : 8 ≤ length (param_value_at bytes)
  pub response : t.response ≡ u32_at (param_value_at bytes) 0
  pub outcome : t.result ≡ u32_at (param_value_at bytes) 4

-- a response without TSNs
abbrev pub response_bytes : SctpResponse → List ℕ
response_bytes t = param_framed 16 (be32 t.response ++ be32 t.result)

-- ## Refusals

-- the bytes begin with no parameter
abbrev pub NoParamFault : Error → List ℕ → Type 0
NoParamFault e bytes = (e ≡ ErrParamHeaderTooShort) × (IsParam bytes → ⊥)

abbrev pub RequestFault : Error → List ℕ → Type 0
RequestFault e bytes =
    NoParamFault e bytes
    ⊎ ((e ≡ ErrParamTypeUnexpected) × (is_request (param_type_at bytes) ≡ false))
    ⊎ ((e ≡ ErrSsnResetRequestParamTooShort) × (length (param_value_at bytes) < 4))

abbrev pub ResetFault : Error → List ℕ → Type 0
ResetFault e bytes =
    NoParamFault e bytes
    ⊎ ((e ≡ ErrParamTypeUnexpected) × (param_type_at bytes ≢ 13))
    ⊎ ((e ≡ ErrSsnResetRequestParamTooShort) × (length (param_value_at bytes) < 12))
    ⊎ ((e ≡ ErrSsnResetRequestParamInvalidLength) × (IsEven (length (param_value_at bytes)) → ⊥))

abbrev pub IncomingResetFault : Error → List ℕ → Type 0
IncomingResetFault e bytes =
    NoParamFault e bytes
    ⊎ ((e ≡ ErrParamTypeUnexpected) × (param_type_at bytes ≢ 14))
    ⊎ ((e ≡ ErrSsnResetRequestParamTooShort) × (length (param_value_at bytes) < 4))
    ⊎ ((e ≡ ErrSsnResetRequestParamInvalidLength) × (IsEven (length (param_value_at bytes)) → ⊥))

abbrev pub AddStreamsFault : Error → List ℕ → Type 0
AddStreamsFault e bytes =
    NoParamFault e bytes
    ⊎ ((e ≡ ErrParamTypeUnexpected)
    × ((param_type_at bytes ≢ 17) × (param_type_at bytes ≢ 18)))
    ⊎ ((e ≡ ErrSsnResetRequestParamInvalidLength) × (length (param_value_at bytes) ≢ 8))

abbrev pub ResponseFault : Error → List ℕ → Type 0
ResponseFault e bytes =
    NoParamFault e bytes
    ⊎ ((e ≡ ErrParamTypeUnexpected) × (param_type_at bytes ≢ 16))
    ⊎ ((e ≡ ErrReconfigRespParamTooShort) × (length (param_value_at bytes) < 8))
