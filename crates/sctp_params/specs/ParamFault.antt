-- What must stand in the bytes for each refusal of a parameter: one row each.
use Rattle.std.specs.Prelude.{◌≡◌, ◌≢◌, ℕ, ◌*◌, ◌/◌, ◌%◌, ◌<◌, ◌≤◌, ◌⊎◌, List, length}
use Rattle.sctp_util.specs.declared.error.Error.{Error}
use Rattle.sctp_util.specs.declared.error.Error.TheVariants as errors
use Rattle.sctp_util.specs.Field.{u16_at}
use Rattle.sctp_params.specs.ParamFraming.{IsParam, param_type_at, param_declared_length, param_value_at}
use Rattle.sctp_params.specs.HmacAlgorithm.{IsRequestable}

-- under four bytes, a length under four, or one past the bytes
abbrev pub ParamHeaderFault : Error → List ℕ → Type 0
ParamHeaderFault e bytes =
    (e ≡ errors.ErrParamHeaderTooShort) ×
    ((length bytes < 4) ⊎ (param_declared_length bytes < 4)
    ⊎ (length bytes < param_declared_length bytes))

abbrev pub AddressTypesFault : Error → List ℕ → Type 0
AddressTypesFault e bytes =
    ParamHeaderFault e bytes
    ⊎ ((e ≡ errors.ErrSupportedAddressTypesParamInvalidLength) × IsParam bytes
    × (length (param_value_at bytes) % 2 ≢ 0))

abbrev pub ResetRequestFault : Error → List ℕ → Type 0
ResetRequestFault e bytes =
    ParamHeaderFault e bytes
    ⊎ ((e ≡ errors.ErrSsnResetRequestParamTooShort) × IsParam bytes
    × (length (param_value_at bytes) < 12))
    ⊎ ((e ≡ errors.ErrSsnResetRequestParamInvalidLength) × IsParam bytes
    × (12 ≤ length (param_value_at bytes)) × (length (param_value_at bytes) % 2 ≢ 0))

abbrev pub ResponseFault : Error → List ℕ → Type 0
ResponseFault e bytes =
    ParamHeaderFault e bytes
    ⊎ ((e ≡ errors.ErrReconfigRespParamTooShort) × IsParam bytes
    × (length (param_value_at bytes) < 8))

abbrev pub ChunkListFault : Error → List ℕ → Type 0
ChunkListFault e bytes =
    ParamHeaderFault e bytes
    ⊎ ((e ≡ errors.ErrParamTypeUnexpected) × IsParam bytes × (param_type_at bytes ≢ 32771))

-- another number than those of the algorithms that can be asked for
abbrev pub HasOtherAlgorithm : List ℕ → Type 0
HasOtherAlgorithm value =
    (i : ℕ) × (i < length value / 2) × (IsRequestable (u16_at value (2 * i)) → ⊥)

abbrev pub AlgorithmsFault : Error → List ℕ → Type 0
AlgorithmsFault e bytes =
    ParamHeaderFault e bytes
    ⊎ ((e ≡ errors.ErrInvalidAlgorithmType) × IsParam bytes
    × HasOtherAlgorithm (param_value_at bytes))
