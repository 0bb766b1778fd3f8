-- What must stand in the bytes for each refusal: one row each. A value is at fault only in a chunk that is framed and of the kind.
use Rattle.std.specs.Prelude.{◌≡◌, ◌≢◌, ℕ, ◌+◌, ◌-◌, ◌*◌, ◌%◌, ◌<◌, ◌≤◌, ◌⊎◌, List, length, drop, All}
use Rattle.sctp_chunks.specs.Framing.{type_at, flags_at, value_at, declared_length, IsFramed}
use Rattle.sctp_util.specs.Walk.{Walks}
use Rattle.sctp_chunks.specs.declared.chunk.error_cause.ErrorCause.{ErrorCause}
use Rattle.sctp_chunks.specs.ErrorCause.{IsCause, ReadsCause, after_cause}
use Rattle.sctp_data.specs.SelectiveAck.{blocks_in, duplicates_in}
use Rattle.sctp_params.specs.ParamFraming.{IsParam, param_type_at, after_param}
use Rattle.sctp_params.specs.ParamKind.{ParamFault}
use Rattle.sctp_chunks.specs.Params.{ParamsFault}
use Rattle.sctp_util.specs.declared.error.Error.{Error}
use Rattle.sctp_util.specs.declared.error.Error.TheVariants as errors

-- the header of the chunk that the bytes begin with
abbrev pub HeaderFault : Error → List ℕ → Type 0
HeaderFault e bytes =
    ((e ≡ errors.ErrChunkHeaderTooSmall) × (length bytes < 4))
    ⊎ ((e ≡ errors.ErrChunkHeaderInvalidLength) × (4 ≤ length bytes) × (declared_length bytes < 4))
    ⊎ ((e ≡ errors.ErrChunkHeaderNotEnoughSpace) × (4 ≤ length bytes)
    × (length bytes < declared_length bytes))
    ⊎ ((e ≡ errors.ErrChunkHeaderPaddingNonZero) × (4 ≤ length bytes)
    × (declared_length bytes ≤ length bytes) × (length bytes < declared_length bytes + 4)
    × (All (λ x. x ≡ 0) (drop (declared_length bytes) bytes) → ⊥))

-- the same, or another type than the one that was to be read
abbrev pub OpenFault : ℕ → Error → Error → List ℕ → Type 0
OpenFault typ other e bytes =
    HeaderFault e bytes ⊎ ((e ≡ other) × (4 ≤ length bytes) × (type_at bytes ≢ typ))

-- the bytes begin with a chunk of this type
abbrev pub IsChunk : ℕ → List ℕ → Type 0
IsChunk typ bytes = IsFramed bytes × (type_at bytes ≡ typ)

-- the bytes begin with an INIT or INIT-ACK
abbrev pub IsInitChunk : List ℕ → Type 0
IsInitChunk bytes = IsFramed bytes × ((type_at bytes ≡ 1) ⊎ (type_at bytes ≡ 2))

abbrev pub DataFault : Error → List ℕ → Type 0
DataFault e bytes =
    OpenFault 0 errors.ErrChunkTypeNotPayloadData e bytes
    ⊎ ((e ≡ errors.ErrChunkPayloadSmall) × IsChunk 0 bytes × (length (value_at bytes) < 12))

abbrev pub SackFault : Error → List ℕ → Type 0
SackFault e bytes =
    OpenFault 3 errors.ErrChunkTypeNotSack e bytes
    ⊎ ((e ≡ errors.ErrSackSizeNotLargeEnoughInfo) × IsChunk 3 bytes
    × ((length (value_at bytes) < 12)
    ⊎ (length (value_at bytes)
    < 12 + 4 * blocks_in (value_at bytes) + 4 * duplicates_in (value_at bytes))))

-- a cause's refusal, at a place that the walk comes to
unfoldable pub CausesFault : Error → List ℕ → Type 0
CausesFault e bytes =
    (cs : List ErrorCause) × (rest : List ℕ) × Walks ReadsCause after_cause bytes cs rest
    × (4 ≤ length rest) × (e ≡ errors.ErrErrorCauseTooSmall) × (IsCause rest → ⊥)

abbrev pub AbortFault : Error → List ℕ → Type 0
AbortFault e bytes =
    OpenFault 6 errors.ErrChunkTypeNotAbort e bytes
    ⊎ (IsChunk 6 bytes × CausesFault e (value_at bytes))

abbrev pub ShutdownFault : Error → List ℕ → Type 0
ShutdownFault e bytes =
    OpenFault 7 errors.ErrChunkTypeNotShutdown e bytes
    ⊎ ((e ≡ errors.ErrInvalidChunkSize) × IsChunk 7 bytes × (length (value_at bytes) ≢ 4))

abbrev pub ErrorFault : Error → List ℕ → Type 0
ErrorFault e bytes =
    OpenFault 9 errors.ErrChunkTypeNotCt e bytes
    ⊎ (IsChunk 9 bytes × CausesFault e (value_at bytes))

abbrev pub ForwardTsnFault : Error → List ℕ → Type 0
ForwardTsnFault e bytes =
    OpenFault 192 errors.ErrChunkTypeNotForwardTsn e bytes
    ⊎ ((e ≡ errors.ErrChunkTooShort) × IsChunk 192 bytes
    × ((length (value_at bytes) < 4) ⊎ ((length (value_at bytes) - 4) % 4 ≢ 0)))

abbrev pub IForwardTsnFault : Error → List ℕ → Type 0
IForwardTsnFault e bytes =
    OpenFault 194 errors.ErrChunkTypeNotForwardTsn e bytes
    ⊎ ((e ≡ errors.ErrChunkTooShort) × IsChunk 194 bytes × (length (value_at bytes) < 4))

abbrev pub InitFault : Error → List ℕ → Type 0
InitFault e bytes =
    HeaderFault e bytes
    ⊎ ((e ≡ errors.ErrChunkTypeNotTypeInit) × (4 ≤ length bytes) × (type_at bytes ≢ 1)
    × (type_at bytes ≢ 2))
    ⊎ ((e ≡ errors.ErrChunkValueNotLongEnough) × IsInitChunk bytes × (length (value_at bytes) < 16))
    ⊎ ((e ≡ errors.ErrChunkTypeInitFlagZero) × IsInitChunk bytes × (flags_at bytes ≢ 0))
    ⊎ (IsInitChunk bytes × (16 ≤ length (value_at bytes))
    × ParamsFault e (drop 16 (value_at bytes)))

-- a value that is no Heartbeat Info
abbrev pub InfoFault : Error → List ℕ → Type 0
InfoFault e value =
    ((e ≡ errors.ErrHeartbeatNotLongEnoughInfo) × (length value < 4))
    ⊎ ((e ≡ errors.ErrHeartbeatParam) × (4 ≤ length value) × (param_type_at value ≢ 1))
    ⊎ ParamFault e value

abbrev pub HeartbeatFault : Error → List ℕ → Type 0
HeartbeatFault e bytes =
    OpenFault 4 errors.ErrChunkTypeNotHeartbeat e bytes
    ⊎ (IsChunk 4 bytes × InfoFault e (value_at bytes))

abbrev pub HeartbeatAckFault : Error → List ℕ → Type 0
HeartbeatAckFault e bytes =
    OpenFault 5 errors.ErrChunkTypeNotHeartbeatAck e bytes
    ⊎ (IsChunk 5 bytes × InfoFault e (value_at bytes))

-- no first parameter, its refusal, or the second's
abbrev pub PairValueFault : Error → List ℕ → Type 0
PairValueFault e value =
    ((e ≡ errors.ErrChunkTooShort) × (length value < 4))
    ⊎ ParamFault e value
    ⊎ (IsParam value × (0 < length (after_param value)) × ParamFault e (after_param value))

abbrev pub ReconfigFault : Error → List ℕ → Type 0
ReconfigFault e bytes =
    OpenFault 130 errors.ErrChunkTypeNotReconfig e bytes
    ⊎ (IsChunk 130 bytes × PairValueFault e (value_at bytes))
