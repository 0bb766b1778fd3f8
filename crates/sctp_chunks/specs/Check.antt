-- What is asked of a chunk beside its encoding: by `check`, and before it is written.
use Rattle.std.specs.Prelude.{◌≡◌, ◌≢◌, ◌<◌, ◌≤◌, ◌⊎◌, Option, Some, None}
use Rattle.sctp_util.specs.declared.error.Error.{Error}
use Rattle.sctp_util.specs.declared.error.Error.TheVariants as errors
use Rattle.sctp_params.specs.Param.{Parameter}
use Rattle.sctp_chunks.specs.Init.{Init}
use Rattle.sctp_chunks.specs.Heartbeat.{OneInfoFault}
use Rattle.sctp_chunks.specs.Reconfig.{IsPair, PairFault}
use Rattle.sctp_chunks.specs.Wire.{Wire, init_chunk, heartbeat_ack_chunk, reconfig_chunk, HasForm, HasLength}

-- what `check` asks of an INIT or INIT-ACK: no number that is not allowed (RFC 4960 3.3.2, and 6 of the credit)
abbrev pub IsCheckedInit : Init → Type 0
IsCheckedInit i =
    (i.initiate_tag ≢ 0) × (i.num_inbound_streams ≢ 0) × (i.num_outbound_streams ≢ 0)
    × (1500 ≤ i.advertised_receiver_window_credit)

-- the first of these, in this order, that does not hold
abbrev pub InitCheckFault : Error → Init → Type 0
InitCheckFault e i =
    ((e ≡ errors.ErrChunkTypeInitInitiateTagZero) × (i.initiate_tag ≡ 0))
    ⊎ ((e ≡ errors.ErrInitInboundStreamRequestZero) × (i.initiate_tag ≢ 0)
    × (i.num_inbound_streams ≡ 0))
    ⊎ ((e ≡ errors.ErrInitOutboundStreamRequestZero) × (i.initiate_tag ≢ 0)
    × (i.num_inbound_streams ≢ 0) × (i.num_outbound_streams ≡ 0))
    ⊎ ((e ≡ errors.ErrInitAdvertisedReceiver1500) × (i.initiate_tag ≢ 0)
    × (i.num_inbound_streams ≢ 0) × (i.num_outbound_streams ≢ 0)
    × (i.advertised_receiver_window_credit < 1500))

-- what `check` asks for
abbrev pub IsChecked : Wire → Type 0
IsChecked (init_chunk i) = IsCheckedInit i
IsChecked (reconfig_chunk r) = IsPair r.param_a r.param_b
IsChecked _ = Unit {0}

-- why `check` refuses
abbrev pub CheckFault : Error → Wire → Type 0
CheckFault e (init_chunk i) = InitCheckFault e i
CheckFault e (reconfig_chunk r) = PairFault e r.param_a r.param_b
CheckFault e _ = ⊥

abbrev pub NoFirstFault : Error → Option Parameter → Type 0
NoFirstFault e None = e ≡ errors.ErrChunkReconfigInvalidParamA
NoFirstFault e (Some a) = ⊥

-- why a chunk's kind has no encoding for it
abbrev pub FormFault : Error → Wire → Type 0
FormFault e (heartbeat_ack_chunk ps) = OneInfoFault e ps
FormFault e (reconfig_chunk r) = NoFirstFault e r.param_a
FormFault e _ = ⊥

-- why a chunk has no encoding: what its kind asks for comes before its length
abbrev pub EncodingFault : Error → Wire → Type 0
EncodingFault e w = FormFault e w ⊎ ((e ≡ errors.ErrLengthTooLarge) × HasForm w × (HasLength w → ⊥))

-- the errors that say that there is no encoding
abbrev pub IsEncodingError : Error → Type 0
IsEncodingError e =
    (e ≡ errors.ErrLengthTooLarge)
    ⊎ (e ≡ errors.ErrHeartbeatAckParams)
    ⊎ (e ≡ errors.ErrHeartbeatAckNotHeartbeatInfo)
    ⊎ (e ≡ errors.ErrChunkReconfigInvalidParamA)
