-- Chunks of the kinds that a packet is read for.
use Rattle.std.specs.Prelude.{◌≡◌, ◌≢◌, ℕ, ◌≤◌, ◌⊎◌, List, length, map}
use Rattle.sctp_util.specs.declared.error.Error.{Error}
use Rattle.sctp_util.specs.declared.error.Error.TheVariants as errors
use Rattle.sctp_chunks.specs.declared.chunk.chunk_kind.ChunkKind.{ChunkKind}
use Rattle.sctp_chunks.specs.declared.chunk.chunk_kind.ChunkKind.TheVariants.{PayloadData, Init as InitKind, SelectiveAck, Heartbeat, HeartbeatAck, Abort}
use Rattle.sctp_chunks.specs.declared.chunk.chunk_kind.ChunkKind.TheVariants.{Shutdown, ShutdownAck, Error as ErrorKind, CookieEcho, CookieAck}
use Rattle.sctp_chunks.specs.declared.chunk.chunk_kind.ChunkKind.TheVariants.{ShutdownComplete, Reconfig as ReconfigKind, ForwardTsn, IForwardTsn}
use Rattle.sctp_data.specs.PayloadData.{data_of}
use Rattle.sctp_data.specs.SelectiveAck.{sack_of}
use Rattle.sctp_chunks.specs.Init.{init_of}
use Rattle.sctp_chunks.specs.Reconfig.{reconfig_of}
use Rattle.sctp_data.specs.ForwardTsn.{forward_tsn_of}
use Rattle.sctp_params.specs.ParamKind.{parameter_of}
use Rattle.sctp_chunks.specs.IForwardTsn.{i_forward_tsn_of}
use Rattle.sctp_data.specs.ChunkSet.{IsFreshData}
use Rattle.sctp_chunks.specs.Framing.{type_at}
use Rattle.sctp_chunks.specs.Wire.{Wire, data_chunk, init_chunk, sack_chunk, heartbeat_chunk, heartbeat_ack_chunk, reconfig_chunk, abort_chunk, shutdown_chunk}
use Rattle.sctp_chunks.specs.Wire.{shutdown_ack_chunk, error_chunk, cookie_echo_chunk, cookie_ack_chunk, shutdown_complete_chunk, forward_tsn_chunk}
use Rattle.sctp_chunks.specs.Wire.{i_forward_tsn_chunk, type_of}
use Rattle.sctp_chunks.specs.Fault.{HeaderFault, OpenFault, DataFault, InitFault, SackFault, HeartbeatFault, HeartbeatAckFault, ReconfigFault, AbortFault}
use Rattle.sctp_chunks.specs.Fault.{ShutdownFault, ErrorFault, ForwardTsnFault, IForwardTsnFault}

abbrev pub wire_of : ChunkKind → Wire
wire_of (PayloadData c) = data_chunk (data_of c)
wire_of (InitKind c) = init_chunk (init_of c)
wire_of (SelectiveAck c) = sack_chunk (sack_of c)
wire_of (Heartbeat c) = heartbeat_chunk (map parameter_of c.params.items)
wire_of (HeartbeatAck c) = heartbeat_ack_chunk (map parameter_of c.params.items)
wire_of (Abort c) = abort_chunk c.error_causes.items
wire_of (Shutdown c) = shutdown_chunk c.cumulative_tsn_ack
wire_of (ShutdownAck c) = shutdown_ack_chunk
wire_of (ErrorKind c) = error_chunk c.error_causes.items
wire_of (CookieEcho c) = cookie_echo_chunk c.cookie
wire_of (CookieAck c) = cookie_ack_chunk
wire_of (ShutdownComplete c) = shutdown_complete_chunk
wire_of (ReconfigKind c) = reconfig_chunk (reconfig_of c)
wire_of (ForwardTsn c) = forward_tsn_chunk (forward_tsn_of c)
wire_of (IForwardTsn c) = i_forward_tsn_chunk (i_forward_tsn_of c)

-- the kinds that are read
abbrev pub IsRead : Wire → Type 0
IsRead _ = Unit {0}

-- a chunk as reading gives it
abbrev pub IsFreshKind : ChunkKind → Type 0
IsFreshKind (PayloadData c) = IsFreshData c
IsFreshKind _ = Unit {0}

-- a number of none of the kinds
abbrev pub IsOtherType : ℕ → Type 0
IsOtherType n = (w : Wire) → n ≢ type_of w

-- the refusal of the kind whose number the bytes name
unfoldable pub KindFault : Error → List ℕ → Type 0
KindFault e bytes =
    HeaderFault e bytes
    ⊎ ((e ≡ errors.ErrUnmarshalUnknownChunkType) × (4 ≤ length bytes) × IsOtherType (type_at bytes))
    ⊎ ((type_at bytes ≡ 0) × DataFault e bytes)
    ⊎ (((type_at bytes ≡ 1) ⊎ (type_at bytes ≡ 2)) × InitFault e bytes)
    ⊎ ((type_at bytes ≡ 3) × SackFault e bytes)
    ⊎ ((type_at bytes ≡ 4) × HeartbeatFault e bytes)
    ⊎ ((type_at bytes ≡ 5) × HeartbeatAckFault e bytes)
    ⊎ ((type_at bytes ≡ 6) × AbortFault e bytes)
    ⊎ ((type_at bytes ≡ 7) × ShutdownFault e bytes)
    ⊎ ((type_at bytes ≡ 8) × OpenFault 8 errors.ErrChunkTypeNotShutdownAck e bytes)
    ⊎ ((type_at bytes ≡ 9) × ErrorFault e bytes)
    ⊎ ((type_at bytes ≡ 10) × OpenFault 10 errors.ErrChunkTypeNotCookieEcho e bytes)
    ⊎ ((type_at bytes ≡ 11) × OpenFault 11 errors.ErrChunkTypeNotCookieAck e bytes)
    ⊎ ((type_at bytes ≡ 14) × OpenFault 14 errors.ErrChunkTypeNotShutdownComplete e bytes)
    ⊎ ((type_at bytes ≡ 130) × ReconfigFault e bytes)
    ⊎ ((type_at bytes ≡ 192) × ForwardTsnFault e bytes)
    ⊎ ((type_at bytes ≡ 194) × IForwardTsnFault e bytes)
