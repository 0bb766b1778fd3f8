-- Chunks of every kind, as their wire parts: what bytes say of them, and how they are written.
use Rattle.std.specs.Prelude.{◌≡◌, ℕ, ◌+◌, ◌^◌, ◌<◌, true, Option, Some, None, List, [], length}
use Rattle.sctp_util.specs.Field.{be32, u32_at}
use Rattle.sctp_chunks.specs.declared.chunk.error_cause.ErrorCause.{ErrorCause}
use Rattle.sctp_chunks.specs.Framing.{type_at, flags_at, value_at, IsFramed, chunk_encoding}
use Rattle.sctp_data.specs.PayloadData.{Data, ReadsData, data_flags, data_value}
use Rattle.sctp_data.specs.SelectiveAck.{Sack, ReadsSack, sack_value}
use Rattle.sctp_chunks.specs.Params.{params_encoding}
use Rattle.sctp_chunks.specs.Init.{Init, ReadsInit, ack_type, init_value}
use Rattle.sctp_chunks.specs.Heartbeat.{ReadsHeartbeat, IsOneInfo}
use Rattle.sctp_chunks.specs.Reconfig.{Reconfig, ReadsPair, reconfig_value}
use Rattle.sctp_chunks.specs.ErrorCause.{ReadsCauses, causes_encoding}
use Rattle.sctp_params.specs.Param.{Parameter}
use Rattle.sctp_data.specs.ForwardTsn.{ForwardTsn, ReadsForwardTsn, forward_tsn_value}
use Rattle.sctp_chunks.specs.IForwardTsn.{IForwardTsn, ReadsIForwardTsn, i_forward_tsn_value}

pub data Wire : Type 0 where
  data_chunk : Data → Wire
  init_chunk : Init → Wire
  sack_chunk : Sack → Wire
  heartbeat_chunk : List Parameter → Wire
  heartbeat_ack_chunk : List Parameter → Wire
  abort_chunk : List ErrorCause → Wire
  shutdown_chunk : ℕ → Wire
  shutdown_ack_chunk : Wire
  error_chunk : List ErrorCause → Wire
  cookie_echo_chunk : List ℕ → Wire
  cookie_ack_chunk : Wire
  shutdown_complete_chunk : Wire
  reconfig_chunk : Reconfig → Wire
  forward_tsn_chunk : ForwardTsn → Wire
  i_forward_tsn_chunk : IForwardTsn → Wire

abbrev pub type_of : Wire → ℕ
type_of (data_chunk d) = 0
type_of (init_chunk i) = ack_type i.is_ack
type_of (sack_chunk s) = 3
type_of (heartbeat_chunk ps) = 4
type_of (heartbeat_ack_chunk ps) = 5
type_of (abort_chunk cs) = 6
type_of (shutdown_chunk n) = 7
type_of shutdown_ack_chunk = 8
type_of (error_chunk cs) = 9
type_of (cookie_echo_chunk b) = 10
type_of cookie_ack_chunk = 11
type_of shutdown_complete_chunk = 14
type_of (reconfig_chunk r) = 130
type_of (forward_tsn_chunk f) = 192
type_of (i_forward_tsn_chunk f) = 194

-- only DATA has flags
abbrev pub flags_of : Wire → ℕ
flags_of (data_chunk d) = data_flags d
flags_of _ = 0

-- the value that a chunk is written with
abbrev pub value_of : Wire → List ℕ
value_of (data_chunk d) = data_value d
value_of (init_chunk i) = init_value i
value_of (sack_chunk s) = sack_value s
value_of (heartbeat_chunk ps) = params_encoding true ps
value_of (heartbeat_ack_chunk ps) = params_encoding true ps
value_of (abort_chunk cs) = causes_encoding cs
value_of (shutdown_chunk n) = be32 n
value_of shutdown_ack_chunk = []
value_of (error_chunk cs) = causes_encoding cs
value_of (cookie_echo_chunk b) = b
value_of cookie_ack_chunk = []
value_of shutdown_complete_chunk = []
value_of (reconfig_chunk r) = reconfig_value r
value_of (forward_tsn_chunk f) = forward_tsn_value f
value_of (i_forward_tsn_chunk f) = i_forward_tsn_value f

-- what the value of a SHUTDOWN says
abbrev pub ReadsShutdown : List ℕ → ℕ → Type 0
ReadsShutdown value n = (length value ≡ 4) × (n ≡ u32_at value 0)

-- what flags and value say
abbrev pub ReadsValue : ℕ → List ℕ → Wire → Type 0
ReadsValue flags value (data_chunk d) = ReadsData flags value d
ReadsValue flags value (init_chunk i) = ReadsInit flags value i
ReadsValue flags value (sack_chunk s) = ReadsSack value s
ReadsValue flags value (heartbeat_chunk ps) = ReadsHeartbeat value ps
ReadsValue flags value (heartbeat_ack_chunk ps) = ReadsHeartbeat value ps
ReadsValue flags value (abort_chunk cs) = ReadsCauses value cs
ReadsValue flags value (shutdown_chunk n) = ReadsShutdown value n
ReadsValue flags value shutdown_ack_chunk = Unit {0}
ReadsValue flags value (error_chunk cs) = ReadsCauses value cs
ReadsValue flags value (cookie_echo_chunk b) = b ≡ value
ReadsValue flags value cookie_ack_chunk = Unit {0}
ReadsValue flags value shutdown_complete_chunk = Unit {0}
ReadsValue flags value (reconfig_chunk r) = ReadsPair value r.param_a r.param_b
ReadsValue flags value (forward_tsn_chunk f) = ReadsForwardTsn value f
ReadsValue flags value (i_forward_tsn_chunk f) = ReadsIForwardTsn value f

-- The bytes, all that follow from the chunk on, begin with this chunk.
pub record ReadsChunk (bytes : List ℕ) (w : Wire) : Type 0 where
  pub is_framed : IsFramed bytes
  pub typ : type_at bytes ≡ type_of w
  pub value : ReadsValue (flags_at bytes) (value_at bytes) w

-- a chunk whose length can be declared
abbrev pub HasLength : Wire → Type 0
HasLength w = 4 + length (value_of w) < 2 ^ 16

abbrev pub HasFirst : Option Parameter → Type 0
HasFirst None = ⊥
HasFirst (Some p) = Unit {0}

-- what a kind asks for before there is an encoding: of a HEARTBEAT-ACK exactly one Heartbeat Info, of a RECONFIG a first parameter
abbrev pub HasForm : Wire → Type 0
HasForm (heartbeat_ack_chunk ps) = IsOneInfo ps
HasForm (reconfig_chunk r) = HasFirst r.param_a
HasForm _ = Unit {0}

-- a chunk that can be written
abbrev pub HasEncoding : Wire → Type 0
HasEncoding w = HasForm w × HasLength w

abbrev pub encoding_of : Wire → List ℕ
encoding_of w = chunk_encoding (type_of w) (flags_of w) (value_of w)

-- ---- the chunks of one kind

abbrev pub IsData : Wire → Type 0
IsData (data_chunk d) = Unit {0}
IsData _ = ⊥

abbrev pub IsSack : Wire → Type 0
IsSack (sack_chunk s) = Unit {0}
IsSack _ = ⊥

abbrev pub IsAbort : Wire → Type 0
IsAbort (abort_chunk cs) = Unit {0}
IsAbort _ = ⊥

abbrev pub IsShutdown : Wire → Type 0
IsShutdown (shutdown_chunk n) = Unit {0}
IsShutdown _ = ⊥

abbrev pub IsShutdownAck : Wire → Type 0
IsShutdownAck shutdown_ack_chunk = Unit {0}
IsShutdownAck _ = ⊥

abbrev pub IsError : Wire → Type 0
IsError (error_chunk cs) = Unit {0}
IsError _ = ⊥

abbrev pub IsCookieEcho : Wire → Type 0
IsCookieEcho (cookie_echo_chunk b) = Unit {0}
IsCookieEcho _ = ⊥

abbrev pub IsCookieAck : Wire → Type 0
IsCookieAck cookie_ack_chunk = Unit {0}
IsCookieAck _ = ⊥

abbrev pub IsShutdownComplete : Wire → Type 0
IsShutdownComplete shutdown_complete_chunk = Unit {0}
IsShutdownComplete _ = ⊥

abbrev pub IsForwardTsn : Wire → Type 0
IsForwardTsn (forward_tsn_chunk f) = Unit {0}
IsForwardTsn _ = ⊥

abbrev pub IsIForwardTsn : Wire → Type 0
IsIForwardTsn (i_forward_tsn_chunk f) = Unit {0}
IsIForwardTsn _ = ⊥

abbrev pub IsInit : Wire → Type 0
IsInit (init_chunk i) = Unit {0}
IsInit _ = ⊥

abbrev pub IsHeartbeat : Wire → Type 0
IsHeartbeat (heartbeat_chunk ps) = Unit {0}
IsHeartbeat _ = ⊥

abbrev pub IsHeartbeatAck : Wire → Type 0
IsHeartbeatAck (heartbeat_ack_chunk ps) = Unit {0}
IsHeartbeatAck _ = ⊥

abbrev pub IsReconfig : Wire → Type 0
IsReconfig (reconfig_chunk r) = Unit {0}
IsReconfig _ = ⊥
