-- What is read of the peer's messages.
use Rattle.std.specs.Prelude.{◌≡◌, ℕ, ◌-◌, ◌^◌, ◌==◌, Bool, true, not, ◌&&◌, min, if◌then◌else◌, length, Option, Some, None}
use Rattle.std.specs.List.{sum_by}
use Rattle.std.specs.Option.{option_map}
use Rattle.sctp_association.specs.declared.association.Association.{Association}
use Rattle.sctp_association.specs.declared.inbound.Inbound.{Inbound}
use Rattle.sctp_data.specs.ChunkSet.{ChunkSet}
use Rattle.sctp_data.specs.declared.chunk.chunk_payload_data.PayloadProtocolIdentifier.{PayloadProtocolIdentifier}
use Rattle.sctp_path.specs.Timers.{Delay, after_packet}
use Rattle.sctp_receiver.specs.Receiver.{Reception, after_read, is_open, message_on, window}

-- the next complete message of a stream, by the receiver's definition: none before the association stands
abbrev pub message_in : ℕ → Option Inbound → Option ChunkSet
message_in stream None = None
message_in stream (Some i) = message_on stream i.receiver

-- its bytes, up to the greatest usize, and its payload type
abbrev pub length_of : Option ChunkSet → Option (ℕ × PayloadProtocolIdentifier)
length_of m = option_map
    (λ s. (min (sum_by (λ c. length c.user_data) s.chunks) (2 ^ 64 - 1), s.ppi)) m

-- it is read; of a stream that is not open nothing is
abbrev pub read_off : ℕ → Reception → Reception
read_off stream r = if is_open stream r then after_read stream r else r

-- the window was used up, and is no more
abbrev pub is_opened_by : ℕ → Reception → Bool
is_opened_by stream r =
    is_open stream r && (window r == 0 && not (window (read_off stream r) == 0))

-- a SACK that tells of it is due at once (RFC 9260 6.2)
abbrev pub delay_after_read : (now stream : ℕ) → Reception → Delay → Delay
delay_after_read now stream r d = if is_opened_by stream r then after_packet now true d else d

-- a message is read, and nothing else has changed
pub record IsReadOff (now stream : ℕ) (old new : Inbound) : Type 0 where
  pub receiver : new.receiver ≡ read_off stream old.receiver
  pub delay : new.delay ≡ delay_after_read now stream old.receiver old.delay
  pub streams : new.streams ≡ old.streams
  pub came : new.came ≡ old.came
  pub discarded : new.discarded ≡ old.discarded
  pub unknown_stream : new.unknown_stream ≡ old.unknown_stream

-- so of the receiving half, where there is one
abbrev pub AreReadOff : (now stream : ℕ) → (old new : Option Inbound) → Type 0
AreReadOff now stream None new = new ≡ None
AreReadOff now stream (Some i) None = ⊥
AreReadOff now stream (Some i) (Some j) = IsReadOff now stream i j

-- beside its receiving half an association is as it was
pub record IsSameBeside (old new : Association) : Type 0 where
  pub config : new.config ≡ old.config
  pub key : new.key ≡ old.key
  pub machine : new.machine ≡ old.machine
  pub is_over : new.is_over ≡ old.is_over
  pub wants_shutdown : new.wants_shutdown ≡ old.wants_shutdown
  pub outbound : new.outbound ≡ old.outbound
  pub requests : new.requests ≡ old.requests
  pub peer_requests : new.peer_requests ≡ old.peer_requests
  pub control : new.control ≡ old.control
  pub guard : new.guard ≡ old.guard
  pub heartbeat : new.heartbeat ≡ old.heartbeat
  pub cookie : new.cookie ≡ old.cookie
  pub due : new.due ≡ old.due
  pub events : new.events ≡ old.events
  pub draft : new.draft ≡ old.draft
