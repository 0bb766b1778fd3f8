-- What is read of the messages that come on a channel's stream (RFC 8831 6.6, 8832 5, 6).
use Rattle.std.specs.Prelude.{◌≡◌, ℕ, Bool, true, false, not, List, [], ◌∷◌, replicate, Option, Some, None}
use Rattle.std.specs.Option.{option_map}
use Rattle.sctp_association.specs.declared.association.Association.{Association}
use Rattle.sctp_association.specs.Reads.{AreReadOff, message_in}
use Rattle.sctp_channels.specs.declared.received.Received.{Received}
use Rattle.sctp_data.specs.ChunkSet.{ChunkSet}
use Rattle.sctp_data.specs.declared.chunk.chunk_payload_data.PayloadProtocolIdentifier.{PayloadProtocolIdentifier}
use Rattle.sctp_data.specs.declared.chunk.chunk_payload_data.PayloadProtocolIdentifier.TheVariants.{Dcep, String, Binary, StringEmpty, BinaryEmpty, Unknown}
use Rattle.sctp_reassembly.specs.reassembly_queue.ReassemblyQueue.{at_start}

-- ## The next message of a stream

abbrev pub is_dcep : PayloadProtocolIdentifier → Bool
is_dcep Dcep = true
is_dcep String = false
is_dcep Binary = false
is_dcep StringEmpty = false
is_dcep BinaryEmpty = false
is_dcep Unknown = false

-- it is one of RFC 8832
abbrev pub is_control : Option ChunkSet → Bool
is_control None = false
is_control (Some m) = is_dcep m.ppi

-- it is one of the application
abbrev pub is_data : Option ChunkSet → Bool
is_data None = false
is_data (Some m) = not (is_dcep m.ppi)

-- by its length and its payload type, as the association tells them
abbrev pub tells_data : Option (ℕ × PayloadProtocolIdentifier) → Bool
tells_data None = false
tells_data (Some p) = not (is_dcep p.1)

-- ## Messages of RFC 8832 are taken out

-- of these streams, one after the other; and nothing else has changed of what the association received
abbrev pub ReadsControl : (now : ℕ) → List ℕ → (old new : Association) → Type 0
ReadsControl now [] old new = new.inbound ≡ old.inbound
ReadsControl now (s ∷ streams) old new =
    (mid : Association) × (is_control (message_in s old.inbound) ≡ true)
    × AreReadOff now s old.inbound mid.inbound × ReadsControl now streams mid new

-- so it is of some streams: no message of the application is taken out
pub record TakesControl (now : ℕ) (old new : Association) : Type 0 where
  pub streams : List ℕ
  pub reads : ReadsControl now streams old new

-- so it is of this stream alone, so many times
pub record TakesControlOf (now stream : ℕ) (old new : Association) : Type 0 where
  pub count : ℕ
  pub reads : ReadsControl now (replicate count stream) old new

-- ## A message of the application is read

-- Messages of RFC 8832 that stand before it are taken out, and then it is: the next one of the stream, whole. Where none is read none is next.
abbrev pub ReadsNext : (now stream : ℕ) → (old new : Association) → Option Received → Type 0
ReadsNext now stream old new None =
    TakesControlOf now stream old new × (is_data (message_in stream new.inbound) ≡ false)
ReadsNext now stream old new (Some m) =
    (mid : Association) × TakesControlOf now stream old mid
    × (is_data (message_in stream mid.inbound) ≡ true)
    × (Some m.chunks ≡ option_map at_start (message_in stream mid.inbound))
    × AreReadOff now stream mid.inbound new.inbound
