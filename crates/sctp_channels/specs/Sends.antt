-- What channels change in their association (RFC 8831 6.6, 6.7, 8832 5, 6).
use Rattle.std.specs.Prelude.{◌≡◌, ◌⊎◌, ℕ, Bool, true, false, List, Option, Some, None}
use Rattle.sctp_association.specs.Calls.{write_fault}
use Rattle.sctp_association.specs.Events.{BringsNone}
use Rattle.sctp_association.specs.Telling.{TellsIn}
use Rattle.sctp_association.specs.Waiting.{opened}
use Rattle.sctp_association.specs.declared.association.Association.{Association}
use Rattle.sctp_association.specs.declared.fault.Fault.{Fault}
use Rattle.sctp_association.specs.declared.fault.Fault.TheVariants as fault
use Rattle.sctp_channels.specs.Channels.{IsNextFree}
use Rattle.sctp_channels.specs.Messages.{IsHanded}
use Rattle.sctp_channels.specs.declared.channel.Channel.{Channel}
use Rattle.sctp_data.specs.declared.chunk.chunk_payload_data.PayloadProtocolIdentifier.TheVariants.{Dcep}
use Rattle.sctp_data.specs.declared.chunk.chunk_payload_data.ReliabilityType.{ReliabilityType}
use Rattle.sctp_dcep.specs.Message.{encoding}
use Rattle.sctp_dcep.specs.declared.message.Message.TheVariants as message
use Rattle.sctp_dcep.specs.declared.message.Open as request
use Rattle.sctp_dcep.specs.declared.side.Side.{Side}
use Rattle.sctp_reset.specs.Own.{after_ask}
use Rattle.sctp_sender.specs.Sender.{with_mode_on}

-- ## What stays

-- no event comes to wait, and each that waited waits still
pub record KeepsEach (old new : Association) : Type 0 where
  pub kept : TellsIn old.inbound old.events new.inbound new.events
  pub none : BringsNone old.events new.events

-- beside its sender, and the room for events, the association is as it was
pub record SendsOnly (old new : Association) : Type 0 where
  pub rest : new ≡ record old { outbound = new.outbound; events = new.events }
  pub sender : new.outbound ≡ record old.outbound { sender = new.outbound.sender }
  pub events : KeepsEach old new

-- ## The mode of a stream

-- it is set, and nothing else has changed
pub record IsModed (stream : ℕ) (unordered : Bool) (reliability : ReliabilityType) (value : ℕ)
    (old new : Association) : Type 0 where
  pub mode : new.outbound ≡ record old.outbound {
    sender = with_mode_on stream unordered reliability value (opened stream old.outbound.sender);
  }
  pub only : SendsOnly old new

-- it is set, or not yet
abbrev pub IsModedAtMost : ℕ → Bool → ReliabilityType → ℕ → (old new : Association) → Type 0
IsModedAtMost stream unordered reliability value old new =
    (new ≡ old) ⊎ IsModed stream unordered reliability value old new

-- it is set where the association has no fault to refuse it by; else nothing changes
abbrev pub ModesIf : Option Fault → ℕ → Bool → ReliabilityType → ℕ → (old new : Association)
    → Type 0
ModesIf None stream unordered reliability value old new =
    IsModed stream unordered reliability value old new
ModesIf (Some f) stream unordered reliability value old new = new ≡ old

-- where `open` refuses, the mode of the stream that it would answer may be set: in order, until the peer knows the channel
abbrev pub IsLeftByOpen : Side → List Channel → request.Open → (old new : Association) → Type 0
IsLeftByOpen side list o old new = (new ≡ old)
    ⊎ ((stream : ℕ) × IsNextFree side list stream × IsModed stream false o.reliability o.value old new)

-- ## The answer to a DATA_CHANNEL_OPEN

-- the mode of the stream is that of the request, and DATA_CHANNEL_ACK is written on it (RFC 8832 5.2, 6)
pub record IsAnswered (stream : ℕ) (o : request.Open) (old new : Association) : Type 0 where
  pub mid : Association
  pub mode : IsModed stream o.unordered o.reliability o.value old mid
  pub ack : IsHanded stream Dcep (encoding message.Ack) mid new
  pub only : SendsOnly mid new

-- a later call may be taken
abbrev pub passes : Fault → Bool
passes fault.OutOfMemory = true
passes fault.WrongState = false
passes fault.NoSuchStream = false
passes fault.MessageTooLarge = false
passes fault.Full = true
passes fault.Resetting = false
passes fault.BadConfig = false

-- the association takes no DATA_CHANNEL_ACK on the stream: it ends, has no such stream, or resets it
pub record IsUnanswered (stream : ℕ) (o : request.Open) (old new : Association) : Type 0 where
  pub fault : Fault
  pub stays : passes fault ≡ false
  pub named : write_fault stream 1 new ≡ Some fault
  pub left : IsModedAtMost stream o.unordered o.reliability o.value old new

abbrev pub AnswersIf : Bool → ℕ → request.Open → (old new : Association) → Type 0
AnswersIf true stream o old new = IsAnswered stream o old new
AnswersIf false stream o old new = IsUnanswered stream o old new

-- ## A reset

-- our direction of the stream is to be reset, and nothing else has changed (RFC 6525 5.1.2)
pub record IsAsked (stream : ℕ) (old new : Association) : Type 0 where
  pub requests : new.requests ≡ after_ask stream old.requests
  pub rest : new ≡ record old { requests = new.requests; events = new.events }
  pub events : KeepsEach old new

abbrev pub AsksIf : Bool → ℕ → (old new : Association) → Type 0
AsksIf true stream old new = IsAsked stream old new
AsksIf false stream old new = new ≡ old
