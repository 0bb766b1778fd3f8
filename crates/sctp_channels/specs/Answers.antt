-- What `poll` and `read` answer.
use Rattle.std.specs.Prelude.{◌≡◌, ◌⊎◌, ℕ, ◌^◌, true, false, if◌then◌else◌, List, [], ◌∷◌, find, Option, Some, None}
use Rattle.std.specs.List.{list_any}
use Rattle.std.specs.Option.{option_map}
use Rattle.sctp_association.specs.Events.{NoneWaits}
use Rattle.sctp_association.specs.Reads.{AreReadOff, IsSameBeside, message_in}
use Rattle.sctp_association.specs.declared.event.Event.{Event}
use Rattle.sctp_channels.specs.Channels.{has_news, is_reset}
use Rattle.sctp_channels.specs.Dcep.{IsKnownOn}
use Rattle.sctp_channels.specs.Reading.{is_data}
use Rattle.sctp_channels.specs.Steps.{Comes, IsSettled, IsTaken, State, told_by}
use Rattle.sctp_channels.specs.declared.channel.Channel.{Channel}
use Rattle.sctp_channels.specs.declared.event.ChannelEvent.{ChannelEvent}
use Rattle.sctp_channels.specs.declared.event.ChannelEvent.TheVariants.{Opened, Acknowledged, Readable, Closed}
use Rattle.sctp_channels.specs.declared.received.Received.{Received}
use Rattle.sctp_reassembly.specs.reassembly_queue.ReassemblyQueue.{at_start}

-- ## What is told of a channel

-- of one that is not closed: that it is open, or that the peer knows it, before that a message can be read
abbrev pub event_of : Channel → ChannelEvent
event_of c =
    if c.is_new then Opened c.stream
    else (if c.is_acknowledged then Acknowledged c.stream else Readable c.stream)

-- that was told
abbrev pub told_once : Channel → Channel
told_once c =
    if c.is_new then record c { is_new = false }
    else (if c.is_acknowledged then record c { is_acknowledged = false }
    else record c { is_readable = false })

-- once both directions are reset it is closed
abbrev pub told_of : Channel → ChannelEvent
told_of c = if is_reset c then Closed c.stream else event_of c

-- of the first channel of which something is to be told
abbrev pub next_told : List Channel → Option ChannelEvent
next_told list = option_map told_of (find has_news list)

-- that was told; a channel that is closed is taken out
abbrev pub after_told : List Channel → List Channel
after_told [] = []
after_told (c ∷ list) =
    if has_news c then (if is_reset c then list else told_once c ∷ list) else c ∷ after_told list

-- ## Polls

-- an event of a channel waited, or one of the association did
pub record IsOfChannel (s t : State) (told : ChannelEvent) : Type 0 where
  pub next : next_told s.list ≡ Some told
  pub is : t ≡ record s { list = after_told s.list }

pub record IsOfAssociation (s t : State) (told : ChannelEvent) : Type 0 where
  pub event : Event
  pub taken : IsTaken event s t
  pub passed : told_by event ≡ Some told

-- nothing is left to do, and nothing waits to be told
pub record IsIdle (s : State) : Type 0 where
  pub settled : IsSettled s
  pub silent : list_any has_news s.list ≡ false
  pub events : NoneWaits s.association.events

-- Steps are made, and then what waits is told. None is answered where nothing waits, or once 2^20 messages and events were taken.
abbrev pub Polls : (now : ℕ) → (s t : State) → Option ChannelEvent → Type 0
Polls now s t None = (Comes now 0 s t × IsIdle t) ⊎ Comes now (2 ^ 20) s t
Polls now s t (Some told) = (mid : State) × Comes now 0 s mid
    × (IsOfChannel mid t told ⊎ IsOfAssociation mid t told)

-- ## Reads

-- the message of the application that is next is taken out; the peer knows the channel
pub record IsRead (now stream : ℕ) (s t : State) (m : Received) : Type 0 where
  pub application : is_data (message_in stream s.association.inbound) ≡ true
  pub known : IsKnownOn stream s.list
  pub message : Some m.chunks ≡ option_map at_start (message_in stream s.association.inbound)
  pub is : t ≡ record s { association = t.association }
  pub read : AreReadOff now stream s.association.inbound t.association.inbound
  pub beside : IsSameBeside s.association t.association

-- Steps are made, and then it is read. None is answered where no message is next, or once 2^20 messages were taken.
abbrev pub ReadsOn : (now stream : ℕ) → (s t : State) → Option Received → Type 0
ReadsOn now stream s t None =
    (Comes now 0 s t × (message_in stream t.association.inbound ≡ None)) ⊎ Comes now (2 ^ 20) s t
ReadsOn now stream s t (Some m) = (mid : State) × Comes now 0 s mid × IsRead now stream mid t m
