-- What is done, step by step, with what comes to the channels (RFC 8831 6.7, 8832 6).
use Rattle.std.specs.Prelude.{◌≡◌, ℕ, ◌+◌, ◌≤◌, true, false, MatchBool, nat_lt, if◌then◌else◌, List, [], ◌∷◌, length, take, Option, Some, None, Ok, is_some}
use Rattle.std.specs.List.{list_any}
use Rattle.sctp_association.specs.Calls.{is_resettable, write_fault}
use Rattle.sctp_association.specs.declared.fault.Fault.{Fault}
use Rattle.sctp_association.specs.Events as events
use Rattle.sctp_association.specs.Reads.{AreReadOff, IsSameBeside, message_in}
use Rattle.sctp_association.specs.declared.association.Association.{Association}
use Rattle.sctp_association.specs.declared.event.Event.{Event}
use Rattle.sctp_association.specs.declared.event.Event.TheVariants as event
use Rattle.sctp_association.specs.declared.inbound.Inbound.{Inbound}
use Rattle.sctp_channels.specs.Channels.{channel_on, has_news, note_on, takes_messages}
use Rattle.sctp_channels.specs.Dcep.{FollowsDcep, IsKnownOn, Knows, may_open}
use Rattle.sctp_channels.specs.Reading.{is_control, is_data}
use Rattle.sctp_channels.specs.Sends.{IsAsked, IsModed}
use Rattle.sctp_channels.specs.declared.channel.Channel.{Channel}
use Rattle.sctp_channels.specs.declared.channel.News.TheVariants as news
use Rattle.sctp_channels.specs.declared.channels.Channels.{Channels}
use Rattle.sctp_channels.specs.declared.channels.Held.{Held}
use Rattle.sctp_channels.specs.declared.event.ChannelEvent.{ChannelEvent}
use Rattle.sctp_channels.specs.declared.event.ChannelEvent.TheVariants as told
use Rattle.sctp_data.specs.ChunkSet.{ChunkSet}
use Rattle.sctp_dcep.specs.Message.{read_of}
use Rattle.sctp_dcep.specs.declared.message.Message.TheVariants as message
use Rattle.sctp_dcep.specs.declared.message.Open as request
use Rattle.sctp_dcep.specs.declared.side.Side.{Side}
use Rattle.sctp_reassembly.specs.reassembly_queue.Fragments.{payload_of}

-- ## The channels and their association

-- a message that was read, and is still to be followed
pub record HeldMessage : Type 0 where
  pub stream : ℕ
  pub bytes : List ℕ

abbrev pub held_of : Option Held → Option HeldMessage
held_of None = None
held_of (Some h) = Some (record { stream = h.stream; bytes = h.raw.items })

-- the list; a message that is held; the stream whose arrivals are to be looked at; the stream of which a reset is owed
pub record State : Type 0 where
  pub side : Side
  pub most_name : ℕ
  pub list : List Channel
  pub held : Option HeldMessage
  pub arrived : Option ℕ
  pub owed : Option ℕ
  pub association : Association

abbrev pub state_of : Channels → Association → State
state_of c a = record {
  side = c.side;
  most_name = c.most_name;
  list = c.channels.items;
  held = held_of c.held;
  arrived = c.arrived;
  owed = c.owed;
  association = a;
}

-- ## A message of RFC 8832

-- of a message whose label and protocol are too long the first byte is kept; it is then faulty, or a DATA_CHANNEL_ACK (RFC 8832 5.2)
abbrev pub kept_of : (most : ℕ) → List ℕ → List ℕ
kept_of most bytes = if nat_lt (most + 12) (length bytes) then take 1 bytes else bytes

abbrev pub bytes_next : (most : ℕ) → Option ChunkSet → List ℕ
bytes_next most None = []
bytes_next most (Some m) = kept_of most (payload_of m.chunks)

-- the next message of the stream is taken out, and held; none was held before
pub record IsHeld (now stream : ℕ) (s t : State) : Type 0 where
  pub none : s.held ≡ None
  pub control : is_control (message_in stream s.association.inbound) ≡ true
  pub is : t ≡ record s {
    held = Some (record {
      stream = stream;
      bytes = bytes_next s.most_name (message_in stream s.association.inbound);
    });
    association = t.association;
  }
  pub read : AreReadOff now stream s.association.inbound t.association.inbound
  pub beside : IsSameBeside s.association t.association

-- the message that is held is followed, and held no more
abbrev pub FollowsHeld : Option HeldMessage → (s t : State) → Type 0
FollowsHeld None s t = t ≡ s
FollowsHeld (Some h) s t =
    (t ≡ record s { list = t.list; held = None; association = t.association })
    × FollowsDcep s.side h.stream (read_of h.bytes) s.list s.association t.list t.association

-- It is a DATA_CHANNEL_OPEN that may open a channel. The mode of the stream is set, and the message is held still.
pub record IsBegun (s t : State) : Type 0 where
  pub held : HeldMessage
  pub wanted : request.Open
  pub holds : s.held ≡ Some held
  pub reads : read_of held.bytes ≡ Ok (message.Open wanted)
  pub may : may_open s.side held.stream s.list ≡ true
  pub is : t ≡ record s { association = t.association }
  pub mode : IsModed held.stream wanted.unordered wanted.reliability wanted.value
      s.association t.association

-- a message of the application is next on the stream: the peer knows the channel (RFC 8832 6)
pub record IsKnown (stream : ℕ) (s t : State) : Type 0 where
  pub application : is_data (message_in stream s.association.inbound) ≡ true
  pub is : t ≡ record s { list = t.list; association = t.association }
  pub knows : Knows stream s.list s.association t.list t.association

-- why the association takes no DATA_CHANNEL_ACK for the message that is held
abbrev pub held_fault : Option HeldMessage → Association → Option Fault
held_fault None a = None
held_fault (Some h) a = write_fault h.stream 1 a

-- ## What an event of the association makes

-- where a message can be read, that is to be told
abbrev pub looked : ℕ → Option Inbound → List Channel → List Channel
looked stream i list = if is_some (message_in stream i) then note_on stream news.Readable list else list

-- The arrivals on a stream are looked at, once its messages of RFC 8832 are followed. Where a message of the application is next, the peer knows the
-- channel.
pub record IsLooked (s t : State) : Type 0 where
  pub stream : ℕ
  pub was : s.arrived ≡ Some stream
  pub none : s.held ≡ None
  pub followed : is_control (message_in stream s.association.inbound) ≡ false
  pub known : is_data (message_in stream s.association.inbound) ≡ true → IsKnownOn stream s.list
  pub is : t ≡ record s { list = looked stream s.association.inbound s.list; arrived = None }

-- The reset that is owed is asked for. Where the association takes no reset of the stream, there is nothing left to reset.
abbrev pub AsksOwed : Option ℕ → (s t : State) → Type 0
AsksOwed None s t = t ≡ s
AsksOwed (Some stream) s t = MatchBool (is_resettable stream s.association)
    ((t ≡ record s { owed = None; association = t.association })
    × IsAsked stream s.association t.association)
    (t ≡ record s { owed = None; list = note_on stream news.OursReset s.list })

-- the peer closes the channel: this side owes a reset, but where it closes the channel too (RFC 8831 6.7)
abbrev pub owed_by : ℕ → List Channel → Option ℕ → Option ℕ
owed_by stream list owed = if takes_messages (channel_on stream list) then Some stream else owed

abbrev pub after_event : Event → State → State
after_event event.Connected s = s
after_event event.Restarted s = record s { list = [] }
after_event (event.Readable stream) s = record s { arrived = Some stream }
after_event (event.BufferedAmountLow stream) s = s
after_event (event.ResetByUs stream) s = record s { list = note_on stream news.OursReset s.list }
after_event (event.ResetRefused stream) s =
    record s { list = note_on stream news.OursReset s.list }
after_event (event.ResetByPeer stream) s = record s {
  list = note_on stream news.PeersReset s.list;
  owed = owed_by stream s.list s.owed;
}
after_event (event.TooLong stream) s = s
after_event (event.PeerError cause) s = s
after_event event.Shutdown s = s
after_event (event.Closed how) s = record s { list = [] }

-- what is told at once; what is of a stream that can be read, or is reset, becomes an event of a channel
abbrev pub told_by : Event → Option ChannelEvent
told_by event.Connected = Some (told.Association event.Connected)
told_by event.Restarted = Some (told.Association event.Restarted)
told_by (event.Readable stream) = None
told_by (event.BufferedAmountLow stream) =
    Some (told.Association (event.BufferedAmountLow stream))
told_by (event.ResetByUs stream) = None
told_by (event.ResetRefused stream) = None
told_by (event.ResetByPeer stream) = None
told_by (event.TooLong stream) = Some (told.Association (event.TooLong stream))
told_by (event.PeerError cause) = Some (told.Association (event.PeerError cause))
told_by event.Shutdown = Some (told.Association event.Shutdown)
told_by (event.Closed how) = Some (told.Association (event.Closed how))

-- nothing is held, owed, or to be looked at
pub record IsSettled (s : State) : Type 0 where
  pub held : s.held ≡ None
  pub arrived : s.arrived ≡ None
  pub owed : s.owed ≡ None

-- the association tells an event, where nothing else is left to do or to tell
pub record IsTaken (e : Event) (s t : State) : Type 0 where
  pub settled : IsSettled s
  pub silent : list_any has_news s.list ≡ false
  pub told : events.IsTold s.association.events t.association.events e
  pub others : events.KeepsOthers s.association.events t.association.events (Some e)
  pub adds : events.BringsNone s.association.events t.association.events
  pub rest : t.association ≡ record s.association { events = t.association.events }
  pub is : t ≡ after_event e (record s { association = t.association })

-- ## Steps

pub data Step : Type 0 where
  reads : ℕ → Step
  follows : Step
  begins : Step
  learns : ℕ → Step
  looks : Step
  asks : Step
  takes : Event → Step

abbrev pub IsStep : (now : ℕ) → Step → (s t : State) → Type 0
IsStep now (reads stream) s t = IsHeld now stream s t
IsStep now follows s t = FollowsHeld s.held s t
IsStep now begins s t = IsBegun s t
IsStep now (learns stream) s t = IsKnown stream s t
IsStep now looks s t = IsLooked s t
IsStep now asks s t = AsksOwed s.owed s t
IsStep now (takes e) s t = IsTaken e s t × (told_by e ≡ None)

-- one after the other
abbrev pub AreSteps : (now : ℕ) → List Step → (s t : State) → Type 0
AreSteps now [] s t = t ≡ s
AreSteps now (x ∷ steps) s t = (mid : State) × IsStep now x s mid × AreSteps now steps mid t

-- a message is taken out, or the association tells an event
abbrev pub takes_one : Step → ℕ
takes_one (reads stream) = 1
takes_one follows = 0
takes_one begins = 0
takes_one (learns stream) = 0
takes_one looks = 0
takes_one asks = 0
takes_one (takes e) = 1

abbrev pub taken_by : List Step → ℕ
taken_by [] = 0
taken_by (x ∷ steps) = takes_one x + taken_by steps

-- by steps alone, of which at least so many take a message or an event
pub record Comes (now least : ℕ) (s t : State) : Type 0 where
  pub steps : List Step
  pub are : AreSteps now steps s t
  pub many : least ≤ taken_by steps
