-- What went on the data channels of an association (RFC 8831).
use Rattle.std.specs.Prelude.{◌≡◌, ℕ, ◌-◌, ◌%◌, Bool, false, ◌==◌, ◌||◌, if◌then◌else◌, List, [], ◌∷◌, ◌++◌, length, take, slice_index_or, Option, Some, None, is_some}
use Rattle.std.specs.BTreeMap as trees
use Rattle.std.specs.BTreeMap.{BTreeMap}
use Rattle.std.specs.Ordering.{nat_cmp}
use Rattle.sctp_chunks.specs.Framing.{flags_at}
use Rattle.sctp_show.specs.Filter.{payload_type_of}
use Rattle.sctp_show.specs.declared.dcep.Open.{Open}
use Rattle.sctp_follow.specs.Flow.{counted, payload_length}
use Rattle.sctp_follow.specs.declared.packet.Arrived.{Arrived}
use Rattle.sctp_follow.specs.declared.associations.Way.{Way}
use Rattle.sctp_follow.specs.declared.associations.Way.TheVariants.{Forth, Back}
use Rattle.sctp_follow.specs.declared.channels.Event.{Event}
use Rattle.sctp_follow.specs.declared.channels.Event.TheVariants.{First, Again, Abandoned}
use Rattle.sctp_follow.specs.declared.channels.Carried.{Carried}
use Rattle.sctp_follow.specs.declared.channels.Opening.{Opening}
use Rattle.sctp_follow.specs.declared.channels.Closing.{Closing}
use Rattle.sctp_follow.specs.declared.channels.Channel.{Channel}
use Rattle.sctp_follow.specs.declared.channels.Stream.{Stream}

-- ---- a channel

-- what a DATA_CHANNEL_OPEN says (RFC 8832 5.1)
pub record IsOpening (said : Open) (towards : Way) (came : Arrived) (o : Opening) : Type 0 where
  pub way : o.way ≡ towards
  pub arrived : o.arrived ≡ came
  pub channel_type : o.channel_type ≡ said.channel_type
  pub priority : o.priority ≡ said.priority
  pub reliability : o.reliability ≡ said.reliability
  pub label : o.label.items ≡ said.label.now
  pub protocol : o.protocol.items ≡ said.protocol.now

abbrev pub nothing : Carried
nothing = record { messages = 0; bytes = 0; again = 0; abandoned = 0 }

-- a channel of which nothing is known
abbrev pub unknown : Channel
unknown = record { opening = None; closing = None; forth = nothing; back = nothing }

-- what went one way, with one chunk more
abbrev pub carried_with : Event → Carried → Carried
carried_with (First is_last bytes) c =
    record c { messages = counted c.messages (if is_last then 1 else 0); bytes = counted c.bytes bytes }
carried_with Again c = record c { again = counted c.again 1 }
carried_with Abandoned c = record c { abandoned = counted c.abandoned 1 }

-- the payload type of an empty message, for which one byte stands (RFC 8831 6.6)
abbrev pub is_empty_type : Option ℕ → Bool
is_empty_type None = false
is_empty_type (Some typ) = (typ == 56) || (typ == 57)

-- what DATA or I-DATA counts as that is sent for the first time: the last chunk of a message has the flag `E`
abbrev pub first_of : List ℕ → Event
first_of bytes =
    First (flags_at bytes % 2 == 1)
    (if is_empty_type (payload_type_of bytes) then 0 else payload_length bytes)

-- the channel, with one chunk more that goes this way
abbrev pub channel_with : Way → Event → Channel → Channel
channel_with Forth event c = record c { forth = carried_with event c.forth }
channel_with Back event c = record c { back = carried_with event c.back }

-- the first request to reset its stream closes a channel (RFC 8831 6.7)
abbrev pub closed_by : Closing → Channel → Channel
closed_by closing c = record c { closing = if is_some c.closing then c.closing else Some closing }

-- ---- the channels of a stream, in the order in which they were opened

abbrev pub channels_of : Option Stream → List Channel
channels_of None = []
channels_of (Some s) = s.earlier.items ++ s.last ∷ []

-- the last one; of a stream that is not known, one of which nothing is known
abbrev pub last_of : List Channel → Channel
last_of channels = slice_index_or channels (length channels - 1) unknown

-- the last one becomes another one
abbrev pub with_last : List Channel → Channel → List Channel
with_last channels c = take (length channels - 1) channels ++ c ∷ []

-- a chunk is one of the last channel
abbrev pub noted : Way → Event → List Channel → List Channel
noted way event channels = with_last channels (channel_with way event (last_of channels))

-- a DATA_CHANNEL_OPEN says what the last channel is, of which only chunks were known; one that was opened or closed stays, and another one begins
abbrev pub opened : Opening → List Channel → List Channel
opened opening channels =
    if is_some (last_of channels).opening || is_some (last_of channels).closing
    then channels ++ record unknown { opening = Some opening } ∷ []
    else with_last channels (record (last_of channels) { opening = Some opening })

-- a request to reset a stream that is known closes its last channel
abbrev pub closed : Closing → List Channel → List Channel
closed closing channels =
    if length channels == 0 then [] else with_last channels (closed_by closing (last_of channels))

-- the same, where its last channel is known
abbrev pub stream_closed : Closing → Stream → Stream
stream_closed closing s = record s { last = closed_by closing s.last }

-- ---- those of all streams

-- the channels of one stream become these, and those of each other one stay
abbrev pub Become : ℕ → List Channel → BTreeMap ℕ Stream → BTreeMap ℕ Stream → Type 0
Become stream channels old new =
    (s : ℕ) → channels_of (trees.get nat_cmp new s)
    ≡ (if s == stream then channels else channels_of (trees.get nat_cmp old s))

abbrev pub Stay : BTreeMap ℕ Stream → BTreeMap ℕ Stream → Type 0
Stay old new = (s : ℕ) → channels_of (trees.get nat_cmp new s) ≡ channels_of (trees.get nat_cmp old s)
