-- What a message of RFC 8832 makes of the list and of the association (RFC 8832 5, 6, RFC 8831 6.7).
use Rattle.std.specs.Prelude.{◌≡◌, ◌⊎◌, ℕ, Bool, true, false, MatchBool, not, ◌&&◌, if◌then◌else◌, List, [], ◌∷◌, ◌++◌, Option, Some, None, Result, Ok, Err}
use Rattle.sctp_association.specs.Calls.{is_resettable, use_fault}
use Rattle.sctp_association.specs.declared.association.Association.{Association}
use Rattle.sctp_channels.specs.Channels.{asked_for, channel_on, has_channel, is_of, note_on}
use Rattle.sctp_channels.specs.Sends.{IsAnswered, IsAsked, IsUnanswered, ModesIf}
use Rattle.sctp_channels.specs.declared.channel.Channel.{Channel}
use Rattle.sctp_channels.specs.declared.channel.News.TheVariants as news
use Rattle.sctp_channels.specs.declared.channel.Stage.{Stage}
use Rattle.sctp_channels.specs.declared.channel.Stage.TheVariants.{Opening, Open, Closing}
use Rattle.sctp_dcep.specs.declared.fault.Fault as dcep
use Rattle.sctp_dcep.specs.declared.message.Message.{Message}
use Rattle.sctp_dcep.specs.declared.message.Message.TheVariants as message
use Rattle.sctp_dcep.specs.declared.message.Open as request
use Rattle.sctp_dcep.specs.declared.side.Side.{Side}

-- ## The protocol is violated

-- the stream is to be reset, and its channel, if it has one, closes; where the association takes no reset of it nothing changes
abbrev pub Closes : ℕ → List Channel → Association → List Channel → Association → Type 0
Closes stream old a new b = MatchBool (is_resettable stream a)
    ((new ≡ note_on stream news.Closing old) × IsAsked stream a b)
    ((new ≡ old) × (b ≡ a))

-- ## The peer knows a channel

abbrev pub is_opening : Stage → Bool
is_opening Opening = true
is_opening Open = false
is_opening Closing = false

-- the channel, where this side asked for it and nothing came on it yet
abbrev pub opening : Option Channel → Option Channel
opening None = None
opening (Some c) = if is_opening c.stage then Some c else None

-- no channel of the stream waits for DATA_CHANNEL_ACK
abbrev pub IsKnownOn : ℕ → List Channel → Type 0
IsKnownOn stream list = opening (channel_on stream list) ≡ None

-- it is open, its mode is that of its stream from now on, and that is to be told
abbrev pub KnowsOf : Option Channel → ℕ → List Channel → Association → List Channel → Association
    → Type 0
KnowsOf None stream old a new b = (new ≡ old) × (b ≡ a)
KnowsOf (Some c) stream old a new b = (new ≡ note_on stream news.Known old)
    × ModesIf (use_fault stream a) stream c.unordered c.reliability c.value a b

abbrev pub Knows : ℕ → List Channel → Association → List Channel → Association → Type 0
Knows stream old a new b = KnowsOf (opening (channel_on stream old)) stream old a new b

-- ## The peer opens a channel

-- on a number of its own, that has none
abbrev pub may_open : Side → ℕ → List Channel → Bool
may_open side stream list = not (is_of side stream) && not (has_channel stream list)

-- the channel as the peer asks for it: it is open, and that is to be told
abbrev pub opened_by : ℕ → request.Open → Channel
opened_by stream o = record (asked_for stream Open o) { is_new = true }

-- it stands behind the others, and DATA_CHANNEL_ACK answers; where the association can't take that, no channel comes
abbrev pub Accepts : ℕ → request.Open → List Channel → Association → List Channel → Association
    → Type 0
Accepts stream o old a new b =
    ((new ≡ old ++ opened_by stream o ∷ []) × IsAnswered stream o a b)
    ⊎ ((new ≡ old) × IsUnanswered stream o a b)

-- ## A message that came on a stream, as it is read

abbrev pub FollowsDcep : Side → ℕ → Result Message dcep.Fault → List Channel → Association
    → List Channel → Association → Type 0
FollowsDcep side stream (Ok message.Ack) old a new b = Knows stream old a new b
FollowsDcep side stream (Ok (message.Open o)) old a new b = MatchBool (may_open side stream old)
    (Accepts stream o old a new b) (Closes stream old a new b)
FollowsDcep side stream (Err f) old a new b = Closes stream old a new b
