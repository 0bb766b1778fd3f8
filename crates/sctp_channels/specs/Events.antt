-- What an event says of the list (RFC 8831 6.7, 8832 6).
use Rattle.std.specs.Prelude.{◌≡◌, ℕ, Bool, true, false, MatchBool, List, [], ◌∷◌, ◌++◌, Option, Some, None}
use Rattle.sctp_association.specs.declared.event.Event.{Event}
use Rattle.sctp_association.specs.declared.event.Event.TheVariants as of
use Rattle.sctp_channels.specs.Channels.{Gains, has_channel}
use Rattle.sctp_channels.specs.declared.channel.Channel.{Channel}
use Rattle.sctp_channels.specs.declared.event.ChannelEvent.{ChannelEvent}
use Rattle.sctp_channels.specs.declared.event.ChannelEvent.TheVariants.{Opened, Acknowledged, Readable, Closed, Association}
use Rattle.sctp_dcep.specs.declared.side.Side.{Side}

-- it is told of the channel of this stream, which stays
abbrev pub IsAbout : ℕ → ChannelEvent → Type 0
IsAbout stream (Opened s) = s ≡ stream
IsAbout stream (Acknowledged s) = s ≡ stream
IsAbout stream (Readable s) = s ≡ stream
IsAbout stream (Closed s) = ⊥
IsAbout stream (Association e) = ⊥

-- the channel of the stream is taken out, and both directions of the stream were reset
pub record IsTakenOut (stream : ℕ) (old new : List Channel) : Type 0 where
  pub before : List Channel
  pub channel : Channel
  pub behind : List Channel
  pub was : old ≡ before ++ channel ∷ behind
  pub is : new ≡ before ++ behind
  pub stream_is : channel.stream ≡ stream
  pub ours : channel.ours_is_reset ≡ true
  pub peers : channel.peers_is_reset ≡ true

-- the association ends, or the peer begins again
abbrev pub is_end : Event → Bool
is_end of.Connected = false
is_end of.Restarted = true
is_end (of.Readable s) = false
is_end (of.BufferedAmountLow s) = false
is_end (of.ResetByUs s) = false
is_end (of.ResetRefused s) = false
is_end (of.ResetByPeer s) = false
is_end (of.TooLong s) = false
is_end (of.PeerError c) = false
is_end of.Shutdown = false
is_end (of.Closed e) = true

-- no channel is left then; else none goes
abbrev pub IsLeft : Side → List Channel → List Channel → Event → Type 0
IsLeft side old new e = MatchBool (is_end e) (new ≡ []) (Gains side old new)

-- the list has the channel of which it is told
pub record IsTold (side : Side) (old new : List Channel) (stream : ℕ) : Type 0 where
  pub gains : Gains side old new
  pub there : has_channel stream new ≡ true

-- a channel that is closed was in the list, and no other goes
pub record IsClosed (side : Side) (old new : List Channel) (stream : ℕ) : Type 0 where
  pub last : List Channel
  pub gains : Gains side old last
  pub out : IsTakenOut stream last new

-- so of each event
abbrev pub Tells : Side → List Channel → List Channel → ChannelEvent → Type 0
Tells side old new (Opened s) = IsTold side old new s
Tells side old new (Acknowledged s) = IsTold side old new s
Tells side old new (Readable s) = IsTold side old new s
Tells side old new (Closed s) = IsClosed side old new s
Tells side old new (Association e) = IsLeft side old new e

-- and where nothing is told none goes
abbrev pub TellsMaybe : Side → List Channel → List Channel → Option ChannelEvent → Type 0
TellsMaybe side old new None = Gains side old new
TellsMaybe side old new (Some e) = Tells side old new e
