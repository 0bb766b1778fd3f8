-- The channels of an association as a list, in the order in which they were opened (RFC 8831 6, 8832 6).
use Rattle.std.specs.Prelude.{◌≡◌, ℕ, ◌%◌, ◌≤◌, ◌==◌, Bool, true, false, not, ◌&&◌, ◌||◌, if◌then◌else◌, List, [], ◌∷◌, ◌++◌, map, find, Option, Some, None}
use Rattle.std.specs.List.{list_any, list_all}
use Rattle.sctp_channels.specs.declared.channel.Channel.{Channel}
use Rattle.sctp_channels.specs.declared.channel.News.{News}
use Rattle.sctp_channels.specs.declared.channel.News.TheVariants.{Known, Readable, OursReset, PeersReset}
use Rattle.sctp_channels.specs.declared.channel.News.TheVariants as news
use Rattle.sctp_channels.specs.declared.channel.Stage.{Stage}
use Rattle.sctp_channels.specs.declared.channel.Stage.TheVariants.{Opening, Open, Closing}
use Rattle.sctp_dcep.specs.declared.message.Open as request
use Rattle.sctp_dcep.specs.declared.side.Side.{Side}
use Rattle.sctp_dcep.specs.Side.{first_of}

-- ## Which channel a stream has

abbrev pub is_on : ℕ → Channel → Bool
is_on stream c = c.stream == stream

-- the first channel of the stream
abbrev pub channel_on : ℕ → List Channel → Option Channel
channel_on stream list = find (is_on stream) list

abbrev pub has_channel : ℕ → List Channel → Bool
has_channel stream list = list_any (is_on stream) list

-- no two channels have one stream
abbrev pub is_once : List Channel → Bool
is_once [] = true
is_once (c ∷ list) = not (has_channel c.stream list) && is_once list

-- ## Which number is next

-- the side may choose the number, by whether it is even
abbrev pub is_of : Side → ℕ → Bool
is_of side stream = stream % 2 == first_of side

-- the least number that the side may choose and that has no channel; the last stream is 65,534 (RFC 9260 3.3.2)
pub record IsNextFree (side : Side) (list : List Channel) (stream : ℕ) : Type 0 where
  pub own : is_of side stream ≡ true
  pub within : stream ≤ 65534
  pub free : has_channel stream list ≡ false
  pub least : (n : ℕ) → is_of side n ≡ true → has_channel n list ≡ false → stream ≤ n

-- each number that the side may choose has a channel
abbrev pub IsFull : Side → List Channel → Type 0
IsFull side list = (n : ℕ) → n ≤ 65534 → is_of side n ≡ true → has_channel n list ≡ true

-- ## What becomes of a channel

-- a channel as it is asked for, of which nothing is to be told
abbrev pub asked_for : ℕ → Stage → request.Open → Channel
asked_for stream stage o = record {
  stream = stream;
  stage = stage;
  label = o.label;
  protocol = o.protocol;
  unordered = o.unordered;
  reliability = o.reliability;
  value = o.value;
  is_new = false;
  is_acknowledged = false;
  is_readable = false;
  ours_is_reset = false;
  peers_is_reset = false;
}

abbrev pub is_closing : Stage → Bool
is_closing Opening = false
is_closing Open = false
is_closing Closing = true

-- it takes messages
abbrev pub takes_messages : Option Channel → Bool
takes_messages None = false
takes_messages (Some c) = not (is_closing c.stage)

-- ## What is noted of a channel

abbrev pub noted : News → Channel → Channel
noted Known c = record c { stage = Open; is_acknowledged = true }
noted Readable c = record c { is_readable = true }
noted news.Closing c = record c { stage = Closing }
noted OursReset c = record c { ours_is_reset = true }
noted PeersReset c = record c { peers_is_reset = true; stage = Closing }

-- that of the channel of the stream, if it has one
abbrev pub note_on : ℕ → News → List Channel → List Channel
note_on stream n [] = []
note_on stream n (c ∷ list) =
    if is_on stream c then noted n c ∷ list else c ∷ note_on stream n list

abbrev pub is_reset : Channel → Bool
is_reset c = c.ours_is_reset && c.peers_is_reset

abbrev pub has_news : Channel → Bool
has_news c = c.is_new || (c.is_acknowledged || (c.is_readable || is_reset c))

-- ## What a call of the peer's messages leaves

-- a channel without its stage and what is to be told of it: its stream, label, protocol and mode
abbrev pub as_asked : Channel → Channel
as_asked c = record c {
  stage = Open;
  is_new = false;
  is_acknowledged = false;
  is_readable = false;
  ours_is_reset = false;
  peers_is_reset = false;
}

abbrev pub asked : List Channel → List Channel
asked list = map as_asked list

-- it is on a number that the other side chooses
abbrev pub is_peers : Side → Channel → Bool
is_peers side c = not (is_of side c.stream)

-- Each channel stays, with its stream, label, protocol and mode; behind them stand new ones, which the peer opened, on its own numbers.
pub record Gains (side : Side) (old new : List Channel) : Type 0 where
  pub gained : List Channel
  pub are : asked new ≡ asked old ++ asked gained
  pub peers : list_all (is_peers side) gained ≡ true
