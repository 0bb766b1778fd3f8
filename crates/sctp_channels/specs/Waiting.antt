-- What waits to be told of channels.
use Rattle.std.specs.Prelude.{◌≡◌, ◌⊎◌, ℕ, Bool, true, false, ◌&&◌, List, Option, Some}
use Rattle.std.specs.List.{list_any}
use Rattle.sctp_channels.specs.Channels.{is_on, is_reset}
use Rattle.sctp_channels.specs.Events.{IsAbout}
use Rattle.sctp_channels.specs.declared.channel.Channel.{Channel}
use Rattle.sctp_channels.specs.declared.event.ChannelEvent.{ChannelEvent}
use Rattle.sctp_channels.specs.declared.event.ChannelEvent.TheVariants.{Opened, Acknowledged, Readable, Closed, Association}

-- the event is to be told of this channel
abbrev pub waits_on : ChannelEvent → Channel → Bool
waits_on (Opened s) c = is_on s c && c.is_new
waits_on (Acknowledged s) c = is_on s c && c.is_acknowledged
waits_on (Readable s) c = is_on s c && c.is_readable
waits_on (Closed s) c = is_on s c && is_reset c
waits_on (Association e) c = false

-- of a channel of the list
abbrev pub waits_in : ChannelEvent → List Channel → Bool
waits_in e list = list_any (waits_on e) list

-- each that waited waits still
abbrev pub KeepsNews : (old new : List Channel) → Type 0
KeepsNews old new = (e : ChannelEvent) → waits_in e old ≡ true → waits_in e new ≡ true

-- a channel is told as closed, and this event is of that channel
pub record IsLast (e : ChannelEvent) (told : Option ChannelEvent) : Type 0 where
  pub stream : ℕ
  pub closed : told ≡ Some (Closed stream)
  pub about : IsAbout stream e

-- Each that waited waits still, but the one that is told. Of a channel that is told as closed nothing more is told.
abbrev pub KeepsOthers : (old new : List Channel) → Option ChannelEvent → Type 0
KeepsOthers old new told = (e : ChannelEvent) → waits_in e old ≡ true
    → (waits_in e new ≡ true) ⊎ ((told ≡ Some e) ⊎ IsLast e told)
