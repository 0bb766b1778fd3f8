-- A channel that the peer knows waits for no DATA_CHANNEL_ACK.
use Rattle.std.proofs.Common.{◌≡◌, ℕ, Bool, true, false, cond, List, [], ◌∷◌, find, None, refl}
use Rattle.sctp_channels.specs.Channels.{channel_on, is_on, note_on, noted}
use Rattle.sctp_channels.specs.Dcep.{opening}
use Rattle.sctp_channels.specs.declared.channel.Channel.{Channel}
use Rattle.sctp_channels.specs.declared.channel.News.TheVariants.{Known}

pub known_noted : (s : ℕ) (xs : List Channel) → opening (channel_on s (note_on s Known xs)) ≡ None
known_noted s [] = refl
known_noted s (c ∷ xs) = by (is_on s c) refl (known_noted s xs)
  where
    by : (b : Bool) → is_on s c ≡ b → opening (channel_on s (note_on s Known xs)) ≡ None
        → opening (find (is_on s) (cond b (noted Known c ∷ xs) (c ∷ note_on s Known xs))) ≡ None
    by true on rest = rw on refl
    by false on rest = rw on rest
