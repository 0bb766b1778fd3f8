-- What is told, of a list at a place.
use Rattle.std.proofs.Common.{◌≡◌, ℕ, suc, ◌<◌, Bool, true, false, ◌&&◌, List, ◌++◌, length, get_or, set, take, drop, refl, ◌∙◌, subst, [], Result, Ok, Err}
use Rattle.std.proofs.Common.{arith}
use Rattle.std.specs.Prelude.{MatchBool, OnErr}
use Rattle.std.proofs.lemmas.List.{get_or_default}
use Rattle.sctp_channels.proofs.Gaining.{gains_same, gains_more}
use Rattle.sctp_channels.proofs.Lists.{asked_set, has_at, has_same, split_at}
use Rattle.sctp_channels.specs.Channels.{Gains, as_asked, is_reset}
use Rattle.sctp_channels.specs.Events.{IsAbout, IsClosed, IsTold, Tells, is_end}
use Rattle.sctp_channels.specs.declared.channel.Channel.{Channel}
use Rattle.sctp_channels.specs.declared.event.ChannelEvent.{ChannelEvent}
use Rattle.sctp_channels.specs.declared.event.ChannelEvent.TheVariants.{Opened, Acknowledged, Readable, Closed, Association}
use Rattle.sctp_dcep.specs.declared.side.Side.{Side}

told_at : (side : Side) (xs : List Channel) (i : ℕ) (c d : Channel) → i < length xs → c ≡ get_or xs i c → as_asked d ≡ as_asked c
    → IsTold side xs (set xs i d) c.stream
told_at side xs i c d h is same = let stays = asked_set xs i c d h is same in record {
  gains = gains_same side xs (set xs i d) stays;
  there = has_same c.stream xs (set xs i d) stays ∙ has_at xs i c h is;
}

pub tells_at : (side : Side) (xs : List Channel) (i : ℕ) (c d : Channel) (e : ChannelEvent) → i < length xs → c ≡ get_or xs i c → as_asked d ≡ as_asked c
    → IsAbout c.stream e → Tells side xs (set xs i d) e
tells_at side xs i c d (Opened s) h is same about = rw about (told_at side xs i c d h is same)
tells_at side xs i c d (Acknowledged s) h is same about = rw about (told_at side xs i c d h is same)
tells_at side xs i c d (Readable s) h is same about = rw about (told_at side xs i c d h is same)
tells_at side xs i c d (Closed s) h is same about = absurd about
tells_at side xs i c d (Association e) h is same about = absurd about

reset_parts : (a b : Bool) → a && b ≡ true → (a ≡ true) × (b ≡ true)
reset_parts true b h = (refl, h)
reset_parts false b h = cc

-- a channel with both directions reset is taken out
pub closed_at : (side : Side) (xs : List Channel) (i : ℕ) (c d : Channel) → i < length xs → c ≡ get_or xs i c → d ≡ get_or xs i d → is_reset d ≡ true
    → IsClosed side xs (take i xs ++ drop (suc i) xs) c.stream
closed_at side xs i c d h is is-d reset =
    let same : c ≡ d = grind (arith, get_or_default xs i c d h) in
    let parts = reset_parts d.ours_is_reset d.peers_is_reset reset in
    record {
      last = xs;
      gains = gains_same side xs xs refl;
      out = record {
        before = take i xs;
        channel = c;
        behind = drop (suc i) xs;
        was = split_at xs i c h is;
        is = refl;
        stream_is = refl;
        ours = rw same parts.0;
        peers = rw same parts.1;
      };
    }

left_then : (side : Side) (old mid new : List Channel) (b : Bool) → Gains side old mid → MatchBool b (new ≡ []) (Gains side mid new)
    → MatchBool b (new ≡ []) (Gains side old new)
left_then side old mid new true first next = next
left_then side old mid new false first next = gains_more side old mid new first next

tells_more : (side : Side) (old mid new : List Channel) (e : ChannelEvent) → Gains side old mid → Tells side mid new e → Tells side old new e
tells_more side old mid new (Opened s) first next = record { gains = gains_more side old mid new first next.gains; there = next.there }
tells_more side old mid new (Acknowledged s) first next = record { gains = gains_more side old mid new first next.gains; there = next.there }
tells_more side old mid new (Readable s) first next = record { gains = gains_more side old mid new first next.gains; there = next.there }
tells_more side old mid new (Closed s) first next = record { last = next.last; gains = gains_more side old mid next.last first next.gains; out = next.out }
tells_more side old mid new (Association e) first next = left_then side old mid new (is_end e) first next

-- from one call to the next one
pub tells_then : (a b : Side) (old mid new : List Channel) (e : ChannelEvent) → Gains a old mid → b ≡ a → Tells b mid new e → Tells a old new e
tells_then a b old mid new e first same next = tells_more a old mid new e first (subst (λ s. Tells s mid new e) same next)

pub always_err : {T E P : Type 0} (r : Result T E) → P → OnErr r P
always_err (Ok x) p = tt
always_err (Err e) p = p
