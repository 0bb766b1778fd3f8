-- What waits to be told is not lost.
use Rattle.std.proofs.Common.{◌≡◌, ◌⊎◌, ℕ, Bool, true, false, ◌&&◌, ◌||◌, cond, List, [], ◌∷◌, ◌++◌, inl, inr, refl, sym, subst}
use Rattle.sctp_channels.specs.Channels.{is_on, note_on, noted}
use Rattle.sctp_channels.specs.Waiting.{KeepsNews, waits_in, waits_on}
use Rattle.sctp_channels.specs.declared.channel.Channel.{Channel}
use Rattle.sctp_channels.specs.declared.channel.News.{News}
use Rattle.sctp_channels.specs.declared.channel.News.TheVariants as news
use Rattle.sctp_channels.specs.declared.event.ChannelEvent.{ChannelEvent}
use Rattle.sctp_channels.specs.declared.event.ChannelEvent.TheVariants.{Opened, Acknowledged, Readable, Closed, Association as Told}

-- ## Tests

pub or_parts : (a b : Bool) → a || b ≡ true → (a ≡ true) ⊎ (b ≡ true)
or_parts true b h = inl refl
or_parts false b h = inr h

pub or_left : (a b : Bool) → a ≡ true → a || b ≡ true
or_left true b h = refl
or_left false b h = cc

pub or_right : (a b : Bool) → b ≡ true → a || b ≡ true
or_right true b h = refl
or_right false b h = h

pub and_left : (a b : Bool) → a && b ≡ true → a ≡ true
and_left true b h = refl
and_left false b h = h

pub and_right : (a b : Bool) → a && b ≡ true → b ≡ true
and_right true b h = h
and_right false b h = cc

and_both : (a b : Bool) → a ≡ true → b ≡ true → a && b ≡ true
and_both true b h k = k
and_both false b h k = cc

-- ## What is noted

set_last : (a b : Bool) → a && b ≡ true → a && true ≡ true
set_last a b h = and_both a true (and_left a b h) refl

set_first : (a b c : Bool) → a && (b && c) ≡ true → a && (true && c) ≡ true
set_first a b c h = and_both a c (and_left a (b && c) h) (and_right b c (and_right a (b && c) h))

set_second : (a b c : Bool) → a && (b && c) ≡ true → a && (b && true) ≡ true
set_second a b c h = and_both a (b && true) (and_left a (b && c) h) (set_last b c (and_right a (b && c) h))

noted_waits : (e : ChannelEvent) (n : News) (c : Channel) → waits_on e c ≡ true → waits_on e (noted n c) ≡ true
noted_waits (Opened s) news.Known c h = h
noted_waits (Opened s) news.Readable c h = h
noted_waits (Opened s) news.Closing c h = h
noted_waits (Opened s) news.OursReset c h = h
noted_waits (Opened s) news.PeersReset c h = h
noted_waits (Acknowledged s) news.Known c h = set_last (is_on s c) c.is_acknowledged h
noted_waits (Acknowledged s) news.Readable c h = h
noted_waits (Acknowledged s) news.Closing c h = h
noted_waits (Acknowledged s) news.OursReset c h = h
noted_waits (Acknowledged s) news.PeersReset c h = h
noted_waits (Readable s) news.Known c h = h
noted_waits (Readable s) news.Readable c h = set_last (is_on s c) c.is_readable h
noted_waits (Readable s) news.Closing c h = h
noted_waits (Readable s) news.OursReset c h = h
noted_waits (Readable s) news.PeersReset c h = h
noted_waits (Closed s) news.Known c h = h
noted_waits (Closed s) news.Readable c h = h
noted_waits (Closed s) news.Closing c h = h
noted_waits (Closed s) news.OursReset c h = set_first (is_on s c) c.ours_is_reset c.peers_is_reset h
noted_waits (Closed s) news.PeersReset c h = set_second (is_on s c) c.ours_is_reset c.peers_is_reset h
noted_waits (Told x) news.Known c h = h
noted_waits (Told x) news.Readable c h = h
noted_waits (Told x) news.Closing c h = h
noted_waits (Told x) news.OursReset c h = h
noted_waits (Told x) news.PeersReset c h = h

note_waits : (e : ChannelEvent) (s : ℕ) (n : News) (xs : List Channel) → waits_in e xs ≡ true → waits_in e (note_on s n xs) ≡ true
note_waits e s n [] h = h
note_waits e s n (c ∷ xs) h = by (is_on s c) (or_parts (waits_on e c) (waits_in e xs) h) (noted_waits e n c) (note_waits e s n xs)
  where
    by : (b : Bool) → (waits_on e c ≡ true) ⊎ (waits_in e xs ≡ true) → (waits_on e c ≡ true → waits_on e (noted n c) ≡ true)
        → (waits_in e xs ≡ true → waits_in e (note_on s n xs) ≡ true) → waits_in e (cond b (noted n c ∷ xs) (c ∷ note_on s n xs)) ≡ true
    by true (inl here) note rest = or_left (waits_on e (noted n c)) (waits_in e xs) (note here)
    by true (inr there) note rest = or_right (waits_on e (noted n c)) (waits_in e xs) there
    by false (inl here) note rest = or_left (waits_on e c) (waits_in e (note_on s n xs)) here
    by false (inr there) note rest = or_right (waits_on e c) (waits_in e (note_on s n xs)) (rest there)

pub news_noted : (s : ℕ) (n : News) (xs : List Channel) → KeepsNews xs (note_on s n xs)
news_noted s n xs e h = note_waits e s n xs h

push_waits : (e : ChannelEvent) (xs ys : List Channel) → waits_in e xs ≡ true → waits_in e (xs ++ ys) ≡ true
push_waits e [] ys h = cc
push_waits e (c ∷ xs) ys h = by (or_parts (waits_on e c) (waits_in e xs) h) (push_waits e xs ys)
  where
    by : (waits_on e c ≡ true) ⊎ (waits_in e xs ≡ true) → (waits_in e xs ≡ true → waits_in e (xs ++ ys) ≡ true) → waits_on e c || waits_in e (xs ++ ys) ≡ true
    by (inl here) rest = or_left (waits_on e c) (waits_in e (xs ++ ys)) here
    by (inr there) rest = or_right (waits_on e c) (waits_in e (xs ++ ys)) (rest there)

pub news_pushed : (xs ys : List Channel) → KeepsNews xs (xs ++ ys)
news_pushed xs ys e h = push_waits e xs ys h

pub news_same : (xs ys : List Channel) → ys ≡ xs → KeepsNews xs ys
news_same xs ys same e h = subst (λ (l : List Channel). waits_in e l ≡ true) (sym same) h

pub news_more : (xs ys zs : List Channel) → KeepsNews xs ys → KeepsNews ys zs → KeepsNews xs zs
news_more xs ys zs a b e h = b e (a e h)
