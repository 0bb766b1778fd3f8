-- Steps lose nothing that waits to be told.
use Rattle.std.proofs.Common.{◌^◌, ◌≡◌, ◌⊎◌, ◌||◌, ℕ, Bool, true, false, cond, List, [], ◌∷◌, find, Option, Some, None, inl, inr, refl, ap, sym, ◌∙◌, subst}
use Rattle.std.proofs.Common.{arith}
use Rattle.std.specs.Prelude.{MatchBool, Result, Ok, Err}
use Rattle.std.specs.List.{list_any}
use Rattle.std.specs.Option.{option_map}
use Rattle.std.proofs.lemmas.Bool.Decides.{nat_tests}
use Rattle.sctp_association.specs.declared.association.Association.{Association}
use Rattle.sctp_association.specs.declared.event.Event.{Event}
use Rattle.sctp_association.specs.declared.event.Event.TheVariants as event
use Rattle.sctp_channels.proofs.Waiting.{and_left, and_right, news_more, news_noted, news_pushed, news_same, or_left, or_parts, or_right}
use Rattle.sctp_channels.specs.Answers.{Polls, after_told, event_of, next_told, told_once}
use Rattle.sctp_channels.specs.Channels.{channel_on, has_news, is_on, is_reset, note_on}
use Rattle.sctp_channels.specs.Dcep.{Accepts, Closes, FollowsDcep, KnowsOf, may_open, opening}
use Rattle.sctp_association.specs.Calls.{is_resettable}
use Rattle.sctp_channels.specs.Sends.{IsAsked}
use Rattle.sctp_channels.specs.Steps.{AreSteps, AsksOwed, Comes, FollowsHeld, HeldMessage, IsStep, State, Step, after_event, told_by}
use Rattle.sctp_channels.specs.Steps.{asks, begins, follows, learns, looks, reads, takes}
use Rattle.sctp_channels.specs.Waiting.{IsLast, KeepsNews, KeepsOthers, waits_in, waits_on}
use Rattle.sctp_channels.specs.declared.channel.Channel.{Channel}
use Rattle.sctp_channels.specs.declared.channel.News.TheVariants as news
use Rattle.sctp_channels.specs.declared.event.ChannelEvent.{ChannelEvent}
use Rattle.sctp_channels.specs.declared.event.ChannelEvent.TheVariants.{Opened, Acknowledged, Readable, Closed, Association as Told}
use Rattle.sctp_dcep.specs.declared.fault.Fault as dcep
use Rattle.sctp_dcep.specs.declared.message.Message.{Message}
use Rattle.sctp_dcep.specs.declared.message.Message.TheVariants as message
use Rattle.sctp_dcep.specs.declared.side.Side.{Side}

-- ## Steps

by_test : (P Q R : Type 0) (b : Bool) → MatchBool b P Q → (P → R) → (Q → R) → R
by_test P Q R true h f g = f h
by_test P Q R false h f g = g h

closes_news : (s : ℕ) (old : List Channel) (a : Association) (new : List Channel) (b : Association) → Closes s old a new b → KeepsNews old new
closes_news s old a new b h =
    by_test ((new ≡ note_on s news.Closing old) × IsAsked s a b) ((new ≡ old) × (b ≡ a)) (KeepsNews old new) (is_resettable s a) h
    (λ p. news_more old (note_on s news.Closing old) new (news_noted s news.Closing old) (news_same (note_on s news.Closing old) new p.0))
    (λ p. news_same old new p.0)

knows_news : (o : Option Channel) (s : ℕ) (old : List Channel) (a : Association) (new : List Channel) (b : Association) → KnowsOf o s old a new b
    → KeepsNews old new
knows_news None s old a new b h = news_same old new h.0
knows_news (Some c) s old a new b h = news_more old _ new (news_noted s news.Known old) (news_same _ new h.0)

dcep_news : (side : Side) (s : ℕ) (r : Result Message dcep.Fault) (old : List Channel) (a : Association) (new : List Channel) (b : Association)
    → FollowsDcep side s r old a new b → KeepsNews old new
dcep_news side s (Ok message.Ack) old a new b h = knows_news (opening (channel_on s old)) s old a new b h
dcep_news side s (Ok (message.Open o)) old a new b h =
    by_test (Accepts s o old a new b) (Closes s old a new b) (KeepsNews old new) (may_open side s old) h opens (closes_news s old a new b)
  where
    opens : Accepts s o old a new b → KeepsNews old new
    opens (inl p) = news_more old _ new (news_pushed old _) (news_same _ new p.0)
    opens (inr p) = news_same old new p.0
dcep_news side s (Err f) old a new b h = closes_news s old a new b h

list_same : (s t u : State) → t ≡ u → u.list ≡ s.list → KeepsNews s.list t.list
list_same s t u is same = news_same s.list t.list (ap (λ (z : State). z.list) is ∙ same)

list_noted : (s t u : State) → t ≡ u → KeepsNews s.list u.list → KeepsNews s.list t.list
list_noted s t u is keeps = news_more s.list u.list t.list keeps (news_same u.list t.list (ap (λ (z : State). z.list) is))

held_news : (o : Option HeldMessage) (s t : State) → FollowsHeld o s t → KeepsNews s.list t.list
held_news None s t h = list_same s t s h refl
held_news (Some m) s t h = dcep_news s.side m.stream _ s.list s.association t.list t.association h.1

owed_news : (o : Option ℕ) (s t : State) → AsksOwed o s t → KeepsNews s.list t.list
owed_news None s t h = list_same s t s h refl
owed_news (Some stream) s t h =
    let noted : State = record s { owed = None; list = note_on stream news.OursReset s.list } in
    let asked : State = record s { owed = None; association = t.association } in
    by_test ((t ≡ asked) × IsAsked stream s.association t.association) (t ≡ noted) (KeepsNews s.list t.list) (is_resettable stream s.association) h
    (λ p. list_same s t asked p.0 refl) (λ p. list_noted s t noted p (news_noted stream news.OursReset s.list))

looked_news : (b : Bool) (s : ℕ) (xs : List Channel) → KeepsNews xs (cond b (note_on s news.Readable xs) xs)
looked_news true s xs = news_noted s news.Readable xs
looked_news false s xs = news_same xs xs refl

event_news : (e : Event) (s t : State) → t ≡ after_event e s → told_by e ≡ None → KeepsNews s.list t.list
event_news event.Connected s t is none = cc
event_news event.Restarted s t is none = cc
event_news (event.Readable x) s t is none = list_same s t _ is refl
event_news (event.BufferedAmountLow x) s t is none = cc
event_news (event.ResetByUs x) s t is none = list_noted s t _ is (news_noted x news.OursReset s.list)
event_news (event.ResetRefused x) s t is none = list_noted s t _ is (news_noted x news.OursReset s.list)
event_news (event.ResetByPeer x) s t is none = list_noted s t _ is (news_noted x news.PeersReset s.list)
event_news (event.TooLong x) s t is none = cc
event_news (event.PeerError x) s t is none = cc
event_news event.Shutdown s t is none = cc
event_news (event.Closed x) s t is none = cc

step_news : (now : ℕ) (x : Step) (s t : State) → IsStep now x s t → KeepsNews s.list t.list
step_news now (reads x) s t h = list_same s t _ h.is refl
step_news now follows s t h = held_news s.held s t h
step_news now begins s t h = list_same s t _ h.is refl
step_news now (learns x) s t h = knows_news (opening (channel_on x s.list)) x s.list s.association t.list t.association h.knows
step_news now looks s t h = list_noted s t _ h.is (looked_news _ h.stream s.list)
step_news now asks s t h = owed_news s.owed s t h
step_news now (takes e) s t h = event_news e (record s { association = t.association }) t h.0.is h.1

steps_news : (now : ℕ) (xs : List Step) (s t : State) → AreSteps now xs s t → KeepsNews s.list t.list
steps_news now [] s t h = list_same s t s h refl
steps_news now (x ∷ xs) s t (mid, first, rest) = news_more s.list mid.list t.list (step_news now x s mid first) (steps_news now xs mid t rest)

pub comes_news : (now n : ℕ) (s t : State) → Comes now n s t → KeepsNews s.list t.list
comes_news now n s t comes = steps_news now comes.steps s t comes.are

-- ## What is told

on_is : (s : ℕ) (c : Channel) → is_on s c ≡ true → s ≡ c.stream
on_is s c h = grind (arith, nat_tests)

event_new : (c : Channel) → c.is_new ≡ true → event_of c ≡ Opened c.stream
event_new c n = rw n refl

event_acked : (c : Channel) → c.is_new ≡ false → c.is_acknowledged ≡ true → event_of c ≡ Acknowledged c.stream
event_acked c n a = rw (n, a) refl

event_read : (c : Channel) → c.is_new ≡ false → c.is_acknowledged ≡ false → event_of c ≡ Readable c.stream
event_read c n a = rw (n, a) refl

once_new : (c : Channel) → c.is_new ≡ true → told_once c ≡ record c { is_new = false }
once_new c n = rw n refl

once_acked : (c : Channel) → c.is_new ≡ false → c.is_acknowledged ≡ true → told_once c ≡ record c { is_acknowledged = false }
once_acked c n a = rw (n, a) refl

still : (e : ChannelEvent) (c d : Channel) → d ≡ told_once c → waits_on e d ≡ true → waits_on e (told_once c) ≡ true
still e c d same h = subst (λ (x : Channel). waits_on e x ≡ true) same h

one_told : (e : ChannelEvent) (c : Channel) → waits_on e c ≡ true → is_reset c ≡ false → (waits_on e (told_once c) ≡ true) ⊎ (event_of c ≡ e)
one_told (Opened s) c h stays = inr (event_new c (and_right (is_on s c) c.is_new h) ∙ ap Opened (sym (on_is s c (and_left (is_on s c) c.is_new h))))
one_told (Acknowledged s) c h stays = by c.is_new refl
  where
    by : (n : Bool) → c.is_new ≡ n → (waits_on (Acknowledged s) (told_once c) ≡ true) ⊎ (event_of c ≡ Acknowledged s)
    by true n = inl (still (Acknowledged s) c (record c { is_new = false }) (sym (once_new c n)) h)
    by false n = inr (event_acked c n (and_right (is_on s c) c.is_acknowledged h)
        ∙ ap Acknowledged (sym (on_is s c (and_left (is_on s c) c.is_acknowledged h))))
one_told (Readable s) c h stays = by c.is_new c.is_acknowledged refl refl
  where
    by : (n a : Bool) → c.is_new ≡ n → c.is_acknowledged ≡ a → (waits_on (Readable s) (told_once c) ≡ true) ⊎ (event_of c ≡ Readable s)
    by true a n acked = inl (still (Readable s) c (record c { is_new = false }) (sym (once_new c n)) h)
    by false true n acked = inl (still (Readable s) c (record c { is_acknowledged = false }) (sym (once_acked c n acked)) h)
    by false false n acked = inr (event_read c n acked ∙ ap Readable (sym (on_is s c (and_left (is_on s c) c.is_readable h))))
one_told (Closed s) c h stays = let reset = and_right (is_on s c) (is_reset c) h in cc
one_told (Told x) c h stays = cc

last_told : (e : ChannelEvent) (c : Channel) → waits_on e c ≡ true → IsLast e (Some (Closed c.stream)) ⊎ (Closed c.stream ≡ e)
last_told (Opened s) c h = inl (record { stream = c.stream; closed = refl; about = on_is s c (and_left (is_on s c) c.is_new h) })
last_told (Acknowledged s) c h = inl (record { stream = c.stream; closed = refl; about = on_is s c (and_left (is_on s c) c.is_acknowledged h) })
last_told (Readable s) c h = inl (record { stream = c.stream; closed = refl; about = on_is s c (and_left (is_on s c) c.is_readable h) })
last_told (Closed s) c h = inr (ap Closed (sym (on_is s c (and_left (is_on s c) (is_reset c) h))))
last_told (Told x) c h = cc

news_of : (e : ChannelEvent) (c : Channel) → waits_on e c ≡ true → has_news c ≡ true
news_of (Opened s) c h = or_left c.is_new _ (and_right (is_on s c) c.is_new h)
news_of (Acknowledged s) c h = or_right c.is_new _ (or_left c.is_acknowledged _ (and_right (is_on s c) c.is_acknowledged h))
news_of (Readable s) c h = or_right c.is_new _ (or_right c.is_acknowledged _ (or_left c.is_readable _ (and_right (is_on s c) c.is_readable h)))
news_of (Closed s) c h = or_right c.is_new _ (or_right c.is_acknowledged _ (or_right c.is_readable _ (and_right (is_on s c) (is_reset c) h)))
news_of (Told x) c h = cc

-- it waits in what is left, or it is told, or the channel is told as closed
abbrev pub IsKept : ChannelEvent → List Channel → Option ChannelEvent → Type 0
IsKept e left told = (waits_in e left ≡ true) ⊎ ((told ≡ Some e) ⊎ IsLast e told)

told_open : (e : ChannelEvent) (c : Channel) (xs : List Channel) → (waits_on e c ≡ true) ⊎ (waits_in e xs ≡ true) → is_reset c ≡ false
    → IsKept e (told_once c ∷ xs) (Some (event_of c))
told_open e c xs (inl here) stays = by (one_told e c here stays)
  where
    by : (waits_on e (told_once c) ≡ true) ⊎ (event_of c ≡ e) → IsKept e (told_once c ∷ xs) (Some (event_of c))
    by (inl waits) = inl (or_left (waits_on e (told_once c)) (waits_in e xs) waits)
    by (inr told) = inr (inl (ap Some told))
told_open e c xs (inr there) stays = inl (or_right (waits_on e (told_once c)) (waits_in e xs) there)

told_closed : (e : ChannelEvent) (c : Channel) (xs : List Channel) → (waits_on e c ≡ true) ⊎ (waits_in e xs ≡ true) → IsKept e xs (Some (Closed c.stream))
told_closed e c xs (inl here) = by (last_told e c here)
  where
    by : IsLast e (Some (Closed c.stream)) ⊎ (Closed c.stream ≡ e) → IsKept e xs (Some (Closed c.stream))
    by (inl last) = inr (inr last)
    by (inr told) = inr (inl (ap Some told))
told_closed e c xs (inr there) = inl there

pub kept_told : (e : ChannelEvent) (xs : List Channel) → waits_in e xs ≡ true → IsKept e (after_told xs) (next_told xs)
kept_told e [] h = cc
kept_told e (c ∷ xs) h = by (has_news c) (is_reset c) refl refl (or_parts (waits_on e c) (waits_in e xs) h) (kept_told e xs)
  where
    by : (n r : Bool) → has_news c ≡ n → is_reset c ≡ r → (waits_on e c ≡ true) ⊎ (waits_in e xs ≡ true)
        → (waits_in e xs ≡ true → IsKept e (after_told xs) (next_told xs)) → IsKept e (cond n (cond r xs (told_once c ∷ xs)) (c ∷ after_told xs))
        (option_map (λ (d : Channel). cond (is_reset d) (Closed d.stream) (event_of d)) (cond n (Some c) (find has_news xs)))
    by true true news reset parts rest = rw reset (told_closed e c xs parts)
    by true false news reset parts rest = rw reset (told_open e c xs parts reset)
    by false r news reset (inl here) rest = let has = news_of e c here in absurd (cc)
    by false r news reset (inr there) rest = more (rest there)
      where
        more : IsKept e (after_told xs) (next_told xs) → IsKept e (c ∷ after_told xs) (next_told xs)
        more (inl left) = inl (or_right (waits_on e c) (waits_in e (after_told xs)) left)
        more (inr told) = inr told

or_false : (a b : Bool) → a || b ≡ false → (a ≡ false) × (b ≡ false)
or_false true b h = cc
or_false false b h = (refl, h)

silent_news : (e : ChannelEvent) (xs : List Channel) → list_any has_news xs ≡ false → waits_in e xs ≡ true → ⊥
silent_news e [] silent h = cc
silent_news e (c ∷ xs) silent h = by (or_false (has_news c) (list_any has_news xs) silent) (or_parts (waits_on e c) (waits_in e xs) h) (silent_news e xs)
  where
    by : (has_news c ≡ false) × (list_any has_news xs ≡ false) → (waits_on e c ≡ true) ⊎ (waits_in e xs ≡ true)
        → (list_any has_news xs ≡ false → waits_in e xs ≡ true → ⊥) → ⊥
    by (none, rest) (inl here) more = let has : has_news c ≡ true = news_of e c here in let never : true ≡ false = sym has ∙ none in cc
    by (none, rest) (inr there) more = more rest there

kept_as : (e : ChannelEvent) (xs ys : List Channel) (o : Option ChannelEvent) (told : ChannelEvent) → IsKept e xs o → ys ≡ xs → o ≡ Some told
    → IsKept e ys (Some told)
kept_as e xs ys o told kept same is =
    subst (λ (l : List Channel). IsKept e l (Some told)) (sym same) (subst (λ (p : Option ChannelEvent). IsKept e xs p) is kept)

pub polls_news : (now : ℕ) (s t : State) (told : Option ChannelEvent) → Polls now s t told → KeepsOthers s.list t.list told
polls_news now s t None (inl (comes, idle)) e h = inl (comes_news now 0 s t comes e h)
polls_news now s t None (inr comes) e h = inl (comes_news now (2 ^ 20) s t comes e h)
polls_news now s t (Some told) (mid, comes, inl of) e h =
    kept_as e (after_told mid.list) t.list (next_told mid.list) told (kept_told e mid.list (comes_news now 0 s mid comes e h))
    (ap (λ (z : State). z.list) of.is) of.next
polls_news now s t (Some told) (mid, comes, inr of) e h = absurd (silent_news e mid.list of.taken.silent (comes_news now 0 s mid comes e h))
