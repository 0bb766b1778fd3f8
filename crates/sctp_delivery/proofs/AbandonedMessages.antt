-- Which messages the calls of a sender abandon (RFC 3758 3.5): only of these is a chunk in flight abandoned, and only behind a fragment of
-- these stands a terminal chunk.
use Rattle.sctp_delivery.proofs.Names.{common_steps, ◌≡◌, ℕ, ◌+◌, ◌%◌, ◌^◌, Bool, true, false, List, [], ◌∷◌, ◌++◌, length, map, Option, Some, None, is_some}
use Rattle.sctp_delivery.proofs.Names.{inl, inr, refl, ap, sym, subst, ◌∙◌, arith, ◌<◌, ◌≤◌, ◌==◌, if◌then◌else◌, find, option_map, option_to_list, nat_eq}
use Rattle.sctp_delivery.proofs.Names.{◌&&◌, ◌||◌, none-some, nat_tests, change_where, or-left, or-right, same-is, same-yes, some-same, or-split}
use Rattle.sctp_delivery.proofs.Names.{list_any-append, not_both, and, both, fails, ChunkPayloadData, Sack, is_of, Outbound, abandoned_of, all_started, as_sent}
use Rattle.sctp_delivery.proofs.Names.{sent_of, to_abandon, expired_of, expiring, expiring_tail, is_expired, is_expired_tail, message_of, passing, Pending}
use Rattle.sctp_delivery.proofs.Names.{next_pending, rest_after, without, without_message, partially_sent, waits, IsSendable, stage_of, peeked_all_started}
use Rattle.sctp_delivery.proofs.Names.{last_is_of, following_tsn, has_tsn, AbandonedMessage, Flight, after_abandonment, after_sack, message_to_abandon}
use Rattle.sctp_delivery.proofs.Names.{abandoned_at, abandoned_each, abandoned_with, leaving_at, leaving_each, late_order, worn_order, fragments_with_mode}
use Rattle.sctp_delivery.proofs.Names.{Transmission, written_to, started-inflight, found-partial, abandoned_by, SenderCall, SenderFollows, Session, list_any}
use Rattle.sctp_delivery.proofs.Names.{cases_lt, data_of, OutboundStream, or_false}
use Rattle.std.proofs.Common.{◌⊎◌}
use Rattle.sctp_outbound.specs.payload_queue.PayloadQueue as payload
use Rattle.sctp_delivery.specs.SenderCalls as outgoing
use Rattle.sctp_delivery.proofs.Cases.{all_streams}
use Rattle.sctp_delivery.proofs.Every.{Every, every-changed, every-inserted, every-joined, every-left, every-of, every-passing, every-taken}
use Rattle.sctp_delivery.proofs.PassedMessages.{AreCutGone, EndsGone, is_gone}
use Rattle.sctp_delivery.proofs.Calls.{sent_by, numbered_after}
use Rattle.sctp_delivery.proofs.Delivered.{HoldsOn}
use Rattle.sctp_delivery.proofs.Numbers.{number_of}
use Rattle.sctp_delivery.proofs.Queues.{Abandons, IsEnded, Stands, StandsOn, abandoned, nowhere-none, IsOnceMore, started}
use Rattle.sctp_delivery.proofs.SackSteps.{message-inflight, sack-next}
use Rattle.sctp_delivery.proofs.Senders.{IsMoreBy}
use Rattle.sctp_delivery.proofs.Sending.{QueuedOn}
use Rattle.sctp_delivery.proofs.Sent.{Entry, Numbered, fragment, terminal}
use Rattle.sctp_delivery.proofs.ValidMarks.{IsFresh, IsUnmarked, fresh-started}
use Rattle.sctp_delivery.proofs.Waiting.{between}
use Rattle.sctp_delivery.proofs.Writing.{accepted-stream}
use Rattle.sctp_delivery.proofs.QueueChunks.{peeked}
use Rattle.sctp_delivery.proofs.Changes.{Change, all_start, acknowledges, changes, each_leaves, flight_after, front_expires, more_room, nothing, one_leaves}
use Rattle.sctp_delivery.proofs.Changes.{partial-found, some_marked, some_missed}
use Rattle.std.specs.List.{find}
use Rattle.sctp_outbound.proofs.lemmas.pending_queue.CompleteMessages.{none_past}
use Rattle.sctp_delivery.proofs.AllBegun.{begins_in, is_begun, next-or-stays, starts-keep, still-begun, write-begins, write-keeps}
use Rattle.sctp_delivery.proofs.Begun.{begins, begins-changed, was_begun, next-any}

-- ## Numbers

abbrev pub flight_of : Session → Flight
flight_of s = s.sending.sender.flight

abbrev pub numbers : List AbandonedMessage → List ℕ
numbers answered = map (λ a. a.number) answered

pub gone-left : (xs ys : List ℕ) (m : ℕ) → is_gone xs m ≡ true → is_gone (xs ++ ys) m ≡ true
gone-left xs ys m e = list_any-append (nat_eq m) xs ys ∙ or-left (is_gone xs m) (is_gone ys m) e

pub gone-right : (xs ys : List ℕ) (m : ℕ) → is_gone ys m ≡ true → is_gone (xs ++ ys) m ≡ true
gone-right xs ys m e = list_any-append (nat_eq m) xs ys ∙ or-right (is_gone xs m) (is_gone ys m) e

pub numbers-append : (xs ys : List AbandonedMessage) → numbers (xs ++ ys) ≡ numbers xs ++ numbers ys
numbers-append [] ys = refl
numbers-append (x ∷ xs) ys = ap (λ zs. x.number ∷ zs) (numbers-append xs ys)

pub one-gone : (m : ℕ) (o : Option ℕ) → o ≡ Some m → is_gone (option_to_list o) m ≡ true
one-gone m None e = absurd (none-some m e)
one-gone m (Some k) e = or-left (nat_eq m k) false (subst (λ j. (m == j) ≡ true) (sym (some-same e)) (same-yes m))

-- the messages of these TSNs are among those that are gone
abbrev pub AreAmong : List ℕ → List ℕ → Type 0
AreAmong answered gone = (m : ℕ) → is_gone answered m ≡ true → is_gone gone m ≡ true

pub among-first : (tsn : ℕ) (tsns : List ℕ) (f : Flight) (gone : List ℕ) → AreAmong (numbers (leaving_each (tsn ∷ tsns) f)) gone
    → (m : ℕ) → message_to_abandon tsn f ≡ Some m → is_gone gone m ≡ true
among-first tsn tsns f gone a m e = grind (arith, nat_tests)

pub among-rest : (tsn : ℕ) (tsns : List ℕ) (f : Flight) (gone : List ℕ) → AreAmong (numbers (leaving_each (tsn ∷ tsns) f)) gone
    → AreAmong (numbers (leaving_each tsns (abandoned_at tsn f))) gone
among-rest tsn tsns f gone a m e = grind (arith, nat_tests)

-- ## What is in flight

-- a chunk is abandoned only where its message is gone
abbrev pub IsMarkedGone : List ℕ → ChunkPayloadData → Type 0
IsMarkedGone gone c = c.abandoned ≡ true → is_gone gone c.message_id ≡ true

abbrev pub AreMarkedGone : List ℕ → List ChunkPayloadData → Type 0
AreMarkedGone gone cs = Every (IsMarkedGone gone) cs

pub marked-later : (gone more : List ℕ) → AreAmong gone more → (cs : List ChunkPayloadData) → AreMarkedGone gone cs → AreMarkedGone more cs
marked-later gone more a cs h = every-of (IsMarkedGone gone) (IsMarkedGone more) (λ c m e. a c.message_id (m e)) cs h

module _ (gone : List ℕ) where
  -- a change by which none is abandoned, and none is of another message
  marked-changed : (p : ChunkPayloadData → Bool) (f : ChunkPayloadData → ChunkPayloadData) → ((c : ChunkPayloadData) → (f c).abandoned ≡ c.abandoned)
      → ((c : ChunkPayloadData) → (f c).message_id ≡ c.message_id) → (cs : List ChunkPayloadData) → AreMarkedGone gone cs
      → AreMarkedGone gone (change_where p f cs)
  marked-changed p f same own cs h =
      every-changed (IsMarkedGone gone) p f (λ c _ m e. ap (is_gone gone) (own c) ∙ m (sym (same c) ∙ e)) cs h

  abandoned-marked : (o : Option ℕ) (tsn : ℕ) (q : Outbound) → ((m : ℕ) → o ≡ Some m → is_gone gone m ≡ true) → AreMarkedGone gone q.inflight.chunks
      → AreMarkedGone gone (abandoned_of o tsn q).inflight.chunks
  abandoned-marked None tsn q g h = h
  abandoned-marked (Some m) tsn q g h = grind (arith, nat_tests, every-changed, every-inserted, last_is_of, same-is)

  each-marked : (tsns : List ℕ) (f : Flight) → AreAmong (numbers (leaving_each tsns f)) gone → AreMarkedGone gone f.queue.inflight.chunks
      → AreMarkedGone gone (abandoned_each tsns f).queue.inflight.chunks
  each-marked [] f a h = h
  each-marked (tsn ∷ tsns) f a h =
      each-marked tsns (abandoned_at tsn f) (among-rest tsn tsns f gone a)
      (abandoned-marked (message_to_abandon tsn f) f.next_tsn f.queue (among-first tsn tsns f gone a) h)

  sent-marked : (o : Option ChunkPayloadData) (q : Outbound) (tsn now : ℕ) → ((c : ChunkPayloadData) → o ≡ Some c → c.abandoned ≡ false)
      → AreMarkedGone gone q.inflight.chunks → AreMarkedGone gone (sent_of o q tsn now).inflight.chunks
  sent-marked o q tsn now h5 h6 = grind (arith, nat_tests, every-inserted, not_both)

  acked-marked : (k : Sack) (f : Flight) → AreMarkedGone gone f.queue.inflight.chunks → AreMarkedGone gone (after_sack k f).queue.inflight.chunks
  acked-marked k f h = grind (arith, nat_tests, every-passing, marked-changed)

-- after a call
module _ (gone : List ℕ) (old new : Session) (fresh : IsFresh (flight_of old).queue) (h : AreMarkedGone gone (flight_of old).queue.inflight.chunks) where
  marked-to : (t : Transmission) → new.sending.sender ≡ t → AreMarkedGone gone t.flight.queue.inflight.chunks
      → AreMarkedGone gone (flight_of new).queue.inflight.chunks
  marked-to t e m = subst (λ (u : Transmission). AreMarkedGone gone u.flight.queue.inflight.chunks) (sym e) m

  changed-marked : (call : SenderCall) → AreAmong (abandoned_by call old.sending.sender) gone → (c : Change call old.sending.sender)
      → AreMarkedGone gone (flight_after call old.sending.sender c).queue.inflight.chunks
  changed-marked call a nothing = h
  changed-marked call a (all_start now) = subst (λ (i : payload.Payload). AreMarkedGone gone i.chunks) (sym (started-inflight now (flight_of old).queue)) h
  changed-marked call a (more_room count) = h
  changed-marked call a (some_marked p f k) = grind (arith, nat_tests, marked-changed)
  changed-marked call a (some_missed count) = grind (arith, nat_tests, every-joined, every-left, every-taken, marked-changed)
  changed-marked call a (one_leaves o e found) =
      abandoned-marked gone o (flight_of old).next_tsn (flight_of old).queue (λ m i. a m (ap (λ ms. is_gone ms m) e ∙ one-gone m o i)) h
  changed-marked call a (each_leaves ts short e) =
      each-marked gone ts (flight_of old) (subst (λ ms. AreAmong ms gone) e a) h
  changed-marked call a (front_expires now c found e) = h
  changed-marked call a (acknowledges k answered e) = acked-marked gone k (flight_of old) h

  pub stays-marked : (call : SenderCall) → AreAmong (abandoned_by call old.sending.sender) gone → SenderFollows call old new
      → AreMarkedGone gone (flight_of new).queue.inflight.chunks
  stays-marked (outgoing.writes stream ppi (b ∷ bs)) a f =
      let l = accepted-stream stream (length (b ∷ bs)) old.sending.sender f.accepted in
      marked-to _ (f.exact.1 (omega arith) l.0 l.1)
      (subst (λ (i : payload.Payload). AreMarkedGone gone i.chunks)
      (sym (message-inflight (fragments_with_mode l.0 ppi (b ∷ bs)) (flight_of old).queue)) h)
  stays-marked (outgoing.sends now) a f =
      let q = all_started now (flight_of old).queue in
      let v = fresh-started now (flight_of old).queue fresh in
      marked-to _ f.exact
      (sent-marked gone (next_pending q.pending) q (flight_of old).next_tsn now
      (λ c e. (peeked IsUnmarked q.pending.selected q.pending c e (v.ordered, v.unordered)).1)
      (subst (λ (i : payload.Payload). AreMarkedGone gone i.chunks) (sym (started-inflight now (flight_of old).queue)) h))
  stays-marked call a f =
      let x = changes old.sending.sender new.sending.sender call refl f.step.sender f.exact in
      subst (λ (g : Flight). AreMarkedGone gone g.queue.inflight.chunks) (sym x.flight) (changed-marked call a x.change)

-- ## Terminal chunks

-- the last entry is a fragment of the message that does not end it
abbrev EndsOpen : ℕ → List Entry → Type 0
EndsOpen m [] = ⊥
EndsOpen m (terminal ∷ xs) = ⊥
EndsOpen m (fragment d w after ∷ xs) = (d.ending_fragment ≡ false) × (w.place ≡ m)

open-gone : (gone : List ℕ) (m : ℕ) (sent : List Entry) → is_gone gone m ≡ true → EndsOpen m sent → EndsGone gone sent
open-gone gone m sent h4 h5 = grind (arith, nat_tests)

-- the last entry is of the message that is partially sent
partial-entry : (on : ℕ → Bool) (ws : List Numbered) (first : ℕ) (number : ℕ → ℕ) (q : Pending) (sent : List Entry) (m : ℕ)
    → QueuedOn on ws first number q sent
    → partially_sent q ≡ Some m → EndsOpen m sent
partial-entry on ws first number q sent m h e = grind (arith, nat_tests, between, none-some, nowhere-none, some-same)

-- where the next TSN stays, no entry is more
ended-same : (first next : ℕ) (sent more : List Entry) → next ≡ (first + length sent) % 2 ^ 32 → next ≡ (first + length more) % 2 ^ 32
    → IsEnded sent more → more ≡ sent
ended-same first next sent more a b (inl e) = e
ended-same first next sent more a b (inr e) = let n = ap length e in absurd (omega (arith, a, b, n))

module _ (on : ℕ → Bool) (gone : List ℕ) (ws : List Numbered) (first : ℕ) (number : ℕ → ℕ) (sent : List Entry) where
  -- the next TSN stays, or the last entry leaves off within a message that is gone
  abbrev EndsOrSame : Flight → Flight → Type 0
  EndsOrSame f g = (g.next_tsn ≡ f.next_tsn) ⊎ EndsGone gone sent

  abandon-cut : (o : Option ℕ) (f : Flight) → StandsOn on ws first number f.queue f.next_tsn sent
      → ((m : ℕ) → o ≡ Some m → waits m f.queue.pending ≡ true → partially_sent f.queue.pending ≡ Some m)
      → ((m : ℕ) → o ≡ Some m → is_gone gone m ≡ true) → EndsOrSame f (after_abandonment o f)
  abandon-cut None f s partial g = inl refl
  abandon-cut (Some m) f s partial g = by (waits m f.queue.pending) refl
    where
      by : (b : Bool) → waits m f.queue.pending ≡ b
          → ((if b then following_tsn f.next_tsn else f.next_tsn) ≡ f.next_tsn) ⊎ EndsGone gone sent
      by true e = inr (open-gone gone m sent (g m refl) (partial-entry on ws first number f.queue.pending sent m s.queued (partial m refl e)))
      by false e = inl refl

  -- of one message after another
  each-cut : (tsns : List ℕ) (f : Flight) → StandsOn on ws first number f.queue f.next_tsn sent → AreAmong (numbers (leaving_each tsns f)) gone
      → EndsOrSame f (abandoned_each tsns f)
  each-cut [] f s a = inl refl
  each-cut (tsn ∷ tsns) f s a = by (abandon-cut (message_to_abandon tsn f) f s partial (among-first tsn tsns f gone a))
      (λ k. each-cut tsns (abandoned_at tsn f) k (among-rest tsn tsns f gone a))
    where
      partial : (m : ℕ) → message_to_abandon tsn f ≡ Some m → waits m f.queue.pending ≡ true → partially_sent f.queue.pending ≡ Some m
      partial = found-partial f.queue s.sendable tsn (find (has_tsn tsn) f.queue.inflight.chunks) refl

      x : Abandons on ws first number sent f.queue (abandoned_at tsn f).queue (abandoned_at tsn f).next_tsn
      x = abandoned on ws first number f.queue f.next_tsn sent s (message_to_abandon tsn f) partial

      by : EndsOrSame f (abandoned_at tsn f) → (StandsOn on ws first number (abandoned_at tsn f).queue (abandoned_at tsn f).next_tsn sent
          → EndsOrSame (abandoned_at tsn f) (abandoned_each tsns (abandoned_at tsn f))) → EndsOrSame f (abandoned_each (tsn ∷ tsns) f)
      by (inr e) ih = inr e
      by (inl e) ih =
          let same = ended-same first f.next_tsn sent x.more s.counted (sym e ∙ x.stands.counted) x.ended in
          onward (ih (subst (StandsOn on ws first number (abandoned_at tsn f).queue (abandoned_at tsn f).next_tsn) same x.stands))
        where
          onward : EndsOrSame (abandoned_at tsn f) (abandoned_each tsns (abandoned_at tsn f)) → EndsOrSame f (abandoned_each (tsn ∷ tsns) f)
          onward (inl g) = inl (g ∙ e)
          onward (inr g) = inr g

pub cut-later : (gone more : List ℕ) → AreAmong gone more → (sent : List Entry) → AreCutGone gone sent → AreCutGone more sent
cut-later gone more a [] c = tt
cut-later gone more a (terminal ∷ xs) c = grind (arith, nat_tests, common_steps, cut-later gone more a xs c.1)
cut-later gone more a (fragment d w after ∷ xs) c = cut-later gone more a xs c

-- after a call
module _ (on : ℕ → Bool) (gone : List ℕ) (first : ℕ) (old new : Session) (ns : List Numbered) (sent more : List Entry)
    (i : HoldsOn on first old ns sent)
    (counted : (flight_of new).next_tsn ≡ (first + length more) % 2 ^ 32) (h : AreCutGone gone sent) where
  abbrev Cuts : Type 0
  Cuts = EndsOrSame on gone ns first (λ s. number_of s old.sending.sender.streams) sent (flight_of old) (flight_of new)

  cuts : IsEnded sent more → Cuts → AreCutGone gone more
  cuts h1 h2 = grind (arith, nat_tests)

  changed-cuts : (call : SenderCall) → AreAmong (abandoned_by call old.sending.sender) gone → (c : Change call old.sending.sender)
      → EndsOrSame on gone ns first (λ s. number_of s old.sending.sender.streams) sent (flight_of old) (flight_after call old.sending.sender c)
  changed-cuts call a nothing = inl refl
  changed-cuts call a (all_start now) = inl refl
  changed-cuts call a (more_room count) = inl refl
  changed-cuts call a (some_marked p f k) = inl refl
  changed-cuts call a (some_missed count) = inl refl
  changed-cuts call a (one_leaves o e found) =
      abandon-cut on gone ns first (λ s. number_of s old.sending.sender.streams) sent o (flight_of old) i.held.stands
      (partial-found old.sending.sender i.held.stands.sendable o found) (λ m k. a m (ap (λ ms. is_gone ms m) e ∙ one-gone m o k))
  changed-cuts call a (each_leaves ts short e) =
      each-cut on gone ns first (λ s. number_of s old.sending.sender.streams) sent ts (flight_of old) i.held.stands (subst (λ ms. AreAmong ms gone) e a)
  changed-cuts call a (front_expires now c found e) = inl refl
  changed-cuts call a (acknowledges k answered e) = inl (sack-next k (flight_of old))

  pub stays-cut : (call : SenderCall) → AreAmong (abandoned_by call old.sending.sender) gone → SenderFollows call old new
      → IsMoreBy (sent_by call old.sending.sender) sent more → AreCutGone gone more
  stays-cut (outgoing.sends now) a f grown = grind (arith, nat_tests, cuts, is_some, peeked_all_started)
  stays-cut (outgoing.writes stream ppi (b ∷ bs)) a f g =
      let l = accepted-stream stream (length (b ∷ bs)) old.sending.sender f.accepted in
      cuts g (inl (ap (λ (u : Transmission). u.flight.next_tsn) (f.exact.1 (omega arith) l.0 l.1)))
  stays-cut call a f g =
      let x = changes old.sending.sender new.sending.sender call refl f.step.sender f.exact in
      cuts g (subst (EndsOrSame on gone ns first (λ s. number_of s old.sending.sender.streams) sent (flight_of old)) (sym x.flight)
      (changed-cuts call a x.change))

-- # No write is lost before its first fragment is sent, whatever is abandoned: that was sent, or it waits, or the message was abandoned

-- of each of the first n writes the first fragment got a TSN or waits, or the message is gone
abbrev pub AreBegunOrGone : List ℕ → ℕ → List Entry → Pending → Type 0
AreBegunOrGone gone n sent q = (m : ℕ) → m < n → is_gone gone m ≡ false → is_begun m sent q ≡ true

-- the first fragments that wait wait still, but of messages that are gone
abbrev KeepsOthers : List ℕ → Pending → Pending → Type 0
KeepsOthers gone p q = (m : ℕ) → is_gone gone m ≡ false → begins_in m p ≡ true → begins_in m q ≡ true

-- what is not gone now was not gone before
earlier : (gone more : List ℕ) → AreAmong gone more → (m : ℕ) → is_gone more m ≡ false → is_gone gone m ≡ false
earlier gone more a m e = fails (is_gone gone m) (λ h. not_both (sym e ∙ a m h))

kept-others : (gone : List ℕ) (n : ℕ) (sent more : List Entry) (p q : Pending) → IsOnceMore sent more → KeepsOthers gone p q
    → AreBegunOrGone gone n sent p → AreBegunOrGone gone n more q
kept-others gone n sent more p q once keeps a m lt e = grind (arith, nat_tests)

pub begun-later : (gone more : List ℕ) → AreAmong gone more → (n : ℕ) (sent : List Entry) (q : Pending) → AreBegunOrGone gone n sent q
    → AreBegunOrGone more n sent q
begun-later gone more a n sent q b m lt e = b m lt (earlier gone more a m e)

-- ## A message leaves

-- the first fragments of other messages stay
others-begin : (k m : ℕ) → (k ≡ m → ⊥) → (cs : List ChunkPayloadData) → list_any (begins k) cs ≡ true → list_any (begins k) (without_message m cs) ≡ true
others-begin k m other [] e = e
others-begin k m other (c ∷ cs) e = grind (arith, nat_tests, others-begin k m other cs)

without-keeps : (k m : ℕ) → (k ≡ m → ⊥) → (q : Pending) → begins_in k q ≡ true → begins_in k (without m q) ≡ true
without-keeps k m other q e = grind (arith, nat_tests, or-left, or-right, or-split, others-begin)

module _ (gone : List ℕ) where
  apart-from : (m : ℕ) → is_gone gone m ≡ true → (k : ℕ) → is_gone gone k ≡ false → k ≡ m → ⊥
  apart-from m g k e same = not_both (sym e ∙ ap (is_gone gone) same ∙ g)

  abandon-keeps : (o : Option ℕ) (tsn : ℕ) (q : Outbound) → ((m : ℕ) → o ≡ Some m → is_gone gone m ≡ true)
      → KeepsOthers gone q.pending (abandoned_of o tsn q).pending
  abandon-keeps None tsn q g k e h = h
  abandon-keeps (Some m) tsn q g k e h = without-keeps k m (apart-from m (g m refl) k e) q.pending h

  each-keeps : (tsns : List ℕ) (f : Flight) → AreAmong (numbers (leaving_each tsns f)) gone
      → KeepsOthers gone f.queue.pending (abandoned_each tsns f).queue.pending
  each-keeps [] f a k e h = h
  each-keeps (tsn ∷ tsns) f a k e h =
      each-keeps tsns (abandoned_at tsn f) (among-rest tsn tsns f gone a) k e
      (abandon-keeps (message_to_abandon tsn f) f.next_tsn f.queue (among-first tsn tsns f gone a) k e h)

  expire-keeps : (c : ChunkPayloadData) (q : Outbound) → is_gone gone c.message_id ≡ true → KeepsOthers gone q.pending (expired_of (Some c) q).pending
  expire-keeps c q g k e h = grind (arith, nat_tests, apart-from, begins-changed, without-keeps)

-- ## A call

module _ (on : ℕ → Bool) (gone : List ℕ) (first : ℕ) (old new : Session) (ns : List Numbered) (sent more : List Entry)
    (i : HoldsOn on first old ns sent) (once : IsOnceMore sent more) (h : AreBegunOrGone gone (length ns) sent (flight_of old).queue.pending) where
  abbrev Begins : SenderCall → Type 0
  Begins call = AreBegunOrGone gone (length (numbered_after call ns)) more (flight_of new).queue.pending

  -- the first fragment that is sent gets its entry
  sends-begun : (now : ℕ) (o : Option ChunkPayloadData) → next_pending (all_started now (flight_of old).queue).pending ≡ o
      → IsMoreBy (option_map (as_sent (flight_of old).next_tsn now) o) sent more
      → AreBegunOrGone gone (length ns) more (sent_of o (all_started now (flight_of old).queue) (flight_of old).next_tsn now).pending
  sends-begun now None e g = grind (arith, nat_tests, kept-others, starts-keep)
  sends-begun now (Some c) e g = subst (λ xs. AreBegunOrGone gone (length ns) xs q) (sym g.2) here
    where
      ready : Outbound
      ready = all_started now (flight_of old).queue

      p : Pending
      p = ready.pending

      q : Pending
      q = rest_after c.beginning_fragment c.unordered p

      stands : StandsOn on ns first (λ s. number_of s old.sending.sender.streams) ready (flight_of old).next_tsn sent
      stands = started on ns first (λ s. number_of s old.sending.sender.streams) now (flight_of old).queue (flight_of old).next_tsn sent i.held.stands

      entry : Entry
      entry = fragment (data_of (as_sent (flight_of old).next_tsn now c)) g.0 g.1

      here : AreBegunOrGone gone (length ns) (entry ∷ sent) q
      here m lt d = elim (or-split (was_begun m sent) (begins_in m (flight_of old).queue.pending) (h m lt d)) [
        | inl f ↦ or-left (was_begun m (entry ∷ sent)) (begins_in m q) (still-begun m entry sent f)
        | inr f ↦ elim (next-or-stays m c p.selected p.ordered_room p.unordered_room ready.next_message_id ready.inflight.chunks p.ordered p.unordered
            stands.sendable e (starts-keep now (flight_of old).queue m f)) [
              | inl x ↦
                  let b = both (c.message_id == m) c.beginning_fragment x in
                  or-left (was_begun m (entry ∷ sent)) (begins_in m q) (or-left (c.beginning_fragment && (g.0.place == m)) (was_begun m sent)
                  (and c.beginning_fragment (g.0.place == m) b.1 (ap (λ k. k == m) g.3 ∙ b.0)))
              | inr x ↦ or-right (was_begun m (entry ∷ sent)) (begins_in m q) x
            ]
      ]

  changed-keeps : (call : SenderCall) → AreAmong (abandoned_by call old.sending.sender) gone → (c : Change call old.sending.sender)
      → KeepsOthers gone (flight_of old).queue.pending (flight_after call old.sending.sender c).queue.pending
  changed-keeps call a nothing = λ m _ b. b
  changed-keeps call a (all_start now) = λ m _ b. starts-keep now (flight_of old).queue m b
  changed-keeps call a (more_room count) = λ m _ b. b
  changed-keeps call a (some_marked p f k) = λ m _ b. b
  changed-keeps call a (some_missed count) = λ m _ b. b
  changed-keeps call a (one_leaves o e found) =
      abandon-keeps gone o (flight_of old).next_tsn (flight_of old).queue (λ m i. a m (ap (λ ms. is_gone ms m) e ∙ one-gone m o i))
  changed-keeps call a (each_leaves ts short e) = each-keeps gone ts (flight_of old) (subst (λ ms. AreAmong ms gone) e a)
  changed-keeps call a (front_expires now c found e) =
      expire-keeps gone c (flight_of old).queue (a c.message_id (ap (λ ms. is_gone ms c.message_id) e ∙ one-gone c.message_id (Some c.message_id) refl))
  changed-keeps call a (acknowledges k answered e) = grind (arith, nat_tests)

  pub stays-begun-or-gone : (call : SenderCall) → AreAmong (abandoned_by call old.sending.sender) gone → SenderFollows call old new
      → IsMoreBy (sent_by call old.sending.sender) sent more → Begins call
  stays-begun-or-gone (outgoing.sends now) a f g = grind (arith, nat_tests, sends-begun)
  stays-begun-or-gone (outgoing.writes stream ppi (b ∷ bs)) a f g =
      let l = accepted-stream stream (length (b ∷ bs)) old.sending.sender f.accepted in
      subst (λ (u : Transmission). Begins' u) (sym (f.exact.1 (omega arith) l.0 l.1)) (after l.0)
    where
      Begins' : Transmission → Type 0
      Begins' u = AreBegunOrGone gone (length (numbered_after (outgoing.writes stream ppi (b ∷ bs)) ns)) more u.flight.queue.pending

      after : (l : OutboundStream) → Begins' (written_to l stream ppi (b ∷ bs) old.sending.sender)
      after l m lt d = elim (cases_lt m (length ns)) [
        | inl less ↦
            kept-others gone (length ns) sent more (flight_of old).queue.pending (written_to l stream ppi (b ∷ bs) old.sending.sender).flight.queue.pending
            once (λ k _ x. write-keeps l ppi b bs (flight_of old).queue k x) h m less d
        | inr le ↦
            let ids = i.held.stands.ids in
            let same : m ≡ (flight_of old).queue.next_message_id = omega (arith, lt, le, ids) in
            or-right (was_begun m more) _ (subst (λ k. begins_in k (written_to l stream ppi (b ∷ bs) old.sending.sender).flight.queue.pending ≡ true) (sym same)
            (write-begins l ppi b bs (flight_of old).queue))
      ]
  stays-begun-or-gone call a f g =
      let x = changes old.sending.sender new.sending.sender call refl f.step.sender f.exact in
      subst (λ (k : Flight). AreBegunOrGone gone (length ns) more k.queue.pending) (sym x.flight)
      (kept-others gone (length ns) sent more (flight_of old).queue.pending (flight_after call old.sending.sender x.change).queue.pending once
      (changed-keeps call a x.change) h)

-- # The messages that calls abandon are writes: the number of each is below that of the next one

abbrev pub AreBelow : ℕ → List ℕ → Type 0
AreBelow n ms = Every (λ m. m < n) ms

found-any : (p q : ChunkPayloadData → Bool) (cs : List ChunkPayloadData) (c : ChunkPayloadData) → find p cs ≡ Some c → q c ≡ true → list_any q cs ≡ true
found-any p q [] c e h = absurd (none-some c e)
found-any p q (x ∷ xs) c e h = by (p x) e (λ f. found-any p q xs c f h)
  where
    by : (b : Bool) → (if b then Some x else find p xs) ≡ Some c → (find p xs ≡ Some c → list_any q xs ≡ true) → (q x || list_any q xs) ≡ true
    by true f ih = or-left (q x) (list_any q xs) (ap q (some-same f) ∙ h)
    by false f ih = or-right (q x) (list_any q xs) (ih f)

module _ (q : Pending) (xs : List ChunkPayloadData) (n : ℕ) (s : IsSendable q xs n) where
  flight-below : (m : ℕ) → list_any (is_of m) xs ≡ true → m < n
  flight-below m h = elim (cases_lt m n) [ inl lt ↦ lt | inr le ↦ absurd (not_both (sym (s.below m le) ∙ h)) ]

  found-below : (tsn : ℕ) (c : ChunkPayloadData) → find (has_tsn tsn) xs ≡ Some c → c.message_id < n
  found-below tsn c e = flight-below c.message_id (found-any (has_tsn tsn) (is_of c.message_id) xs c e (same-yes c.message_id))

  next-below : (c : ChunkPayloadData) → next_pending q ≡ Some c → c.message_id < n
  next-below c e = elim (cases_lt c.message_id n) [
    | inl lt ↦ lt
    | inr le ↦ absurd (not_both
        (sym (or_false (list_any (is_of c.message_id) q.unordered) (list_any (is_of c.message_id) q.ordered)
        (none_past true n c.message_id le (stage_of true q.selected) q.unordered s.unordered)
        (none_past false n c.message_id le (stage_of false q.selected) q.ordered s.ordered))
        ∙ next-any (is_of c.message_id) q.ordered q.unordered q.selected q.ordered_room q.unordered_room c (same-yes c.message_id) e))
  ]

  -- the message in front, where it passes
  passing-below : (p : ChunkPayloadData → Bool) (o : Option ChunkPayloadData) → next_pending q ≡ o → AreBelow n (option_to_list (message_of (passing p o)))
  passing-below p o h3 = grind (arith, nat_tests, next-below)

  abandon-below : (tsn : ℕ) (o : Option ChunkPayloadData) → find (has_tsn tsn) xs ≡ o → AreBelow n (option_to_list (to_abandon o))
  abandon-below tsn o h3 = grind (arith, nat_tests, found-below)

  answered-below : (tsn bytes : ℕ) (o : Option ChunkPayloadData) → find (has_tsn tsn) xs ≡ o → AreBelow n (numbers (abandoned_with o bytes))
  answered-below tsn bytes o h4 = grind (arith, nat_tests, found-below)

module _ (ws : List Numbered) (first : ℕ) (number : ℕ → ℕ) where
  each-below : (tsns : List ℕ) (f : Flight) (sent : List Entry) → Stands ws first number f.queue f.next_tsn sent
      → AreBelow (length ws) (numbers (leaving_each tsns f))
  each-below [] f sent s = tt
  each-below (tsn ∷ tsns) f sent s =
      subst (AreBelow (length ws)) (sym (numbers-append (leaving_at tsn f) (leaving_each tsns (abandoned_at tsn f))))
      (every-joined (λ m. m < length ws) (numbers (leaving_at tsn f)) (numbers (leaving_each tsns (abandoned_at tsn f)))
      (subst (λ n. AreBelow n (numbers (leaving_at tsn f))) s.ids
      (answered-below f.queue.pending f.queue.inflight.chunks f.queue.next_message_id s.sendable tsn _ (find (has_tsn tsn) f.queue.inflight.chunks) refl))
      (each-below tsns (abandoned_at tsn f) x.more x.stands))
    where
      x : Abandons all_streams ws first number sent f.queue (abandoned_at tsn f).queue (abandoned_at tsn f).next_tsn
      x = abandoned all_streams ws first number f.queue f.next_tsn sent s (message_to_abandon tsn f)
          (found-partial f.queue s.sendable tsn (find (has_tsn tsn) f.queue.inflight.chunks) refl)

  -- of a call
  pub by-below : (call : SenderCall) (t : Transmission) (sent : List Entry) → Stands ws first number t.flight.queue t.flight.next_tsn sent
      → AreBelow (length ws) (abandoned_by call t)
  by-below (outgoing.abandons tsn a) t sent s = grind (arith, nat_tests, abandon-below)
  by-below (outgoing.expires now m) t sent s =
      subst (λ n. AreBelow n (option_to_list (message_of (expiring now t.flight.queue)))) s.ids
      (passing-below t.flight.queue.pending t.flight.queue.inflight.chunks t.flight.queue.next_message_id s.sendable (is_expired now)
      (next_pending t.flight.queue.pending) refl)
  by-below (outgoing.expires_tail now None) t sent s = tt
  by-below (outgoing.expires_tail now (Some a)) t sent s =
      subst (λ n. AreBelow n (option_to_list (message_of (expiring_tail now t.flight.queue)))) s.ids
      (passing-below t.flight.queue.pending t.flight.queue.inflight.chunks t.flight.queue.next_message_id s.sendable (is_expired_tail now)
      (next_pending t.flight.queue.pending) refl)
  by-below (outgoing.expires_late now answered) t sent s = each-below (late_order now t.flight) t.flight sent s
  by-below (outgoing.expires_rexmit answered) t sent s = each-below (worn_order t.flight) t.flight sent s
  by-below call t sent s = tt

longer : (call : SenderCall) (ns : List Numbered) → length ns ≤ length (numbered_after call ns)
longer call ns = grind (arith, nat_tests)

-- so they stay while more is written
pub below-after : (call : SenderCall) (ns : List Numbered) (ms : List ℕ) → AreBelow (length ns) ms → AreBelow (length (numbered_after call ns)) ms
below-after call ns ms h =
    every-of (λ m. m < length ns) (λ m. m < length (numbered_after call ns)) (λ m lt. let le = longer call ns in omega (arith, lt, le)) ms h
