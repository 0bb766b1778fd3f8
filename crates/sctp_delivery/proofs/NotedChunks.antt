-- What chunks in flight say of how often they were sent, reported missing and marked.
use Rattle.sctp_delivery.proofs.Names.{common_steps, ◌≡◌, ℕ, zero, suc, ◌+◌, ◌-◌, ◌%◌, ◌^◌, ◌<◌, ◌≤◌, Bool, true, false, List, [], ◌∷◌, length, take, drop}
use Rattle.sctp_delivery.proofs.Names.{refl, ap, sym, subst, ◌∙◌, arith, Option, Some, None, Result, Ok, Err, ◌==◌, find, option_map, IfOk, IsOk, min, eq-eqb}
use Rattle.sctp_delivery.proofs.Names.{nat_tests, change_where, same-is, or-right, not_both, both, ChunkPayloadData, is_outstanding, with_retransmit}
use Rattle.sctp_delivery.proofs.Names.{as_abandoned, as_sent, Outbound, abandoned_of, all_started, expired_of, sent_next, sent_of, terminal_chunk, with_message}
use Rattle.sctp_delivery.proofs.Names.{expiring_tail, message_of, following_tsn, tsns, has_tsn, can_miss, count_again, missed, sent_again, after_misses}
use Rattle.sctp_delivery.proofs.Names.{all_marked, resent_at, IsRunFrom, PayloadProtocolIdentifier, Sack, list_to_pop, next_pending, OutboundStream, Flight}
use Rattle.sctp_delivery.proofs.Names.{after_sack, can_resend, is_outstanding_in, message_to_abandon, abandoned_each, late_order, worn_order}
use Rattle.sctp_delivery.proofs.Names.{fragments_with_mode, tsn, Limits, Transmission, started-inflight, tsns_given, SenderCall, Call, RunsTo, SenderFollows}
use Rattle.sctp_delivery.proofs.Names.{Session, at_start, of_receiver, of_sender, SenderRefusal}
use Rattle.std.specs.Prelude.{not}
use Rattle.sctp_util.specs.Serial.{distance}
use Rattle.sctp_delivery.specs.Retransmission.{Event, IsNoted, is_among, marked_all, missing, sent, sent_more, with_sent, AfterEachSessionWithEvents, AreNoted}
use Rattle.sctp_delivery.specs.Retransmission.{events_after, events_from, moments}
use Rattle.sctp_delivery.proofs.Every.{Every, every-found, every-inserted, every-joined, every-left, every-of, every-pair, every-taken, all-of-every}
use Rattle.sctp_delivery.proofs.Every.{every-of-all}
use Rattle.sctp_delivery.proofs.QueueChunks.{EachIs, abandoned, each-abandoned, each-fragment, expired, peeked, pushed, rest, sacked, started}
use Rattle.sctp_outbound.specs.payload_queue.PayloadQueue as payload
use Rattle.sctp_delivery.specs.SenderCalls as outgoing
use Rattle.sctp_delivery.proofs.GivenTsns.{IsNumbered, flight-given}
use Rattle.sctp_delivery.proofs.SackLaws.{IsInStep, begin, no-move, receiver-step, sender-step}
use Rattle.sctp_delivery.proofs.SackSteps.{flight_of}
use Rattle.sctp_delivery.proofs.TsnPlaces.{IsGiven, base, tsn-small}
use Rattle.sctp_delivery.proofs.Writing.{accepted-stream}
use Rattle.sctp_delivery.proofs.Changes.{expired-one}

-- # What chunks in flight say of how often they were sent, reported missing and marked

-- it says so, where it is outstanding
abbrev pub SaysSo : List Event → ChunkPayloadData → Type 0
SaysSo es c = is_outstanding c ≡ true → IsNoted es c

-- it waits, neither marked nor reported missing
abbrev pub IsUnsent : ChunkPayloadData → Type 0
IsUnsent c = (c.retransmit ≡ false) × (c.miss_indicator ≡ 0)

-- ## Lists

module _ {A : Type 0} (P Q : A → Type 0) where
  pub every-to : (p : A → Bool) (f : A → A) → ((x : A) → p x ≡ true → P x → Q (f x)) → ((x : A) → p x ≡ false → P x → Q x) → (xs : List A)
      → Every P xs → Every Q (change_where p f xs)
  every-to p f change stay [] e = tt
  every-to p f change stay (x ∷ xs) e = grind (arith, nat_tests, common_steps, every-to p f change stay xs e.1)

-- ## A TSN is sent for the first time

module _ (es : List Event) (t now : ℕ) where
  pub first-sent : (c : ChunkPayloadData) → IsUnsent c → SaysSo (sent t now ∷ es) (as_sent t now c)
  first-sent c u = grind (arith, nat_tests)

  pub others-sent : (c : ChunkPayloadData) → (c.tsn == t) ≡ false → SaysSo es c → SaysSo (sent t now ∷ es) c
  others-sent c other s = grind (arith, nat_tests)

-- ## Once more

module _ (es : List Event) (t now : ℕ) where
  pub again-sent : (c d : ChunkPayloadData) → c.tsn ≡ t → is_outstanding c ≡ true → SaysSo es c → (d.tsn == t) ≡ true → SaysSo es d
      → SaysSo (sent_more t now ∷ es) (sent_again (count_again c) now d)
  again-sent c d at open-one s here r = grind (arith, nat_tests)

  pub others-again : (d : ChunkPayloadData) → (d.tsn == t) ≡ false → SaysSo es d → SaysSo (sent_more t now ∷ es) d
  others-again d other s = grind (arith, nat_tests)

-- ## Marks

pub all-so : (es : List Event) (d : ChunkPayloadData) → SaysSo es d → SaysSo (marked_all ∷ es) (with_retransmit true d)
all-so es d s = λ open'. let h = s open' in record { count = h.count; since = h.since; missed = h.missed; marked = refl }

pub none-so : (es fs : List Event) (d : ChunkPayloadData) → is_outstanding d ≡ false → SaysSo es d → SaysSo fs d
none-so es fs d closed s = λ open'. absurd (not_both (sym closed ∙ open'))

-- reported missing once more
module _ (es : List Event) (ts : List ℕ) (d : ChunkPayloadData) where
  pub once-more : is_among d.tsn ts ≡ true → can_miss d ≡ true → SaysSo es d → SaysSo (missing ts ∷ es) (missed d)
  once-more among can s = grind (arith, nat_tests)

  -- more often than three times
  pub no-more : is_among d.tsn ts ≡ true → can_miss d ≡ false → SaysSo es d → SaysSo (missing ts ∷ es) d
  no-more among cannot s = grind (arith, nat_tests)

  pub not-missing : is_among d.tsn ts ≡ false → SaysSo es d → SaysSo (missing ts ∷ es) d
  not-missing other s = grind (arith, nat_tests)

-- ## Which chunks stand in front

abbrev pub IsBelow : ℕ → ℕ → ChunkPayloadData → Type 0
IsBelow first count c = distance first c.tsn < count

abbrev pub IsFrom : ℕ → ℕ → ChunkPayloadData → Type 0
IsFrom first count c = count ≤ distance first c.tsn

far : (first j : ℕ) → first < 2 ^ 32 → j < 2 ^ 31 → distance first ((first + j) % 2 ^ 32) ≡ j
unfolding distance
far first j small few = omega arith

module _ (first : ℕ) (small : first < 2 ^ 32) where
  next-at : (j : ℕ) → following_tsn ((first + j) % 2 ^ 32) ≡ (first + (j + 1)) % 2 ^ 32
  next-at j = omega arith

  pub front-below : (j count : ℕ) (cs : List ChunkPayloadData) → j + length cs < 2 ^ 31 → IsRunFrom ((first + j) % 2 ^ 32) cs
      → Every (IsBelow first (j + count)) (take count cs)
  front-below j zero cs few run = tt
  front-below j (suc count) [] few run = tt
  front-below j (suc count) (c ∷ cs) few run =
      let head : c.tsn ≡ (first + j) % 2 ^ 32 = cc in
      let tail : IsRunFrom (following_tsn ((first + j) % 2 ^ 32)) cs = cc in
      let at = far first j small (omega (arith, few)) in
      let is = ap (distance first) head in
      let rest = front-below (j + 1) count cs (omega (arith, few)) (subst (λ t. IsRunFrom t cs) (next-at j) tail) in
      (omega (arith, at, is), subst (λ n. Every (IsBelow first n) (take count cs)) {x = j + 1 + count} {y = j + suc count} (omega arith) rest)

  pub rest-from : (j count : ℕ) (cs : List ChunkPayloadData) → j + length cs < 2 ^ 31 → IsRunFrom ((first + j) % 2 ^ 32) cs
      → Every (IsFrom first (j + count)) (drop count cs)
  rest-from j count [] few run = grind (arith, nat_tests, common_steps)
  rest-from j zero (c ∷ cs) few run =
      let head : c.tsn ≡ (first + j) % 2 ^ 32 = cc in
      let tail : IsRunFrom (following_tsn ((first + j) % 2 ^ 32)) cs = cc in
      let at = far first j small (omega (arith, few)) in
      let is = ap (distance first) head in
      let rest = rest-from (j + 1) zero cs (omega (arith, few)) (subst (λ t. IsRunFrom t cs) (next-at j) tail) in
      (omega (arith, at, is), later cs rest)
    where
      later : (xs : List ChunkPayloadData) → Every (IsFrom first (j + 1 + zero)) (drop zero xs) → Every (IsFrom first (j + zero)) xs
      later [] e = tt
      later (x ∷ xs) e = (let h = e.0 in omega (arith, h), later xs e.1)
  rest-from j (suc count) (c ∷ cs) few run =
      let tail : IsRunFrom (following_tsn ((first + j) % 2 ^ 32)) cs = cc in
      let rest = rest-from (j + 1) count cs (omega (arith, few)) (subst (λ t. IsRunFrom t cs) (next-at j) tail) in
      subst (λ n. Every (IsFrom first n) (drop count cs)) {x = j + 1 + count} {y = j + suc count} (omega arith) rest

-- each is among their TSNs
pub among-all : (cs : List ChunkPayloadData) → Every (λ (c : ChunkPayloadData). is_among c.tsn (tsns cs) ≡ true) cs
among-all [] = tt
among-all (c ∷ cs) = grind (arith, nat_tests, eq-eqb, every-of, or-right, among-all cs)

-- one behind them is not
pub among-none : (first count t : ℕ) (cs : List ChunkPayloadData) → count ≤ distance first t → Every (IsBelow first count) cs → is_among t (tsns cs) ≡ false
among-none first count t [] past e = refl
among-none first count t (c ∷ cs) past e = grind (arith, nat_tests, common_steps, among-none first count t cs past e.1)

-- # What each call of a sender makes of what its chunks say of how often they were sent, reported missing and marked

pub fragments-unsent : (l : OutboundStream) (ppi : PayloadProtocolIdentifier) (bytes : List ℕ) → Every IsUnsent (fragments_with_mode l ppi bytes)
fragments-unsent l ppi bytes = each-fragment IsUnsent l ppi bytes (λ i. (refl, refl))

-- ## What is found

pub found-tsn : (t : ℕ) (c : ChunkPayloadData) (cs : List ChunkPayloadData) → find (has_tsn t) cs ≡ Some c → (c.tsn == t) ≡ true
found-tsn t c [] e = cc
found-tsn t c (d ∷ ds) e = grind (arith, nat_tests, found-tsn t c ds)

-- ## The calls

-- what waits was never sent, and what is in flight says so
abbrev pub AreSo : List Event → Outbound → Type 0
AreSo es q = EachIs IsUnsent (SaysSo es) q

module _ (es : List Event) where
  pub message-so : (cs : List ChunkPayloadData) (q : Outbound) → Every IsUnsent cs → AreSo es q → AreSo es (with_message cs q)
  message-so cs q h s = pushed IsUnsent (SaysSo es) IsUnsent (SaysSo es) (λ c i. i) (λ c i. i) cs q h s

  pub started-so : (now : ℕ) (q : Outbound) → AreSo es q → AreSo es (all_started now q)
  started-so now q s = started IsUnsent (SaysSo es) now (λ c i. i) q s

  -- none in flight has the TSN
  abbrev pub IsUnused : ℕ → Outbound → Type 0
  IsUnused t q = Every (λ (c : ChunkPayloadData). (c.tsn == t) ≡ false) q.inflight.chunks

  sent-of : (o : Option ChunkPayloadData) (q : Outbound) (t now : ℕ) → IsUnused t q → next_pending q.pending ≡ o → AreSo es q
      → AreSo (with_sent now (option_map (as_sent t now) o) es) (sent_of o q t now)
  sent-of None q t now new e s = s
  sent-of (Some c) q t now new e s =
      let left = rest IsUnsent (list_to_pop q.pending.selected c.beginning_fragment c.unordered) q.pending (s.ordered, s.unordered) in
      let unsent = peeked IsUnsent q.pending.selected q.pending c e (s.ordered, s.unordered) in
      let others = every-of (λ (d : ChunkPayloadData). (d.tsn == t) ≡ false × SaysSo es d) (SaysSo (sent t now ∷ es))
      (λ d h. others-sent es t now d h.0 h.1) q.inflight.chunks
      (every-pair (λ (d : ChunkPayloadData). (d.tsn == t) ≡ false) (SaysSo es) q.inflight.chunks new s.inflight) in
      grind (arith, nat_tests, every-inserted, first-sent)

  pub sent-so : (q : Outbound) (t now : ℕ) → IsUnused t (all_started now q) → AreSo es q
      → AreSo (with_sent now (option_map (as_sent t now) (next_pending (all_started now q).pending)) es) (sent_next q t now)
  sent-so q t now new s = sent-of (next_pending (all_started now q).pending) (all_started now q) t now new refl (started-so now q s)

  -- of an abandoned message nothing is said
  gone-so : (c : ChunkPayloadData) → c.abandoned ≡ true → SaysSo es c
  gone-so c b = λ open'. absurd (not_both (ap not (sym b) ∙ (both (not c.acked) (not c.abandoned) open').1))

  pub abandoned-so : (o : Option ℕ) (t : ℕ) (q : Outbound) → AreSo es q → AreSo es (abandoned_of o t q)
  abandoned-so o t q s =
      abandoned IsUnsent (SaysSo es) (λ c r. gone-so (as_abandoned c) refl) (λ u c i. gone-so (terminal_chunk u c) refl) o t q s

  pub each-so : (ts : List ℕ) (f : Flight) → AreSo es f.queue → AreSo es (abandoned_each ts f).queue
  each-so ts f s =
      each-abandoned IsUnsent (SaysSo es) (λ c r. gone-so (as_abandoned c) refl) (λ u c i. gone-so (terminal_chunk u c) refl) ts f s

  pub expired-so : (o : Option ChunkPayloadData) (q : Outbound) → AreSo es q → AreSo es (expired_of o q)
  expired-so o q s = expired IsUnsent (SaysSo es) (λ c i. i) o q s

  pub resent-so : (t now : ℕ) (c : ChunkPayloadData) (f : Flight) → find (has_tsn t) f.queue.inflight.chunks ≡ Some c
      → can_resend t f ≡ true → AreSo es f.queue → AreSo (sent_more t now ∷ es) (resent_at t now c f).queue
  resent-so t now c f found can s =
      let open-one : is_outstanding c ≡ true = ap is_outstanding_in (sym found) ∙ can in
      let at = same-is c.tsn t (found-tsn t c f.queue.inflight.chunks found) in
      let says = every-found (SaysSo es) (has_tsn t) f.queue.inflight.chunks c found s.inflight in
      record {
        ordered = s.ordered;
        unordered = s.unordered;
        inflight = every-to (SaysSo es) (SaysSo (sent_more t now ∷ es)) (has_tsn t) (sent_again (count_again c) now)
            (λ d here r. again-sent es t now c d at open-one says here r) (λ d other r. others-again es t now d other r) f.queue.inflight.chunks s.inflight;
      }

  pub marked-so : (f : Flight) → AreSo es f.queue → AreSo (marked_all ∷ es) (all_marked f).queue
  marked-so f s = search (every-to, all-so, none-so)

  pub missed-so : (count first : ℕ) (f : Flight) → first < 2 ^ 32 → length f.queue.inflight.chunks < 2 ^ 31 → IsRunFrom first f.queue.inflight.chunks
      → AreSo es f.queue → AreSo (missing (tsns (take count f.queue.inflight.chunks)) ∷ es) (after_misses count f).queue
  missed-so count first f small few run s =
      let cs = f.queue.inflight.chunks in
      let ts = tsns (take count cs) in
      let fs = missing ts ∷ es in
      let at : first ≡ (first + 0) % 2 ^ 32 = omega (arith, small) in
      let run' = subst (λ t. IsRunFrom t cs) at run in
      let below = front-below first small 0 count cs (omega (arith, few)) run' in
      let from = rest-from first small 0 count cs (omega (arith, few)) run' in
      let in-front = every-pair (λ (c : ChunkPayloadData). is_among c.tsn ts ≡ true) (SaysSo es) (take count cs) (among-all (take count cs))
      (every-taken (SaysSo es) count cs s.inflight) in
      let behind = every-pair (IsFrom first (0 + count)) (SaysSo es) (drop count cs) from (every-left (SaysSo es) count cs s.inflight) in
      record {
        ordered = s.ordered;
        unordered = s.unordered;
        inflight = every-joined (SaysSo fs) (change_where can_miss missed (take count cs)) (drop count cs)
            (every-to (λ (c : ChunkPayloadData). (is_among c.tsn ts ≡ true) × SaysSo es c) (SaysSo fs) can_miss missed
            (λ d h r. once-more es ts d r.0 h r.1) (λ d h r. no-more es ts d r.0 h r.1) (take count cs) in-front)
            (every-of (λ c. IsFrom first (0 + count) c × SaysSo es c) (SaysSo fs)
            (λ d r. not-missing es ts d (among-none first (0 + count) d.tsn (take count cs) r.0 below) r.1) (drop count cs) behind);
      }

  pub sack-so : (k : Sack) (f : Flight) → AreSo es f.queue → AreSo es (after_sack k f).queue
  sack-so k f s = sacked IsUnsent (SaysSo es) k (λ c h r open'. absurd (not_both open')) f s

-- # In each session in which few TSNs are given out, chunks in flight say how often they were sent, reported missing and marked

-- ## A call of the sender

module _ (p n : ℕ) (es : List Event) (old new : Session) (few : n < 2 ^ 31) (h : IsNumbered p n old.sending.sender.flight)
    (s : AreSo es old.sending.sender.flight.queue) where
  -- the next TSN is not in flight
  unused : Every (λ (c : ChunkPayloadData). (c.tsn == (flight_of old).next_tsn) ≡ false) (flight_of old).queue.inflight.chunks
  unused =
      every-of (λ (c : ChunkPayloadData). IsGiven p n c.tsn) (λ (c : ChunkPayloadData). (c.tsn == (flight_of old).next_tsn) ≡ false) other
      (flight_of old).queue.inflight.chunks (flight-given p n (flight_of old) h)
    where
      other : (c : ChunkPayloadData) → IsGiven p n c.tsn → (c.tsn == (flight_of old).next_tsn) ≡ false
      other c h2 = grind (arith, nat_tests)

  to : (fs : List Event) (t : Transmission) → new.sending.sender ≡ t → AreSo fs t.flight.queue → AreSo fs (flight_of new).queue
  to fs t e a = subst (λ (u : Transmission). AreSo fs u.flight.queue) (sym e) a

  step : (call : SenderCall) → SenderFollows call old new → AreSo (events_after (of_sender call) old es) (flight_of new).queue
  step (outgoing.forwards u c) f = to es _ f.exact s
  step (outgoing.forwards_within bytes c) f = to es _ f.exact s
  step (outgoing.writes stream ppi []) f = to es _ (f.exact.0 refl) s
  step (outgoing.writes stream ppi (b ∷ bs)) f =
      let l = accepted-stream stream (length (b ∷ bs)) old.sending.sender f.accepted in
      to es _ (f.exact.1 (omega arith) l.0 l.1)
      (message-so es (fragments_with_mode l.0 ppi (b ∷ bs)) (flight_of old).queue (fragments-unsent l.0 ppi (b ∷ bs)) s)
  step (outgoing.starts now) f = to es _ f.step.sender (started-so es now (flight_of old).queue s)
  step (outgoing.reserves more) f = to es _ f.step.sender (record { ordered = s.ordered; unordered = s.unordered; inflight = s.inflight })
  step (outgoing.sends now) f =
      to _ _ f.exact
      (sent-so es (flight_of old).queue (flight_of old).next_tsn now
      (subst (λ (w : payload.Payload). Every (λ (c : ChunkPayloadData). (c.tsn == (flight_of old).next_tsn) ≡ false) w.chunks)
      (sym (started-inflight now (flight_of old).queue)) unused) s)
  step (outgoing.resends u now c) f = to _ _ f.step.sender (resent-so es u now c (flight_of old) f.accepted.1 f.accepted.0 s)
  step outgoing.marks f = to _ _ f.step.sender (marked-so es (flight_of old) s)
  step (outgoing.misses count) f =
      let total = h.total in
      to _ _ f.step.sender (missed-so es count (tsn p (h.acked + 1)) (flight_of old) (tsn-small p (h.acked + 1)) (omega (arith, total, few)) h.run s)
  step (outgoing.abandons u a) f =
      to es _ f.exact (abandoned-so es (message_to_abandon u (flight_of old)) (flight_of old).next_tsn (flight_of old).queue s)
  step (outgoing.expires now None) f = to es _ (f.exact.1.1 refl) s
  step (outgoing.expires now (Some e)) f =
      let i = expired-one now e old.sending.sender new.sending.sender f.exact in
      to es _ i.2 (expired-so es (Some i.0) (flight_of old).queue s)
  step (outgoing.expires_tail now None) f = to es _ (f.exact.1 refl) s
  step (outgoing.expires_tail now (Some a)) f =
      to es _ f.exact.0
      (abandoned-so es (message_of (expiring_tail now (flight_of old).queue)) (flight_of old).next_tsn (flight_of old).queue s)
  step (outgoing.expires_late now gone) f = to es _ f.exact (each-so es (late_order now (flight_of old)) (flight_of old) s)
  step (outgoing.expires_rexmit gone) f = to es _ f.exact (each-so es (worn_order (flight_of old)) (flight_of old) s)
  step (outgoing.takes_sack k gone) f = to es _ f.exact (sack-so es k (flight_of old) s)
  step call f = to es _ f.step.sender s

-- ## Every session

run-so : (p n : ℕ) (es : List Event) (cs : List Call) (old new : Session) (run : RunsTo old cs new) → n + tsns_given old cs new run < 2 ^ 31
    → IsInStep p n old → AreSo es (flight_of old).queue → AreSo (events_from es old cs new run) (flight_of new).queue
run-so p n es [] old new run few i s = subst (λ (t : Session). AreSo es (flight_of t).queue) (sym run) s
run-so p n es (of_sender call ∷ cs) old new run few i s =
    let d = distance old.sending.sender.flight.next_tsn run.0.sending.sender.flight.next_tsn in
    run-so p (n + d) (events_after (of_sender call) old es) cs run.0 new run.1.1 (omega (arith, few))
    (sender-step p n call old run.0 (omega (arith, few)) run.1.0 i) (step p n es old run.0 (omega (arith, few)) i.numbered s call run.1.0)
run-so p n es (of_receiver call ∷ cs) old new run few i s =
    let sending = ap (λ (t : Session). t.sending) run.1.0.after in
    let none = no-move p n old run.0 sending i.numbered in
    run-so p n es cs run.0 new run.1.1 (omega (arith, few, none)) (receiver-step p n call old run.0 (omega (arith, few)) run.1.0 i)
    (subst (λ l. AreSo es l.sender.flight.queue) (sym sending) s)

-- what the calls of a session did
abbrev pub events : (first size max most : ℕ) (limits : Option Limits) (cs : List Call) (s : Session)
    → RunsTo (at_start first size max most limits) cs s → List Event
events first size max most limits cs s run = events_from [] (at_start first size max most limits) cs s run

pub law : AfterEachSessionWithEvents AreNoted
law first size max most limits cs s run small few =
    let start = at_start first size max most limits in
    let so = run-so (base first) 0 [] cs start s run (omega (arith, few)) (begin first size max most limits small)
    (record { ordered = tt; unordered = tt; inflight = tt }) in
    all-of-every (SaysSo (events_from [] start cs s run)) s.sending.sender.flight.queue.inflight.chunks so.inflight

-- # What a chunk that is sent again says of how often it was

-- what the chunk was, and what it answers
abbrev Answers : ℕ → ℕ → Transmission → ChunkPayloadData → Type 0
Answers tsn now t again =
    (c : ChunkPayloadData) → find (has_tsn tsn) t.flight.queue.inflight.chunks ≡ Some c → again ≡ sent_again (count_again c) now c

-- the chunk in flight that is sent again
record Found (tsn now : ℕ) (t : Transmission) (again : ChunkPayloadData) : Type 0 where
  chunk : ChunkPayloadData
  found : find (has_tsn tsn) t.flight.queue.inflight.chunks ≡ Some chunk
  open' : is_outstanding chunk ≡ true
  is : again ≡ sent_again (count_again chunk) now chunk

found-one : (t : Transmission) (tsn now : ℕ) (again : ChunkPayloadData) → Answers tsn now t again → can_resend tsn t.flight ≡ true → Found tsn now t again
found-one t tsn now again a can = grind (arith, nat_tests)

pub count : (t : Transmission) (tsn now : ℕ) (o : Result ChunkPayloadData SenderRefusal) → IfOk o (Answers tsn now t)
    → (IsOk o → can_resend tsn t.flight ≡ true) → IfOk o (λ again. AfterEachSessionWithEvents (λ es s. s.sending.sender ≡ t
    → again.nsent ≡ min (length (moments tsn es) + 1) (2 ^ 32 - 1)))
count t tsn now (Err e) a can = tt
count t tsn now (Ok again) a can = λ first size max most limits cs s run small few is.
    let one = found-one t tsn now again a (can refl) in
    let es = events first size max most limits cs s run in
    let found = ap (λ (u : Transmission). find (has_tsn tsn) u.flight.queue.inflight.chunks) is ∙ one.found in
    let says = every-found (SaysSo es) (has_tsn tsn) s.sending.sender.flight.queue.inflight.chunks one.chunk found
    (every-of-all (SaysSo es) s.sending.sender.flight.queue.inflight.chunks (law first size max most limits cs s run small few)) one.open' in
    let at : one.chunk.tsn ≡ tsn = same-is one.chunk.tsn tsn (found-tsn tsn one.chunk s.sending.sender.flight.queue.inflight.chunks found) in
    let n = says.count ∙ ap (λ u. min (length (moments u es)) (2 ^ 32 - 1)) at in
    let e = ap (λ (c : ChunkPayloadData). c.nsent) one.is in
    omega (arith, n, e)

pub since : (t : Transmission) (tsn now : ℕ) (o : Result ChunkPayloadData SenderRefusal) → IfOk o (Answers tsn now t)
    → (IsOk o → can_resend tsn t.flight ≡ true) → IfOk o (λ again. again.since ≡ Some now)
since t tsn now (Err e) a can = tt
since t tsn now (Ok again) a can = ap (λ (c : ChunkPayloadData). c.since) (found-one t tsn now again a (can refl)).is
