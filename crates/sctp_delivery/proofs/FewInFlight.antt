-- What stays so of a session and of its sender's TSNs while fewer than 2^31 chunks are in flight, however many TSNs were given out.
use Rattle.sctp_delivery.proofs.Names.{common_steps, ◌≡◌, ℕ, ◌<◌, ◌≤◌, ◌^◌, Bool, true, false, not, List, [], ◌∷◌, length, ⊤, Option, Some, None, refl, ap, sym}
use Rattle.sctp_delivery.proofs.Names.{subst, arith, nat_tests, insert_before, Contains, if◌then◌else◌, comes_before, tsn, tsns, has_tsn, Sack, Flight}
use Rattle.sctp_delivery.proofs.Names.{ChunkPayloadData, Transmission, Reception, after_sack, take_sack, is_outdated, sack_refusal, sent_next, next_after_send}
use Rattle.sctp_delivery.proofs.Names.{after_forward_tsn, changed-run, filter_of, with_filter, with_tsn, after_misses, abandoned_each, after_abandonment}
use Rattle.sctp_delivery.proofs.Names.{with_room, expired_of, with_message, fragments_with_mode, can_miss, missed, ForwardTsn, Released, Session, SenderFollows}
use Rattle.sctp_delivery.proofs.Names.{ReceiverFollows, SenderCall, ReceiverCall, Made, made_after, data_chunk, forward_tsn, reports_after, Limits}
use Rattle.sctp_outbound.specs.payload_queue.PayloadQueue as payload
use Rattle.sctp_sender.specs.Flight.{count_acked, with_queue}
use Rattle.sctp_sender.proofs.MarkedRuns.{part-run}
use Rattle.sctp_util.specs.Lists.{advance_over}
use Rattle.sctp_util.specs.Serial.{distance}
use Rattle.sctp_delivery.specs.SenderCalls as outgoing
use Rattle.sctp_delivery.specs.SenderCalls.{IsAccepted}
use Rattle.sctp_delivery.specs.Modes.{AreFewInFlight}
use Rattle.sctp_delivery.specs.Session.{Call, Follows, IsReported, RunsTo, at_start, count_in_flight, of_receiver, of_sender}
use Rattle.sctp_delivery.proofs.Changes.{Change, Keeps, acknowledges, all_start, changes, each-call, each_leaves, flight_after, front_expires, more_room}
use Rattle.sctp_delivery.proofs.Changes.{nothing, one_leaves, some_marked, some_missed}
use Rattle.sctp_delivery.proofs.Every.{Every, every-all, every-contained, every-found, every-inserted, every-of, every-passing}
use Rattle.sctp_delivery.proofs.GivenTsns.{IsNumbered, Raises, flight-given, passable-end, passable-skip, raises-abandoned, raises-each, raises-sent, rebased}
use Rattle.sctp_delivery.proofs.GivenTsns.{taken-numbered}
use Rattle.sctp_delivery.proofs.QueueChunks.{EachIs, pushed}
use Rattle.sctp_delivery.proofs.SackLaws.{IsInStepBut}
use Rattle.sctp_delivery.proofs.SackSteps.{message-inflight}
use Rattle.sctp_delivery.proofs.TsnPlaces.{IsGiven, tsn-small}
use Rattle.sctp_delivery.proofs.ValidMarks.{IsFresh, IsUnmarked, fragments-unmarked}
use Rattle.sctp_delivery.proofs.Writing.{accepted-stream}

-- ## The sender's TSNs

-- those in flight go from the one behind the acknowledged one to the one before the next
abbrev pub IsInRun : Flight → Type 0
IsInRun f = IsNumbered f.acked_tsn (length f.queue.inflight.chunks) f

abbrev pub IsSmall : ℕ → Type 0
IsSmall t = t < 2 ^ 32

pub still-run : (f g : Flight) → tsns g.queue.inflight.chunks ≡ tsns f.queue.inflight.chunks → g.next_tsn ≡ f.next_tsn → g.acked_tsn ≡ f.acked_tsn
    → IsInRun f → IsInRun g
still-run f g same next acked h = grind (arith, nat_tests, common_steps)

pub raised-run : (most : ℕ) (f g : Flight) → Raises f.acked_tsn most f g → length g.queue.inflight.chunks < 2 ^ 31 → IsInRun f → IsInRun g
raised-run most f g r few h = grind (arith, nat_tests, common_steps)

-- a SACK that is taken goes to a place in the run
pub sack-place : (k : Sack) (f : Flight) → IsSmall k.cumulative_tsn_ack → sack_refusal k f ≡ None → IsInRun f → is_outdated k f ≡ false
    → (count_acked k f ≤ length f.queue.inflight.chunks) × (k.cumulative_tsn_ack ≡ tsn f.acked_tsn (count_acked k f))
unfolding distance
sack-place k f small none h e = grind (arith, nat_tests, common_steps)

sacked-run : (k : Sack) (f : Flight) → IsSmall k.cumulative_tsn_ack → length f.queue.inflight.chunks < 2 ^ 31 → sack_refusal k f ≡ None → IsInRun f
    → IsInRun (after_sack k f)
sacked-run k f small few none h = by (is_outdated k f) refl
  where
    by : (b : Bool) → is_outdated k f ≡ b → IsInRun (if b then f else take_sack k f)
    by true e = h
    by false e =
        let n = length f.queue.inflight.chunks in
        let at = sack-place k f small none h e in
        rebased f.acked_tsn n (take_sack k f) (subst (IsNumbered f.acked_tsn n) (ap (λ b. if b then f else take_sack k f) e)
        (taken-numbered f.acked_tsn n (count_acked k f) k f few at.0 at.1 h))

module _ (t : Transmission) (was : length t.flight.queue.inflight.chunks < 2 ^ 31) (h : IsInRun t.flight) where
  abbrev cs : List ChunkPayloadData
  cs = t.flight.queue.inflight.chunks

  change-run : (call : SenderCall) → ((k : Sack) (gone : List Released) → call ≡ outgoing.takes_sack k gone → IsSmall k.cumulative_tsn_ack)
      → IsAccepted call t → (c : Change call t) → length (flight_after call t c).queue.inflight.chunks < 2 ^ 31 → IsInRun (flight_after call t c)
  change-run call small ok nothing few = h
  change-run call small ok (all_start now) few = grind (arith, nat_tests, common_steps)
  change-run call small ok (more_room count) few = still-run t.flight (with_queue t.flight (with_room count t.flight.queue)) refl refl refl h
  change-run call small ok (some_marked q g k) few = grind (arith, nat_tests, common_steps, still-run, changed-run)
  change-run call small ok (some_missed count) few =
      still-run t.flight (after_misses count t.flight) (part-run can_miss missed (λ d. refl) cs count) refl refl h
  change-run call small ok (one_leaves o e found) few =
      raised-run 1 t.flight (after_abandonment o t.flight) (raises-abandoned t.flight.acked_tsn 1 o t.flight (omega arith)) few h
  change-run call small ok (each_leaves ts short e) few =
      raised-run (length ts) t.flight (abandoned_each ts t.flight) (raises-each t.flight.acked_tsn ts t.flight) few h
  change-run call small ok (front_expires now c found e) few =
      still-run t.flight (with_queue t.flight (expired_of (Some c) t.flight.queue)) refl refl refl h
  change-run call small ok (acknowledges k gone e) few =
      sacked-run k t.flight (small k gone e) was (subst (λ c. IsAccepted c t) e ok) h

-- ## A call of the sender

-- a chunk that was made has a TSN of 32 bits, or goes to one
abbrev pub IsMadeSmall : Made → Type 0
IsMadeSmall (data_chunk d) = IsSmall d.tsn
IsMadeSmall (forward_tsn f) = IsSmall f.new_cumulative_tsn

-- what the beside of a session needs: the TSNs in flight are a run, what waits is not marked, and SACKs have TSNs of 32 bits
pub record IsRegular (s : Session) : Type 0 where
  pub numbered : IsInRun s.sending.sender.flight
  pub fresh : IsFresh s.sending.sender.flight.queue
  pub sacks : Every (λ (k : Sack). IsSmall k.cumulative_tsn_ack) s.sacks

-- and so have the chunks that were made, and the receiver
pub record AreRegular (s : Session) : Type 0 where
  pub regular : IsRegular s
  pub made : Every IsMadeSmall s.made
  pub cumulative : IsSmall s.receiving.receiver.cumulative_tsn
  pub beyond : Every IsSmall s.receiving.receiver.beyond

module _ (call : SenderCall) (old new : Session) (f : SenderFollows call old new) (was : length old.sending.sender.flight.queue.inflight.chunks < 2 ^ 31)
    (few : length new.sending.sender.flight.queue.inflight.chunks < 2 ^ 31) (i : AreRegular old) where
  abbrev u : Transmission
  u = old.sending.sender

  to-run : (v : Transmission) → new.sending.sender ≡ v → (length v.flight.queue.inflight.chunks < 2 ^ 31 → IsInRun v.flight)
      → IsInRun new.sending.sender.flight
  to-run v e h = subst (λ (x : Transmission). IsInRun x.flight) (sym e) (h (subst (λ (x : Transmission). length x.flight.queue.inflight.chunks < 2 ^ 31) e few))

  small-sack : (c : SenderCall) → IsReported c old → (k : Sack) (gone : List Released) → c ≡ outgoing.takes_sack k gone → IsSmall k.cumulative_tsn_ack
  small-sack c r k gone e =
      every-contained (λ (x : Sack). IsSmall x.cumulative_tsn_ack) old.sacks k (subst (λ d. IsReported d old) e r) i.regular.sacks

  sender-run : (c : SenderCall) → SenderFollows c old new → IsInRun new.sending.sender.flight
  sender-run (outgoing.writes stream ppi (b ∷ bs)) g =
      let l = accepted-stream stream (length (b ∷ bs)) u g.accepted in
      let cs = fragments_with_mode l.0 ppi (b ∷ bs) in
      to-run _ (g.exact.1 (omega arith) l.0 l.1) (λ _. still-run u.flight (with_queue u.flight (with_message cs u.flight.queue))
      (ap (λ (w : payload.Payload). tsns w.chunks) (message-inflight cs u.flight.queue)) refl refl i.regular.numbered)
  sender-run (outgoing.sends now) g =
      to-run _ g.exact (λ short. raised-run 1 u.flight
      (record u.flight { queue = sent_next u.flight.queue u.flight.next_tsn now; next_tsn = next_after_send u.flight })
      (raises-sent u.flight.acked_tsn 1 now u.flight (omega arith)) short i.regular.numbered)
  sender-run c g =
      let x = changes u new.sending.sender c refl g.step.sender g.exact in
      subst IsInRun (sym x.flight) (change-run u was i.regular.numbered c (small-sack c g.handed) g.accepted x.change
      (subst (λ (y : Flight). length y.queue.inflight.chunks < 2 ^ 31) x.flight few))

  keeps : Keeps IsUnmarked (λ c. ⊤) u
  keeps = grind (arith, nat_tests, common_steps)

  unmarked : EachIs IsUnmarked (λ c. ⊤) u.flight.queue
  unmarked = grind (arith, nat_tests, common_steps, every-all)

  sender-fresh : (c : SenderCall) → SenderFollows c old new → EachIs IsUnmarked (λ c. ⊤) new.sending.sender.flight.queue
  sender-fresh (outgoing.writes stream ppi (b ∷ bs)) g =
      let l = accepted-stream stream (length (b ∷ bs)) u g.accepted in
      subst (λ (x : Transmission). EachIs IsUnmarked (λ c. ⊤) x.flight.queue) (sym (g.exact.1 (omega arith) l.0 l.1))
      (pushed IsUnmarked (λ c. ⊤) IsUnmarked (λ c. ⊤) (λ c h. h) (λ c h. h) (fragments_with_mode l.0 ppi (b ∷ bs)) u.flight.queue
      (fragments-unmarked l.0 ppi (b ∷ bs)) unmarked)
  sender-fresh c g = each-call IsUnmarked (λ c. ⊤) u keeps unmarked new.sending.sender c refl g.step.sender g.exact

  given-small : (t : ℕ) → IsGiven u.flight.acked_tsn (length u.flight.queue.inflight.chunks) t → IsSmall t
  given-small t g = let s = tsn-small u.flight.acked_tsn g.place in let e = g.is in omega (arith, s, e)

  sender-made : (c : SenderCall) → SenderFollows c old new → Every IsMadeSmall (made_after c u old.made)
  sender-made (outgoing.sends now) g = grind (arith, nat_tests, common_steps)
  sender-made (outgoing.resends t now c) g = (
    given-small c.tsn (every-found (λ (d : ChunkPayloadData). IsGiven u.flight.acked_tsn (length u.flight.queue.inflight.chunks) d.tsn) (has_tsn t)
        u.flight.queue.inflight.chunks c g.accepted.1
        (flight-given u.flight.acked_tsn (length u.flight.queue.inflight.chunks) u.flight i.regular.numbered)),
    i.made,
  )
  sender-made (outgoing.forwards t c) g = (
    given-small c.new_cumulative_tsn (passable-skip u.flight.acked_tsn (length u.flight.queue.inflight.chunks) u.flight i.regular.numbered was t
        c.new_cumulative_tsn g.accepted.0).given,
    i.made,
  )
  sender-made (outgoing.forwards_within bytes c) g = (
    given-small c.new_cumulative_tsn (passable-end u.flight.acked_tsn (length u.flight.queue.inflight.chunks) u.flight i.regular.numbered was
        c.new_cumulative_tsn g.accepted.0 g.accepted.1).given,
    i.made,
  )
  sender-made c g = i.made

  pub sender-regular : AreRegular new
  sender-regular = grind (arith, nat_tests, common_steps, sender-fresh, sender-run, sender-made)

-- ## A call of the receiver

advanced-small : (c : ℕ) (ts : List ℕ) → IsSmall c → Every IsSmall ts → IsSmall (advance_over c ts).cum × Every IsSmall (advance_over c ts).held
advanced-small c [] a h = (a, tt)
advanced-small c (t ∷ ts) a h = grind (arith, nat_tests, advanced-small t ts h.0 h.1)

abbrev pub HasSmall : Reception → Type 0
HasSmall r = IsSmall r.cumulative_tsn × Every IsSmall r.beyond

module _ (old : Session) (i : AreRegular old) where
  abbrev r : Reception
  r = old.receiving.receiver

  still : HasSmall r
  still = (i.cumulative, i.beyond)

  -- behind a TSN that came
  pub with-small : (t : ℕ) → IsSmall t → HasSmall (with_filter (with_tsn t (filter_of r)) r)
  with-small t small =
      advanced-small r.cumulative_tsn (insert_before comes_before t r.beyond) i.cumulative (every-inserted IsSmall comes_before t r.beyond small i.beyond)

  pub follows-small : (g : ForwardTsn) → Contains old.made (forward_tsn g) → HasSmall (after_forward_tsn g r)
  follows-small g h = grind (arith, nat_tests, common_steps, still, advanced-small, not, every-contained, every-passing)

module _ (call : ReceiverCall) (old new : Session) (f : ReceiverFollows call old new) (i : AreRegular old) where
  to-small : (q : Reception) → new.receiving.receiver ≡ q → HasSmall q → HasSmall new.receiving.receiver
  to-small q e h = subst HasSmall (sym e) h

  receiver-small : (c : ReceiverCall) → ReceiverFollows c old new → HasSmall new.receiving.receiver
  receiver-small h0 h1 = grind (arith, nat_tests, common_steps, to-small, still, with-small, every-contained, follows-small)

  receiver-sacks : (c : ReceiverCall) → Every (λ (k : Sack). IsSmall k.cumulative_tsn_ack) (reports_after c old.receiving.receiver old.sacks)
  receiver-sacks h0 = grind (arith, nat_tests, common_steps)

  pub receiver-regular : AreRegular new
  receiver-regular = grind (arith, nat_tests, common_steps, receiver-small, receiver-sacks)

-- ## Each call

pub regular-then : (c : Call) (d e : Session) → count_in_flight d < 2 ^ 31 → count_in_flight e < 2 ^ 31 → Follows c d e → AreRegular d → AreRegular e
regular-then (of_sender call) d e was few f i = sender-regular call d e f was few i
regular-then (of_receiver call) d e was few f i = receiver-regular call d e f i

pub regular-first : (first size max most : ℕ) (limits : Option Limits) → first < 2 ^ 32 → AreRegular (at_start first size max most limits)
regular-first first size max most limits small = grind (arith, nat_tests, common_steps)

pub all-regular : (cs : List Call) (s new : Session) (r : RunsTo s cs new) → count_in_flight s < 2 ^ 31 → AreFewInFlight s cs new r → AreRegular s
    → (count_in_flight new < 2 ^ 31) × AreRegular new
all-regular [] s new r was few i = subst (λ (d : Session). (count_in_flight d < 2 ^ 31) × AreRegular d) (sym r) (was, i)
all-regular (c ∷ cs) s new r was few i = all-regular cs r.0 new r.1.1 few.0 few.1 (regular-then c s r.0 was few.0 r.1.0 i)

-- ## Where few TSNs were given out

pub regular-of-few : (dropped : ℕ → Bool) (p n : ℕ) (s : Session) → IsInStepBut dropped p n s → IsRegular s
regular-of-few dropped p n s i = grind (arith, nat_tests, common_steps, rebased, every-of, tsn-small)
