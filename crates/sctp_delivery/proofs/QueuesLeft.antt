-- What each change of a sender's queues makes of the chunks in flight and of how many are left.
use Rattle.sctp_delivery.proofs.Names.{common_steps, ◌≡◌, ℕ, ◌+◌, ◌%◌, ◌^◌, ◌<◌, ◌≤◌, Bool, true, false, List, [], ◌∷◌, ◌++◌, length, length-append, map, drop}
use Rattle.sctp_delivery.proofs.Names.{Option, Some, None, inl, inr, refl, ap, sym, subst, ◌∙◌, arith, ◌-◌, if◌then◌else◌, nat_lt, find, list_any, length-map}
use Rattle.sctp_delivery.proofs.Names.{map-append, none-some, change_where, insert_before, comes_before, distance, or-split, some-same, length-change_where}
use Rattle.sctp_delivery.proofs.Names.{not_both, ChunkPayloadData, Selected, as_abandoned, is_of, as_acknowledged, Outbound, abandoned_of, all_started, as_sent}
use Rattle.sctp_delivery.proofs.Names.{expired_of, sent_of, terminal_chunk, tsn_after_of, with_inflight, with_terminal_chunk, sent_next, with_message, Pending}
use Rattle.sctp_delivery.proofs.Names.{chunk_count, chunk_to_pop_from, last_removed, list_to_pop, next_pending, rest_after, rest_from, without, without_message}
use Rattle.sctp_delivery.proofs.Names.{GoesOn, IsSendable, partial_of, partially_sent, waits, abandoned_none, partial_waits, last_is_of, no_last, goes_on}
use Rattle.sctp_delivery.proofs.Names.{partial_gone, made, sendable-sent, chunk_before, has_tsn, tsns_from, Flight, after_sack, is_outdated, message_to_abandon}
use Rattle.sctp_delivery.proofs.Names.{reports_anew, take_sack, with_room, started-inflight, IsRunFrom, changed-run, past-is, nat_tests, distance-tsn, tsn}
use Rattle.sctp_delivery.proofs.Names.{Sack, abandoned_at, abandoned_each, fragments_with_mode, Transmission, Released, found-partial, flight_of, is_exchange}
use Rattle.sctp_delivery.proofs.Names.{SenderCall, SenderFollows, Session, of_sender, IsReported}
use Rattle.std.proofs.Common.{◌⊎◌}
use Rattle.std.proofs.lemmas.List.{drop-map}
use Rattle.sctp_outbound.specs.payload_queue.PayloadQueue as payload
use Rattle.sctp_outbound.proofs.lemmas.outbound_queue.SideBySide.{partial_before}
use Rattle.sctp_delivery.proofs.Continued.{AreContinued, IsContinued, abandoned-continued, ended-continued, facts, facts-abandoned, facts_of, gone_at}
use Rattle.sctp_delivery.proofs.Continued.{left-continued, sent-continued, facts-changed, facts-part-changed}
use Rattle.sctp_delivery.proofs.FewInFlight.{IsInRun, IsRegular, IsSmall, sack-place}
use Rattle.sctp_delivery.proofs.ValidMarks.{IsUnmarked, fresh-started}
use Rattle.sctp_sender.proofs.InLine.{put-behind}
use Rattle.sctp_sender.specs.Flight.{count_acked, sack_refusal}
use Rattle.sctp_delivery.specs.SenderCalls as outgoing
use Rattle.sctp_delivery.specs.Session.{count_in_flight}
use Rattle.sctp_delivery.proofs.Cases.{all_streams}
use Rattle.sctp_delivery.proofs.Every.{every-contained}
use Rattle.sctp_delivery.proofs.GivenTsns.{IsNumbered}
use Rattle.sctp_delivery.proofs.Queues.{Stands, abandoned, started}
use Rattle.sctp_delivery.proofs.Senders.{IsHeld}
use Rattle.sctp_delivery.proofs.Numbers.{number_of}
use Rattle.sctp_delivery.proofs.Sent.{Entry, Numbered}
use Rattle.sctp_delivery.proofs.TsnPlaces.{before}
use Rattle.sctp_delivery.proofs.Writing.{in-front, accepted-stream}
use Rattle.sctp_delivery.proofs.QueueChunks.{peeked}
use Rattle.sctp_delivery.proofs.Changes.{Change, all_start, acknowledges, changes, each_leaves, flight_after, front_expires, more_room, nothing, one_leaves}
use Rattle.sctp_delivery.proofs.Changes.{partial-found, some_marked, some_missed}

-- how many chunks wait or are in flight
abbrev pub left : Outbound → ℕ
left q = chunk_count q.pending + length q.inflight.chunks

-- what a call makes of the queues: no more chunks are left, where it is one of an exchange
pub record Goes (exchange : Bool) (q r : Outbound) : Type 0 where
  pub continued : IsContinued q → IsContinued r
  pub fewer : exchange ≡ true → left r ≤ left q

pub goes-none : (b : Bool) (q : Outbound) → Goes b q q
goes-none b q = record { continued = λ c. c; fewer = λ e. omega arith }

pub goes-then : (q r o : Outbound) → Goes true q r → Goes true r o → Goes true q o
goes-then q r o a b = grind (arith, nat_tests)

count-facts : (cs : List ChunkPayloadData) → length (facts_of cs) ≡ length cs
count-facts cs = length-map cs facts

-- the same is so of the chunks in flight, the same message is partially sent, and no more chunks wait
pub same-goes : (b : Bool) (q r : Outbound) → facts_of r.inflight.chunks ≡ facts_of q.inflight.chunks
    → partially_sent r.pending ≡ partially_sent q.pending → (b ≡ true → chunk_count r.pending ≤ chunk_count q.pending) → Goes b q r
same-goes b q r same partial fewer = grind (arith, nat_tests, count-facts)

-- ## Lifetimes

pub started-goes : (now : ℕ) (q : Outbound) → Goes true q (all_started now q)
started-goes now q = grind (arith, nat_tests, goes-none, length-change_where, same-goes)

-- ## Sending

-- a chunk with this TSN goes behind those in flight
pub record CanPut (cs : List ChunkPayloadData) (tsn : ℕ) : Type 0 where
  pub first : ℕ
  pub small : first < 2 ^ 32
  pub few : length cs < 2 ^ 31
  pub run : IsRunFrom first cs
  pub is : tsn ≡ (first + length cs) % 2 ^ 32

-- a chunk that is taken leaves one fewer
pub popped : (k : Option Bool) (os us : List ChunkPayloadData) (sel : Option Selected) (ro ru : ℕ) (c : ChunkPayloadData)
    → chunk_to_pop_from k (made os us sel ro ru) ≡ Some c → chunk_count (rest_from k (made os us sel ro ru)) + 1 ≡ chunk_count (made os us sel ro ru)
popped k os us sel ro ru c h8 = grind (arith, nat_tests)

partial-on : (k : Option Bool) (os us : List ChunkPayloadData) (sel : Option Selected) (ro ru : ℕ) (c : ChunkPayloadData)
    → chunk_to_pop_from k (made os us sel ro ru) ≡ Some c → c.ending_fragment ≡ false → ((m : ℕ) → partial_of sel ≡ Some m → c.message_id ≡ m)
    → partially_sent (rest_from k (made os us sel ro ru)) ≡ Some c.message_id
partial-on k os us sel ro ru c h8 h9 h10 = grind (arith, nat_tests)

pub goes-with : (m : ℕ) (c : ChunkPayloadData) (o : Option ChunkPayloadData) → o ≡ Some c → GoesOn m o → c.message_id ≡ m
goes-with m c None e g = absurd g
goes-with m c (Some d) e g = ap (λ (x : ChunkPayloadData). x.message_id) (sym (some-same e)) ∙ g.0

-- the fragment that is next is sent
pub sent-goes : (q : Outbound) (tsn now : ℕ) → IsSendable q.pending q.inflight.chunks q.next_message_id → CanPut q.inflight.chunks tsn
    → (o : Option ChunkPayloadData) → next_pending q.pending ≡ o → ((c : ChunkPayloadData) → o ≡ Some c → IsUnmarked c) → Goes true q (sent_of o q tsn now)
sent-goes q tsn now k can None e unmarked = goes-none true q
sent-goes q tsn now k can (Some c) e unmarked = record {
  continued = λ s.
      subst (AreContinued (partially_sent (rest_after c.beginning_fragment c.unordered p))) (sym all)
      (sent-continued (partially_sent p) (partially_sent (rest_after c.beginning_fragment c.unordered p)) c.message_id c.ending_fragment
      (facts_of q.inflight.chunks) partial (λ f. partial-on (list_to_pop p.selected c.beginning_fragment c.unordered) p.ordered p.unordered p.selected
      p.ordered_room p.unordered_room c on f partial) s);
  fewer = λ _.
      let n = popped (list_to_pop p.selected c.beginning_fragment c.unordered) p.ordered p.unordered p.selected p.ordered_room p.unordered_room c on in
      let m = ap length at-end in
      let l = length-append q.inflight.chunks (as_sent tsn now c ∷ []) in
      omega (arith, n, m, l);
}
  where
    p : Pending
    p = q.pending

    on : chunk_to_pop_from (list_to_pop q.pending.selected c.beginning_fragment c.unordered) q.pending ≡ Some c
    on = (sendable-sent q.pending q.inflight.chunks q.next_message_id c (as_sent tsn now c) refl k e).taken

    partial : (m : ℕ) → partial_of q.pending.selected ≡ Some m → c.message_id ≡ m
    partial m h = goes-with m c (next_pending q.pending) e (goes_on q.pending q.inflight.chunks q.next_message_id m k h)

    at-end : insert_before chunk_before (as_sent tsn now c) q.inflight.chunks ≡ q.inflight.chunks ++ as_sent tsn now c ∷ []
    at-end = put-behind (as_sent tsn now c) q.inflight.chunks can.first can.small can.few can.run can.is

    open' : c.abandoned ≡ false
    open' = (unmarked c refl).1

    all : facts_of (insert_before chunk_before (as_sent tsn now c) q.inflight.chunks)
        ≡ facts_of q.inflight.chunks ++ (c.message_id, c.ending_fragment, false) ∷ []
    all = ap facts_of at-end ∙ map-append facts q.inflight.chunks (as_sent tsn now c ∷ [])
        ∙ ap (λ b. facts_of q.inflight.chunks ++ (c.message_id, c.ending_fragment, b) ∷ []) open'

-- ## A message is abandoned

few-without : (m : ℕ) (cs : List ChunkPayloadData) → length (without_message m cs) ≤ length cs
few-without m [] = omega arith
few-without m (c ∷ cs) = grind (arith, nat_tests, few-without m cs)

fewer-without : (m : ℕ) (cs : List ChunkPayloadData) → list_any (is_of m) cs ≡ true → length (without_message m cs) + 1 ≤ length cs
fewer-without m [] e = absurd (not_both e)
fewer-without m (c ∷ cs) e = grind (arith, nat_tests, few-without, fewer-without m cs)

waiting-gone : (m : ℕ) (p : Pending) → waits m p ≡ true → chunk_count (without m p) + 1 ≤ chunk_count p
waiting-gone m p w = grind (arith, nat_tests, few-without, fewer-without, or-split)

-- nothing is partially sent, or a terminal chunk has its place
abbrev pub HasPlace : Outbound → ℕ → Type 0
HasPlace q tsn = (partially_sent q.pending ≡ None) ⊎ CanPut q.inflight.chunks tsn

pub record Abandons (q r : Outbound) (tsn : ℕ) : Type 0 where
  pub goes : Goes true q r
  pub place : HasPlace r tsn

module _ (q : Outbound) (tsn : ℕ) (k : IsSendable q.pending q.inflight.chunks q.next_message_id) (m : ℕ) where
  abbrev marked : Outbound
  marked = record q { inflight = payload.with_chunks q.inflight (change_where (is_of m) as_abandoned q.inflight.chunks) }

  abbrev ended : Option ChunkPayloadData → Outbound
  ended o = record q {
    pending = without m q.pending;
    inflight = with_terminal_chunk o tsn (payload.with_chunks q.inflight (change_where (is_of m) as_abandoned q.inflight.chunks));
  }

  long : length (change_where (is_of m) as_abandoned q.inflight.chunks) ≡ length q.inflight.chunks
  long = length-change_where (is_of m) as_abandoned q.inflight.chunks

  run-on : (first : ℕ) → IsRunFrom first q.inflight.chunks → IsRunFrom first (change_where (is_of m) as_abandoned q.inflight.chunks)
  run-on first run = changed-run (is_of m) as_abandoned (λ c. refl) q.inflight.chunks ∙ run ∙ ap (tsns_from first) (sym long)

  marked-place : HasPlace q tsn → HasPlace marked tsn
  marked-place (inl none) = inl none
  marked-place (inr can) = grind (arith, nat_tests, long, run-on)

  -- none of it waits
  whole-goes : waits m q.pending ≡ false → Goes true q marked
  whole-goes w = record {
    continued = λ s.
        subst (AreContinued (partially_sent q.pending)) (sym (facts-abandoned m q.inflight.chunks))
        (abandoned-continued (partially_sent q.pending) m (facts_of q.inflight.chunks) (λ partial. not_both (sym w ∙ waiting partial)) s);
    fewer = λ _. omega (arith, long);
  }
    where
      waiting : partially_sent q.pending ≡ Some m → waits m q.pending ≡ true
      waiting partial =
          let p = q.pending in
          partial_waits p.ordered p.unordered p.selected p.ordered_room p.unordered_room q.next_message_id m q.inflight.chunks k partial

  -- its terminal chunk stands behind those in flight
  ended-goes : waits m q.pending ≡ true → partially_sent q.pending ≡ Some m → CanPut q.inflight.chunks tsn → (o : Option ChunkPayloadData)
      → last_removed m q.pending ≡ o → Goes true q (ended o)
  ended-goes w partial can None e = absurd (no_last m q.pending w e)
  ended-goes w partial can (Some c) e = record {
    continued = λ s.
        subst (AreContinued (partially_sent (without m q.pending))) (sym all)
        (ended-continued (partially_sent q.pending) (partially_sent (without m q.pending)) m (facts_of q.inflight.chunks) partial s);
    fewer = grind (arith, nat_tests, common_steps, waiting-gone, at-end, length-append, long);
  }
    where
      at-end : insert_before chunk_before (terminal_chunk tsn c) (change_where (is_of m) as_abandoned q.inflight.chunks)
          ≡ change_where (is_of m) as_abandoned q.inflight.chunks ++ terminal_chunk tsn c ∷ []
      at-end = grind (arith, nat_tests, long, put-behind, run-on)

      all : facts_of (insert_before chunk_before (terminal_chunk tsn c) (change_where (is_of m) as_abandoned q.inflight.chunks))
          ≡ map (gone_at m) (facts_of q.inflight.chunks) ++ (m, true, true) ∷ []
      all = grind (arith, nat_tests, at-end, facts-abandoned, last_is_of, map-append)

pub abandoned-goes : (q : Outbound) (tsn : ℕ) → IsSendable q.pending q.inflight.chunks q.next_message_id → (o : Option ℕ)
    → ((m : ℕ) → o ≡ Some m → waits m q.pending ≡ true → partially_sent q.pending ≡ Some m) → HasPlace q tsn
    → Abandons q (abandoned_of o tsn q) (tsn_after_of o tsn q)
abandoned-goes q tsn k None partial place = record { goes = goes-none true q; place = place }
abandoned-goes q tsn k (Some m) partial place = grind (arith, nat_tests, abandoned_none, ended-goes, marked-place, none-some, partial_gone, whole-goes)

-- ## A message expires

-- a message that is in front whole is not partially sent
none-partial : (q : Outbound) → IsSendable q.pending q.inflight.chunks q.next_message_id → (c : ChunkPayloadData) → next_pending q.pending ≡ Some c
    → c.beginning_fragment ≡ true → (o : Option ℕ) → partially_sent q.pending ≡ o → o ≡ None
none-partial q k c e begins None h = refl
none-partial q k c e begins (Some m) h = absurd (inner (next_pending q.pending) e (goes_on q.pending q.inflight.chunks q.next_message_id m k h))
  where
    inner : (o : Option ChunkPayloadData) → o ≡ Some c → GoesOn m o → ⊥
    inner None f g = g
    inner (Some d) f g = not_both (sym g.1 ∙ ap (λ (x : ChunkPayloadData). x.beginning_fragment) (some-same f) ∙ begins)

pub expired-goes : (q : Outbound) → IsSendable q.pending q.inflight.chunks q.next_message_id → (c : ChunkPayloadData) → next_pending q.pending ≡ Some c
    → c.beginning_fragment ≡ true → Goes true q (expired_of (Some c) q)
expired-goes q k c e begins = grind (arith, nat_tests, few-without, length-change_where, none-partial, none-some, partial_before, same-goes)

-- ## Chunks leave

-- the first so many
pub dropped-goes : (q : Outbound) (cs : List ChunkPayloadData) (k : ℕ) → facts_of cs ≡ facts_of q.inflight.chunks
    → Goes true q (with_inflight q (drop k cs))
dropped-goes q cs k same = record {
  continued = λ s.
      subst (AreContinued (partially_sent q.pending)) (ap (drop k) (sym same) ∙ drop-map facts k cs)
      (left-continued (partially_sent q.pending) k (facts_of q.inflight.chunks) s);
  fewer = grind (arith, nat_tests, common_steps);
}

-- # What each call of a sender makes of the chunks in flight and of how many are left, while few are in flight

-- ## A SACK

-- a SACK that is not out of date takes the first so many out
pub sack-leaves : (p n place : ℕ) (s : Sack) (f : Flight) → n < 2 ^ 31 → place ≤ n → s.cumulative_tsn_ack ≡ tsn p place → (h : IsNumbered p n f)
    → is_outdated s f ≡ false
    → (take_sack s f).queue.inflight.chunks ≡ drop (place - h.acked) (change_where (reports_anew s) as_acknowledged f.queue.inflight.chunks)
sack-leaves p n place s f few within is h e =
    let cs = change_where (reports_anew s) as_acknowledged f.queue.inflight.chunks in
    let long = length-change_where (reports_anew s) as_acknowledged f.queue.inflight.chunks in
    let total = h.total in
    let order : nat_lt place h.acked ≡ false =
    sym (before p place h.acked (omega (arith, within, few)) (omega (arith, total, few))) ∙ ap (λ t. comes_before t (tsn p h.acked)) (sym is)
    ∙ ap (comes_before s.cumulative_tsn_ack) (sym h.acked_is) ∙ e in
    let le : h.acked ≤ place =
    grind (
      arith,
      nat_tests,
      order,
    ) in
    let far : distance f.acked_tsn s.cumulative_tsn_ack ≡ place - h.acked =
    ap (λ t. distance t s.cumulative_tsn_ack) h.acked_is ∙ ap (distance (tsn p h.acked)) is ∙ distance-tsn p h.acked place le (omega (arith, within, few)) in
    let small : f.acked_tsn < 2 ^ 32 = grind (arith, nat_tests, common_steps) in
    let fits : s.cumulative_tsn_ack < 2 ^ 32 = grind (arith, nat_tests, common_steps) in
    let run : IsRunFrom (tsn p (h.acked + 1)) cs =
    changed-run (reports_anew s) as_acknowledged (λ c. refl) f.queue.inflight.chunks ∙ h.run ∙ ap (tsns_from (tsn p (h.acked + 1))) (sym long) in
    let first : (f.acked_tsn + 1) % 2 ^ 32 ≡ tsn p (h.acked + 1) = grind (arith, nat_tests, common_steps) in
    grind (arith, nat_tests, past-is)

sack-goes : (k : Sack) (f : Flight) → IsSmall k.cumulative_tsn_ack → length f.queue.inflight.chunks < 2 ^ 31 → sack_refusal k f ≡ None → IsInRun f
    → Goes true f.queue (after_sack k f).queue
sack-goes k f small few none h = by (is_outdated k f) refl
  where
    by : (b : Bool) → is_outdated k f ≡ b → Goes true f.queue (if b then f else take_sack k f).queue
    by true e = goes-none true f.queue
    by false e =
        let cs = change_where (reports_anew k) as_acknowledged f.queue.inflight.chunks in
        let at = sack-place k f small none h e in
        subst (λ ds. Goes true f.queue (with_inflight f.queue ds))
        (sym (sack-leaves f.acked_tsn (length f.queue.inflight.chunks) (count_acked k f) k f few at.0 at.1 h e))
        (dropped-goes f.queue cs (count_acked k f - h.acked) (facts-changed (reports_anew k) as_acknowledged (λ c. refl) f.queue.inflight.chunks))

-- ## Messages are abandoned

gone-each : (ws : List Numbered) (first : ℕ) (number : ℕ → ℕ) (tsns : List ℕ) (f : Flight) (sent : List Entry)
    → Stands ws first number f.queue f.next_tsn sent → HasPlace f.queue f.next_tsn → Goes true f.queue (abandoned_each tsns f).queue
gone-each ws first number [] f sent s place = goes-none true f.queue
gone-each ws first number (t ∷ ts) f sent s place =
    let o = message_to_abandon t f in
    let partial = found-partial f.queue s.sendable t (find (has_tsn t) f.queue.inflight.chunks) refl in
    let a = abandoned-goes f.queue f.next_tsn s.sendable o partial place in
    let b = abandoned all_streams ws first number f.queue f.next_tsn sent s o partial in
    goes-then f.queue (abandoned_at t f).queue (abandoned_each ts (abandoned_at t f)).queue a.goes
    (gone-each ws first number ts (abandoned_at t f) b.more b.stands a.place)

-- ## A write

message-same : (cs : List ChunkPayloadData) (q : Outbound) → Goes false q (with_message cs q)
message-same cs q = grind (arith, nat_tests)

-- ## The calls

module _ (old new : Session) (few : count_in_flight old < 2 ^ 31) (i : IsRegular old) (ws : List Numbered) (first : ℕ) (sent : List Entry)
    (held : IsHeld ws first old.sending.sender sent) where
  h : IsInRun old.sending.sender.flight
  h = i.numbered

  abbrev queue : Outbound
  queue = old.sending.sender.flight.queue

  abbrev GoesBy : Bool → Type 0
  GoesBy b = Goes b old.sending.sender.flight.queue new.sending.sender.flight.queue

  goes-to : (b : Bool) (t : Transmission) → new.sending.sender ≡ t → Goes b old.sending.sender.flight.queue t.flight.queue → GoesBy b
  goes-to b t e g = subst (λ (u : Transmission). Goes b queue u.flight.queue) (sym e) g

  place : CanPut old.sending.sender.flight.queue.inflight.chunks old.sending.sender.flight.next_tsn
  place = grind (arith, nat_tests)

  sends : (now : ℕ) → Goes true old.sending.sender.flight.queue (sent_next old.sending.sender.flight.queue old.sending.sender.flight.next_tsn now)
  sends now =
      let q = all_started now queue in
      let next = old.sending.sender.flight.next_tsn in
      let s = started all_streams ws first (λ st. number_of st old.sending.sender.streams) now queue next sent held.stands in
      let w = fresh-started now queue i.fresh in
      goes-then queue q (sent_next queue next now) (started-goes now queue)
      (sent-goes q next now s.sendable (subst (λ (i : payload.Payload). CanPut i.chunks next) (sym (started-inflight now queue)) place)
      (next_pending q.pending) refl (λ c e. peeked IsUnmarked q.pending.selected q.pending c e (w.ordered, w.unordered)))

  changed-goes : (call : SenderCall) → ((k : Sack) (gone : List Released) → call ≡ outgoing.takes_sack k gone → IsSmall k.cumulative_tsn_ack
      × (sack_refusal k (flight_of old) ≡ None)) → (c : Change call old.sending.sender) → Goes true queue (flight_after call old.sending.sender c).queue
  changed-goes call t nothing = goes-none true queue
  changed-goes call t (all_start now) = started-goes now queue
  changed-goes call t (more_room count) = same-goes true queue (with_room count queue) refl refl (λ _. omega arith)
  changed-goes call t (some_marked q f k) = grind (arith, nat_tests, facts-changed, same-goes)
  changed-goes call t (some_missed count) = grind (arith, nat_tests, facts-part-changed, same-goes)
  changed-goes call t (one_leaves o e found) =
      (abandoned-goes queue old.sending.sender.flight.next_tsn held.stands.sendable o
      (partial-found old.sending.sender held.stands.sendable o found) (inr place)).goes
  changed-goes call t (each_leaves ts short e) =
      gone-each ws first (λ s. number_of s old.sending.sender.streams) ts (flight_of old) sent held.stands (inr place)
  changed-goes call t (front_expires now c found e) = grind (arith, nat_tests, expired-goes, in-front)
  changed-goes call t (acknowledges k gone e) = let x = t k gone e in sack-goes k (flight_of old) x.0 few x.1 h

  pub calls-go : (call : SenderCall) → SenderFollows call old new → GoesBy (is_exchange (of_sender call))
  calls-go (outgoing.writes stream ppi []) f = goes-to false _ (f.exact.0 refl) (goes-none false queue)
  calls-go (outgoing.writes stream ppi (b ∷ bs)) f =
      let l = accepted-stream stream (length (b ∷ bs)) old.sending.sender f.accepted in
      goes-to false _ (f.exact.1 (omega arith) l.0 l.1) (message-same (fragments_with_mode l.0 ppi (b ∷ bs)) queue)
  calls-go (outgoing.sends now) f = goes-to true _ f.exact (sends now)
  calls-go call f =
      let x = changes old.sending.sender new.sending.sender call refl f.step.sender f.exact in
      subst (λ (g : Flight). Goes true queue g.queue) (sym x.flight)
      (changed-goes call (λ k gone e. (
        every-contained (λ (k : Sack). IsSmall k.cumulative_tsn_ack) old.sacks k (subst (λ c. IsReported c old) e f.handed) i.sacks,
        subst (λ c. outgoing.IsAccepted c old.sending.sender) e f.accepted,
      )) x.change)
