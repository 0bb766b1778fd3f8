-- A sender gives out no more TSNs than fragments were written: one for each at most, and for the rest of a message that it abandons.
use Rattle.std.proofs.Common.{◌≡◌, ◌+◌, ◌%◌, ◌^◌, ◌≤◌, ◌<◌, ℕ, zero, suc, Bool, true, false, List, [], ◌∷◌, length, drop, Option, Some, None, refl}
use Rattle.std.proofs.Common.{ap}
use Rattle.std.proofs.Common.{sym, subst, ◌∙◌, arith, length-append}
use Rattle.std.proofs.lemmas.Bool.Decides.{nat_tests}
use Rattle.std.proofs.lemmas.List.{length-map}
use Rattle.std.proofs.lemmas.Option.{none-some}
use Rattle.std.specs.List.{list_any}
use Rattle.std.specs.Prelude.{if◌then◌else◌, is_some}
use Rattle.sctp_association.specs.Hosts.{fragments_by, pieces_on}
use Rattle.sctp_data.specs.declared.chunk.chunk_payload_data.ChunkPayloadData.{ChunkPayloadData}
use Rattle.sctp_data.specs.declared.chunk.chunk_payload_data.PayloadProtocolIdentifier.{PayloadProtocolIdentifier}
use Rattle.sctp_data.specs.SelectiveAck.{Sack}
use Rattle.sctp_delivery.proofs.Changes.{Change, acknowledges, all_start, changes, each_leaves, flight_after, front_expires, more_room, nothing, one_leaves}
use Rattle.sctp_delivery.proofs.Changes.{some_marked, some_missed}
use Rattle.sctp_delivery.proofs.Writing.{accepted-stream}
use Rattle.sctp_delivery.specs.SenderCalls as outgoing
use Rattle.sctp_delivery.specs.SenderCalls.{SenderCall, SenderMakes}
use Rattle.sctp_outbound.proofs.lemmas.outbound_queue.Outbounds.{peeked_all_started}
use Rattle.sctp_outbound.proofs.lemmas.outbound_queue.Sendable.{sendable-sent}
use Rattle.sctp_outbound.specs.Marks.{is_of}
use Rattle.sctp_outbound.specs.declared.pending_queue.Selected.{Selected}
use Rattle.sctp_outbound.specs.outbound_queue.OutboundQueue.{Outbound, abandoned_of, all_started, as_sent, expired_of, sent_next, sent_of, tsn_after_of}
use Rattle.sctp_outbound.specs.outbound_queue.OutboundQueue.{with_message}
use Rattle.sctp_outbound.specs.pending_queue.PendingQueue.{Pending, chunk_count, chunk_to_pop_from, list_to_pop, next_pending, rest_from, without}
use Rattle.sctp_outbound.specs.pending_queue.PendingQueue.{without_message}
use Rattle.sctp_outbound.specs.pending_queue.Whole.{IsSendable, waits}
use Rattle.sctp_sender.specs.Flight.{Flight, is_outdated, message_to_abandon, next_after_send, take_sack, with_queue}
use Rattle.sctp_sender.specs.Late.{abandoned_at, abandoned_each}
use Rattle.sctp_sender.specs.Outgoing.{fragments_with_mode}
use Rattle.sctp_sender.specs.Sender.{Transmission, stream_of}
use Rattle.sctp_serial.specs.DataChunks.{following_tsn}
use Rattle.sctp_stream.specs.Stream.{pieces_of}
use Rattle.sctp_stream.specs.declared.outbound_stream.OutboundStream.{OutboundStream}
use Rattle.sctp_util.proofs.Cases.{or-split}
use Rattle.sctp_util.proofs.Edits.{length-change_where}
use Rattle.sctp_util.proofs.More.{not_both}
use Rattle.sctp_util.proofs.Passing.{length-kept-le}
use Rattle.sctp_util.specs.Kept.{always}
use Rattle.sctp_util.specs.Lists.{pieces}
use Rattle.sctp_util.specs.Serial.{distance}

-- ## Fragments of a write

abbrev pub waiting_in : Flight → ℕ
waiting_in f = chunk_count f.queue.pending

few-pieces : (most size : ℕ) (bytes : List ℕ) → length (pieces most size bytes) ≤ most
few-pieces zero size bytes = omega arith
few-pieces (suc most) size [] = omega arith
few-pieces (suc most) size (x ∷ xs) = let n = few-pieces most size (drop size (x ∷ xs)) in omega (arith, n)

-- there are no more of them than bytes
pub few-fragments : (o : Option OutboundStream) (bytes : List ℕ) → pieces_on o bytes ≤ length bytes
few-fragments None bytes = omega arith
few-fragments (Some l) bytes = few-pieces (length bytes) l.max_payload_size bytes

made-fragments : (l : OutboundStream) (ppi : PayloadProtocolIdentifier) (bytes : List ℕ) → length (fragments_with_mode l ppi bytes) ≤ length (pieces_of l bytes)
made-fragments l ppi bytes = grind (arith, nat_tests, length-map, length-kept-le always 0 (length (pieces_of l bytes)))

message-waits : (cs : List ChunkPayloadData) (q : Outbound) → chunk_count (with_message cs q).pending ≤ chunk_count q.pending + length cs
message-waits [] q = omega arith
message-waits (c ∷ cs) q = grind (arith, nat_tests, length-map, length-append)

-- ## What a call gives out

-- so many TSNs are given out, and at least so many fewer fragments wait, but for those that were written
pub record Uses (n : ℕ) (f g : Flight) : Type 0 where
  pub given : ℕ
  pub next : g.next_tsn ≡ (f.next_tsn + given) % 2 ^ 32
  pub fewer : given + waiting_in g ≤ waiting_in f + n

pub uses-none : (n : ℕ) (f g : Flight) → f.next_tsn < 2 ^ 32 → g.next_tsn ≡ f.next_tsn → waiting_in g ≤ waiting_in f + n → Uses n f g
uses-none n f g small next fewer = record { given = 0; next = omega (arith, small, next); fewer = omega (arith, fewer) }

uses-then : (f g h : Flight) → Uses 0 f g → Uses 0 g h → Uses 0 f h
uses-then f g h a b =
    let x = a.next in
    let y = b.next in
    let m = a.fewer in
    let n = b.fewer in
    record { given = a.given + b.given; next = omega (arith, x, y); fewer = omega (arith, m, n) }

uses-more : (n : ℕ) (f g : Flight) → Uses 0 f g → Uses n f g
uses-more n f g u = let m = u.fewer in record { given = u.given; next = u.next; fewer = omega (arith, m) }

-- a fragment is sent
popped : (k : Option Bool) (os us : List ChunkPayloadData) (sel : Option Selected) (ro ru : ℕ) (c : ChunkPayloadData)
    → chunk_to_pop_from k (record { ordered = os; unordered = us; selected = sel; ordered_room = ro; unordered_room = ru }) ≡ Some c
    → chunk_count (rest_from k (record { ordered = os; unordered = us; selected = sel; ordered_room = ro; unordered_room = ru })) + 1
    ≡ length os + length us
popped None os us sel ro ru c e = absurd (none-some c e)
popped (Some true) os [] sel ro ru c e = absurd (none-some c e)
popped (Some true) os (u ∷ us) sel ro ru c e = omega arith
popped (Some false) [] us sel ro ru c e = absurd (none-some c e)
popped (Some false) (o ∷ os) us sel ro ru c e = omega arith

pub sent-waits : (q : Outbound) (tsn now : ℕ) → IsSendable q.pending q.inflight.chunks q.next_message_id → (o : Option ChunkPayloadData)
    → next_pending q.pending ≡ o → is_some o ≡ true → chunk_count (sent_of o q tsn now).pending + 1 ≤ chunk_count q.pending
sent-waits q tsn now s None e some = absurd (not_both some)
sent-waits q tsn now s (Some c) e some =
    let p = q.pending in
    let n = popped (list_to_pop p.selected c.beginning_fragment c.unordered) p.ordered p.unordered p.selected p.ordered_room p.unordered_room c
    (sendable-sent p q.inflight.chunks q.next_message_id c (as_sent tsn now c) refl s e).taken in
    omega (arith, n)

same-waits : (q : Outbound) (tsn now : ℕ) (o : Option ChunkPayloadData) → is_some o ≡ false → chunk_count (sent_of o q tsn now).pending ≤ chunk_count q.pending
same-waits q tsn now None e = omega arith
same-waits q tsn now (Some c) e = absurd (not_both (sym e))

pub started-waits : (now : ℕ) (q : Outbound) → chunk_count (all_started now q).pending ≡ chunk_count q.pending
started-waits now q = grind (arith, nat_tests, length-change_where)

sends-uses : (now : ℕ) (f : Flight) → f.next_tsn < 2 ^ 32
    → IsSendable (all_started now f.queue).pending (all_started now f.queue).inflight.chunks (all_started now f.queue).next_message_id
    → Uses 0 f (record f { queue = sent_next f.queue f.next_tsn now; next_tsn = next_after_send f })
sends-uses now f small s = by (is_some (next_pending f.queue.pending)) refl
  where
    by : (b : Bool) → is_some (next_pending f.queue.pending) ≡ b
        → Uses 0 f (record f { queue = sent_next f.queue f.next_tsn now; next_tsn = if b then following_tsn f.next_tsn else f.next_tsn })
    by true e =
        let n =
        sent-waits (all_started now f.queue) f.next_tsn now s (next_pending (all_started now f.queue).pending) refl (peeked_all_started now f.queue ∙ e) in
        let m = started-waits now f.queue in
        record { given = 1; next = refl; fewer = omega (arith, n, m) }
    by false e =
        let n = same-waits (all_started now f.queue) f.next_tsn now (next_pending (all_started now f.queue).pending) (peeked_all_started now f.queue ∙ e) in
        let m = started-waits now f.queue in
        record { given = 0; next = omega (arith, small); fewer = omega (arith, n, m) }

-- a message is abandoned, and its terminal chunk has a TSN where a part of it waits
few-without : (m : ℕ) (cs : List ChunkPayloadData) → length (without_message m cs) ≤ length cs
few-without m [] = omega arith
few-without m (c ∷ cs) = grind (arith, nat_tests, few-without m cs)

fewer-without : (m : ℕ) (cs : List ChunkPayloadData) → list_any (is_of m) cs ≡ true → length (without_message m cs) + 1 ≤ length cs
fewer-without m [] e = absurd (not_both e)
fewer-without m (c ∷ cs) e = grind (arith, nat_tests, few-without, fewer-without m cs)

pub waiting-gone : (m : ℕ) (p : Pending) → waits m p ≡ true → chunk_count (without m p) + 1 ≤ chunk_count p
waiting-gone m p w = grind (arith, nat_tests, few-without, fewer-without, or-split)

pub waiting-less : (m : ℕ) (p : Pending) → chunk_count (without m p) ≤ chunk_count p
waiting-less m p = grind (arith, nat_tests, few-without)

abandons-uses : (o : Option ℕ) (f : Flight) → f.next_tsn < 2 ^ 32
    → Uses 0 f (record f { queue = abandoned_of o f.next_tsn f.queue; next_tsn = tsn_after_of o f.next_tsn f.queue })
abandons-uses None f small = uses-none 0 f f small refl (omega arith)
abandons-uses (Some m) f small = by (waits m f.queue.pending) refl
  where
    by : (b : Bool) → waits m f.queue.pending ≡ b
        → Uses 0 f (record f { queue = abandoned_of (Some m) f.next_tsn f.queue; next_tsn = if b then following_tsn f.next_tsn else f.next_tsn })
    by true e = let n = waiting-gone m f.queue.pending e in record { given = 1; next = refl; fewer = omega (arith, n) }
    by false e = let n = waiting-less m f.queue.pending in record { given = 0; next = omega (arith, small); fewer = omega (arith, n) }

small-then : (n : ℕ) (f g : Flight) → Uses n f g → g.next_tsn < 2 ^ 32
small-then n f g u = let x = u.next in omega (arith, x)

each-uses : (tsns : List ℕ) (f : Flight) → f.next_tsn < 2 ^ 32 → Uses 0 f (abandoned_each tsns f)
each-uses [] f small = uses-none 0 f f small refl (omega arith)
each-uses (tsn ∷ tsns) f small =
    let a = abandons-uses (message_to_abandon tsn f) f small in
    uses-then f (abandoned_at tsn f) (abandoned_each tsns (abandoned_at tsn f)) a
    (each-uses tsns (abandoned_at tsn f) (small-then 0 f (abandoned_at tsn f) a))

-- a message in front expires
pub expired-waits : (c : ChunkPayloadData) (q : Outbound) → chunk_count (expired_of (Some c) q).pending ≤ chunk_count q.pending
expired-waits c q = grind (arith, nat_tests, few-without, length-change_where)

-- a SACK gives out none
pub sack-uses : (k : Sack) (f : Flight) → f.next_tsn < 2 ^ 32 → Uses 0 f (if is_outdated k f then f else take_sack k f)
sack-uses k f small = by (is_outdated k f)
  where
    by : (b : Bool) → Uses 0 f (if b then f else take_sack k f)
    by true = uses-none 0 f f small refl (omega arith)
    by false = uses-none 0 f (take_sack k f) small refl (omega arith)

module _ (t : Transmission) (small : t.flight.next_tsn < 2 ^ 32) where
  change-uses : (call : SenderCall) (c : Change call t) → Uses 0 t.flight (flight_after call t c)
  change-uses call nothing = uses-none 0 t.flight t.flight small refl (omega arith)
  change-uses call (all_start now) =
      let n = started-waits now t.flight.queue in
      uses-none 0 t.flight (with_queue t.flight (all_started now t.flight.queue)) small refl (omega (arith, n))
  change-uses call (more_room count) = uses-none 0 t.flight (flight_after call t (more_room count)) small refl (omega arith)
  change-uses call (some_marked p f k) = uses-none 0 t.flight (flight_after call t (some_marked p f k)) small refl (omega arith)
  change-uses call (some_missed count) = uses-none 0 t.flight (flight_after call t (some_missed count)) small refl (omega arith)
  change-uses call (one_leaves o e found) = abandons-uses o t.flight small
  change-uses call (each_leaves tsns short e) = each-uses tsns t.flight small
  change-uses call (front_expires now c found e) =
      let n = expired-waits c t.flight.queue in
      uses-none 0 t.flight (with_queue t.flight (expired_of (Some c) t.flight.queue)) small refl (omega (arith, n))
  change-uses call (acknowledges k gone e) = sack-uses k t.flight small

  -- whatever call of the sender
  pub makes-uses : (ready : (now : ℕ) → IsSendable (all_started now t.flight.queue).pending (all_started now t.flight.queue).inflight.chunks
      (all_started now t.flight.queue).next_message_id)
      (call : SenderCall) (u : Transmission) → SenderMakes call t u → Uses (fragments_by call t) t.flight u.flight
  makes-uses ready (outgoing.writes stream ppi []) u m =
      subst (λ (v : Transmission). Uses (fragments_by (outgoing.writes stream ppi []) t) t.flight v.flight) (sym (m.1.0.0 refl))
      (uses-none (fragments_by (outgoing.writes stream ppi []) t) t.flight t.flight small refl (omega arith))
  makes-uses ready (outgoing.writes stream ppi (b ∷ bytes)) u m =
      let l = accepted-stream stream (length (b ∷ bytes)) t m.1.1.0 in
      let cs = fragments_with_mode l.0 ppi (b ∷ bytes) in
      let n = message-waits cs t.flight.queue in
      let k = made-fragments l.0 ppi (b ∷ bytes) in
      let same : pieces_on (stream_of stream t) (b ∷ bytes) ≡ length (pieces_of l.0 (b ∷ bytes)) = ap (λ o. pieces_on o (b ∷ bytes)) l.1 in
      let f = with_queue t.flight (with_message cs t.flight.queue) in
      subst (λ (v : Transmission). Uses (fragments_by (outgoing.writes stream ppi (b ∷ bytes)) t) t.flight v.flight)
      (sym (m.1.0.1 (omega arith) l.0 l.1))
      (uses-none (pieces_on (stream_of stream t) (b ∷ bytes)) t.flight f small refl (omega (arith, n, k, same)))
  makes-uses ready (outgoing.sends now) u m =
      subst (λ (v : Transmission). Uses 0 t.flight v.flight) (sym m.1.0) (sends-uses now t.flight small (ready now))
  makes-uses ready call u m =
      let x = changes t u call refl m.0 m.1.0 in
      uses-more (fragments_by call t) t.flight u.flight
      (subst (λ (g : Flight). Uses 0 t.flight g) (sym x.flight) (change-uses call x.change))

-- ## A session

pub no-further : (a k : ℕ) → a < 2 ^ 32 → distance a ((a + k) % 2 ^ 32) ≤ k
unfolding distance
no-further a k small = omega (arith, small)
