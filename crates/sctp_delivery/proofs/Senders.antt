-- What each call of a sender makes of its queues, its streams, and what it gave TSNs to.
use Rattle.sctp_delivery.proofs.Names.{common_steps, ◌≡◌, ℕ, ◌<◌, Bool, true, List, [], ◌∷◌, ◌++◌, take, drop, Option, Some, None, is_some, inl, inr, refl, ap}
use Rattle.sctp_delivery.proofs.Names.{sym, subst, ◌∙◌, arith, ⊤, ◌||◌, if◌then◌else◌, option_map, find, list_any, take-append-drop, nat_tests, change_where}
use Rattle.sctp_delivery.proofs.Names.{list_any-append, list_any-those, ChunkPayloadData, data_of, Sack, as_acknowledged, is_of, Outbound, all_started, as_sent}
use Rattle.sctp_delivery.proofs.Names.{sent_next, sent_of, with_inflight, past, next_pending, partially_sent, waits, peeked_all_started, KeepsMessage}
use Rattle.sctp_delivery.proofs.Names.{following_tsn, has_tsn, Flight, after_abandonment, is_outdated, message_to_abandon, next_after_send, released_by}
use Rattle.sctp_delivery.proofs.Names.{reports_anew, take_sack, abandoned_at, abandoned_each, after_abandoning, after_leaving, leaving_each, has_number}
use Rattle.sctp_delivery.proofs.Names.{less_by, Transmission, after_abandon, after_acked, with_flight, found-partial, OutboundStream, Made, data_chunk}
use Rattle.sctp_delivery.proofs.Names.{forward_tsn, next_chunk, with_chunk}
use Rattle.sctp_outbound.proofs.lemmas.pending_queue.CompleteMessages.{list_any-change_where}
use Rattle.sctp_delivery.proofs.Cases.{all_streams}
use Rattle.sctp_delivery.proofs.InFlight.{KeepsData, acknowledged-keeps, known-changed, known-part-changed}
use Rattle.sctp_delivery.proofs.Numbers.{AreApart, AreOpen, AreSized, IsSteady, all-open, number_of, steady-left, steady-less, steady-released, steady-same}
use Rattle.sctp_delivery.proofs.OrderedRest.{AreNamed, named-more}
use Rattle.sctp_delivery.proofs.Queues.{sends as sends-one, Abandons, IsEnded, IsOnceMore, StandsOn, abandoned, abandons-then, marked, no-abandons, once-ended}
use Rattle.sctp_delivery.proofs.Queues.{refilled, started}
use Rattle.sctp_delivery.proofs.Sent.{Entry, Numbered, WasSent, fragment, sent-more}
use Rattle.sctp_delivery.proofs.Every.{every-passing}

-- a sender, where these were written, and these entries got TSNs from the first one on
pub record IsHeldOn (on : ℕ → Bool) (ws : List Numbered) (first : ℕ) (t : Transmission) (sent : List Entry) : Type 0 where
  pub stands : StandsOn on ws first (λ s. number_of s t.streams) t.flight.queue t.flight.next_tsn sent
  pub open' : AreOpen on t.streams ws
  pub sized : AreSized t.streams
  pub apart : AreApart t.streams
  pub size : 0 < t.fragment_size

abbrev pub IsHeld : List Numbered → ℕ → Transmission → List Entry → Type 0
IsHeld ws first t sent = IsHeldOn all_streams ws first t sent

-- each DATA chunk that was made is one that got a TSN, and each name of a FORWARD-TSN is of a message that was begun
abbrev pub AreSentOn : (ℕ → Bool) → List Entry → List Made → Type 0
AreSentOn on sent [] = ⊤
AreSentOn on sent (data_chunk d ∷ ms) = WasSent sent d × AreSentOn on sent ms
AreSentOn on sent (forward_tsn f ∷ ms) = AreNamed on sent f.streams × AreSentOn on sent ms

abbrev pub AreSent : List Entry → List Made → Type 0
AreSent sent ms = AreSentOn all_streams sent ms

pub sent-then : (on : ℕ → Bool) (x : Entry) (sent : List Entry) (ms : List Made) → AreSentOn on sent ms → AreSentOn on (x ∷ sent) ms
sent-then on x sent [] a = tt
sent-then on x sent (data_chunk d ∷ ms) a = (sent-more x sent d a.0, sent-then on x sent ms a.1)
sent-then on x sent (forward_tsn f ∷ ms) a = (named-more on x sent f.streams a.0, sent-then on x sent ms a.1)

-- with the entry of this chunk, which is of its message; without one there is at most that of a terminal chunk more
abbrev pub IsMoreBy : Option ChunkPayloadData → List Entry → List Entry → Type 0
IsMoreBy None sent more = IsEnded sent more
IsMoreBy (Some c) sent more = (w : Numbered) × (after : List ℕ) × (more ≡ fragment (data_of c) w after ∷ sent) × (w.place ≡ c.message_id)

-- what a call makes of it, by which this chunk is sent, if there is one
pub record ResultOn (on : ℕ → Bool) (o : Option ChunkPayloadData) (ws vs : List Numbered) (first : ℕ) (sent : List Entry) (u : Transmission)
    (ms ns : List Made) : Type 0 where
  pub more : List Entry
  pub held : IsHeldOn on vs first u more
  pub once : IsOnceMore sent more
  pub grown : IsMoreBy o sent more
  pub made : AreSentOn on sent ms → AreSentOn on more ns

-- nothing gets a TSN
pub calm : (on : ℕ → Bool) (ws vs : List Numbered) (first : ℕ) (sent : List Entry) (u : Transmission) (ms : List Made) → IsHeldOn on vs first u sent
    → ResultOn on None ws vs first sent u ms ms
calm on ws vs first sent u ms h = record { more = sent; held = h; once = inl refl; grown = inl refl; made = λ a. a }

pub renumbered : (on : ℕ → Bool) (ws : List Numbered) (first : ℕ) (number number' : ℕ → ℕ) (q : Outbound) (next : ℕ) (sent : List Entry)
    → ((s : ℕ) → on s ≡ true → number' s ≡ number s)
    → StandsOn on ws first number q next sent → StandsOn on ws first number' q next sent
renumbered on ws first number number' q next sent same s = grind (arith, nat_tests, common_steps)

-- other streams, as steady, and what stands then
pub steady : (on : ℕ → Bool) (ws : List Numbered) (first : ℕ) (t : Transmission) (sent : List Entry) (h : IsHeldOn on ws first t sent)
    (ls : List OutboundStream)
    → IsSteady t.streams ls → (f : Flight) (more : List Entry) → StandsOn on ws first (λ s. number_of s t.streams) f.queue f.next_tsn more
    → IsHeldOn on ws first (record t { streams = ls; flight = f }) more
steady on ws first t sent h ls st f more s = grind (arith, nat_tests, common_steps, renumbered, all-open)

-- ## What is in flight changes

-- a change of some chunks in flight
pub changed : (on : ℕ → Bool) (ws : List Numbered) (first : ℕ) (t : Transmission) (sent : List Entry) (p : ChunkPayloadData → Bool)
    (f : ChunkPayloadData → ChunkPayloadData)
    → KeepsMessage f → KeepsData f → IsHeldOn on ws first t sent
    → IsHeldOn on ws first (record t {
      flight = record t.flight {
        queue = with_inflight t.flight.queue
            (change_where p f t.flight.queue.inflight.chunks);
      };
    }) sent
changed on ws first t sent p f keeps keeps' h =
    steady on ws first t sent h t.streams (steady-same t.streams)
    (record t.flight { queue = with_inflight t.flight.queue (change_where p f t.flight.queue.inflight.chunks) }) sent
    (marked on ws first (λ s. number_of s t.streams) t.flight.queue t.flight.next_tsn sent p f keeps keeps' h.stands)

-- of the first so many
pub first-changed : (on : ℕ → Bool) (ws : List Numbered) (first : ℕ) (t : Transmission) (sent : List Entry) (p : ChunkPayloadData → Bool)
    (f : ChunkPayloadData → ChunkPayloadData) (i : ℕ) → KeepsMessage f → KeepsData f → IsHeldOn on ws first t sent → IsHeldOn on ws first (record t {
      flight = record t.flight
          { queue = with_inflight t.flight.queue (change_where p f (take i t.flight.queue.inflight.chunks) ++ drop i t.flight.queue.inflight.chunks) };
    }) sent
first-changed on ws first t sent p f i keeps keeps' h =
    let cs = t.flight.queue.inflight.chunks in
    let ds = change_where p f (take i cs) ++ drop i cs in
    steady on ws first t sent h t.streams (steady-same t.streams) (record t.flight { queue = with_inflight t.flight.queue ds }) sent
    (refilled on ws first (λ s. number_of s t.streams) t.flight.queue t.flight.next_tsn sent ds (λ m e. sym (same m)
    ∙ e) (known-part-changed on first sent p f keeps' i cs h.stands.known) h.stands)
  where
    same : (m : ℕ) → list_any (is_of m)
        (change_where p f (take i t.flight.queue.inflight.chunks) ++ drop i t.flight.queue.inflight.chunks) ≡ list_any (is_of m) t.flight.queue.inflight.chunks
    same m =
        let cs = t.flight.queue.inflight.chunks in
        list_any-append (is_of m) (change_where p f (take i cs)) (drop i cs)
        ∙ ap (λ b. b || list_any (is_of m) (drop i cs)) (list_any-change_where p f keeps m (take i cs))
        ∙ sym (list_any-append (is_of m) (take i cs) (drop i cs))
        ∙ ap (list_any (is_of m)) (take-append-drop i cs)

pub acked : (on : ℕ → Bool) (ws : List Numbered) (first : ℕ) (t : Transmission) (sent : List Entry) (s : Sack) → IsHeldOn on ws first t sent
    → IsHeldOn on ws first (after_acked s t) sent
acked on ws first t sent s h =
    let st = steady-released (released_by s t.flight) t.streams in
    record {
      stands = renumbered on ws first (λ r. number_of r t.streams) (λ r. number_of r (after_acked s t).streams)
          (after_acked s t).flight.queue (after_acked s t).flight.next_tsn sent (λ r _. st.numbers r) (stands (is_outdated s t.flight));
      open' = all-open on t.streams (after_acked s t).streams (λ r _. st.there r) ws h.open';
      sized = st.sized h.sized;
      apart = st.apart h.apart;
      size = h.size;
    }
  where
    keeps : KeepsMessage as_acknowledged
    keeps = record { number = λ _. refl; begins = λ _. refl; ends = λ _. refl; kind = λ _. refl }

    fewer : (m : ℕ) → list_any (is_of m) (past s.cumulative_tsn_ack (change_where (reports_anew s) as_acknowledged t.flight.queue.inflight.chunks)) ≡ true
        → list_any (is_of m) t.flight.queue.inflight.chunks ≡ true
    fewer m e = sym (list_any-change_where (reports_anew s) as_acknowledged keeps m t.flight.queue.inflight.chunks)
        ∙ list_any-those (is_of m) _ (change_where (reports_anew s) as_acknowledged t.flight.queue.inflight.chunks) e

    stands : (b : Bool) → StandsOn on ws first (λ r. number_of r t.streams)
        (if b then t.flight else take_sack s t.flight).queue (if b then t.flight else take_sack s t.flight).next_tsn sent
    stands b = grind (arith, nat_tests, acknowledged-keeps, every-passing, fewer, known-changed, refilled)

-- ## Messages are abandoned

pub gone-one : (on : ℕ → Bool) (ws : List Numbered) (first : ℕ) (number : ℕ → ℕ) (f : Flight) (sent : List Entry)
    → StandsOn on ws first number f.queue f.next_tsn sent → (tsn : ℕ)
    → Abandons on ws first number sent f.queue (abandoned_at tsn f).queue (abandoned_at tsn f).next_tsn
gone-one on ws first number f sent s tsn =
    abandoned on ws first number f.queue f.next_tsn sent s (message_to_abandon tsn f)
    (found-partial f.queue s.sendable tsn (find (has_tsn tsn) f.queue.inflight.chunks) refl)

gone-each : (on : ℕ → Bool) (ws : List Numbered) (first : ℕ) (number : ℕ → ℕ) (tsns : List ℕ) (f : Flight) (sent : List Entry)
    → StandsOn on ws first number f.queue f.next_tsn sent
    → Abandons on ws first number sent f.queue (abandoned_each tsns f).queue (abandoned_each tsns f).next_tsn
gone-each on ws first number [] f sent s = no-abandons on ws first number sent f.queue f.next_tsn s
gone-each on ws first number (tsn ∷ tsns) f sent s =
    let a = gone-one on ws first number f sent s tsn in
    let g = abandoned_at tsn f in
    let b = gone-each on ws first number tsns g a.more a.stands in
    abandons-then on ws first number sent f.queue g.queue (abandoned_each tsns g).queue g.next_tsn (abandoned_each tsns g).next_tsn a b

grown : (on : ℕ → Bool) (sent more : List Entry) (ms : List Made) → IsOnceMore sent more → AreSentOn on sent ms → AreSentOn on more ms
grown on sent more ms (inl e) a = subst (λ xs. AreSentOn on xs ms) (sym e) a
grown on sent more ms (inr x) a = subst (λ xs. AreSentOn on xs ms) (sym x.1) (sent-then on x.0 sent ms a)

-- the streams have less, and the flight is what is left
left : (on : ℕ → Bool) (ws : List Numbered) (first : ℕ) (t : Transmission) (sent : List Entry) (ms : List Made) (ls : List OutboundStream) (f : Flight)
    → IsHeldOn on ws first t sent
    → IsSteady t.streams ls → Abandons on ws first (λ s. number_of s t.streams) sent t.flight.queue f.queue f.next_tsn
    → ResultOn on None ws ws first sent (record t { streams = ls; flight = f }) ms ms
left on ws first t sent ms ls f h st a = record {
  more = a.more;
  held = steady on ws first t sent h ls st f a.more a.stands;
  once = once-ended sent a.more a.ended;
  grown = a.ended;
  made = grown on sent a.more ms (once-ended sent a.more a.ended);
}

pub abandons-message : (on : ℕ → Bool) (ws : List Numbered) (first : ℕ) (t : Transmission) (sent : List Entry) (ms : List Made)
    → IsHeldOn on ws first t sent → (o : Option ℕ)
    → ((m : ℕ) → o ≡ Some m → waits m t.flight.queue.pending ≡ true → partially_sent t.flight.queue.pending ≡ Some m) → (stream bytes : ℕ)
    → ResultOn on None ws ws first sent (after_abandon o stream bytes t) ms ms
abandons-message on ws first t sent ms h o partial stream bytes =
    left on ws first t sent ms (change_where (has_number stream) (less_by bytes) t.streams) (after_abandonment o t.flight) h
    (steady-less stream bytes t.streams)
    (abandoned on ws first (λ s. number_of s t.streams) t.flight.queue t.flight.next_tsn sent h.stands o partial)

pub abandons-all : (on : ℕ → Bool) (ws : List Numbered) (first : ℕ) (t : Transmission) (sent : List Entry) (ms : List Made) → IsHeldOn on ws first t sent
    → (tsns : List ℕ)
    → ResultOn on None ws ws first sent (after_abandoning tsns t) ms ms
abandons-all on ws first t sent ms h tsns =
    left on ws first t sent ms (after_leaving (leaving_each tsns t.flight) t.streams)
    (abandoned_each tsns t.flight) h (steady-left (leaving_each tsns t.flight) t.streams)
    (gone-each on ws first (λ s. number_of s t.streams) tsns t.flight sent h.stands)

-- ## Sending

sent-of : (on : ℕ → Bool) (ws : List Numbered) (first : ℕ) (t : Transmission) (sent : List Entry) (ms : List Made) (now : ℕ) → IsHeldOn on ws first t sent
    → (q : Outbound)
    → StandsOn on ws first (λ s. number_of s t.streams) q t.flight.next_tsn sent → (o : Option ChunkPayloadData) → next_pending q.pending ≡ o
    → ResultOn on (option_map (as_sent t.flight.next_tsn now) o) ws ws first sent (record t {
      flight =
          record t.flight { queue = sent_of o q t.flight.next_tsn now; next_tsn = if is_some o then following_tsn t.flight.next_tsn else t.flight.next_tsn };
    }) ms (with_chunk (option_map (as_sent t.flight.next_tsn now) o) ms)
sent-of on ws first t sent ms now h q s None e = calm on ws ws first sent (record t { flight = record t.flight { queue = q } }) ms
    (steady on ws first t sent h t.streams (steady-same t.streams) (record t.flight { queue = q }) sent s)
sent-of on ws first t sent ms now h q s (Some c) e =
    let next = t.flight.next_tsn in
    let x = sends-one on ws first (λ r. number_of r t.streams) now q next sent c e s in
    let entry = fragment (data_of (as_sent next now c)) x.write x.after in
    record {
      more = entry ∷ sent;
      held = grind (arith, nat_tests, common_steps);
      once = inr (entry, refl);
      grown = (x.write, x.after, refl, x.place);
      made = λ a. ((x.write, x.after, sent, inl refl), sent-then on entry sent ms a);
    }

pub sends-next : (on : ℕ → Bool) (ws : List Numbered) (first : ℕ) (t : Transmission) (sent : List Entry) (ms : List Made) (now : ℕ)
    → IsHeldOn on ws first t sent
    → ResultOn on (next_chunk now t) ws ws first sent (with_flight
    (record t.flight { queue = sent_next t.flight.queue t.flight.next_tsn now; next_tsn = next_after_send t.flight }) t) ms (with_chunk (next_chunk now t) ms)
sends-next on ws first t sent ms now h =
    let r = all_started now t.flight.queue in
    subst (λ b. ResultOn on (next_chunk now t) ws ws first sent (with_flight (record t.flight
    { queue = sent_next t.flight.queue t.flight.next_tsn now; next_tsn = if b then following_tsn t.flight.next_tsn else t.flight.next_tsn }) t) ms
    (with_chunk (next_chunk now t) ms)) (peeked_all_started now t.flight.queue)
    (sent-of on ws first t sent ms now h r (started on ws first (λ s. number_of s t.streams) now t.flight.queue t.flight.next_tsn sent h.stands)
    (next_pending r.pending) refl)
