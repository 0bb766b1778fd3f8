-- A write, and a message that expires: what the calls make of the queues and the streams.
use Rattle.sctp_delivery.proofs.Names.{◌≡◌, ℕ, ◌+◌, ◌%◌, ◌^◌, ◌<◌, Bool, true, false, not, List, ◌∷◌, length, map, drop, Option, Some, None, refl, ap, sym}
use Rattle.sctp_delivery.proofs.Names.{subst, ◌∙◌, arith, ◌==◌, ◌&&◌, if◌then◌else◌, nat_lt, nat_tests, always, numbers_where, change_where, pieces, by_same}
use Rattle.sctp_delivery.proofs.Names.{negated, same-is, same-yes, both, ChunkPayloadData, PayloadProtocolIdentifier, is_ordered, expiring, is_expired, passing}
use Rattle.sctp_delivery.proofs.Names.{with_message_id, next_pending, after_expiry, fragments_with_mode, has_number, with_reliability, wrote, Transmission}
use Rattle.sctp_delivery.proofs.Names.{after_expire, write_refusal, written_to, OutboundStream, fragment_at, Made}
use Rattle.sctp_sender.specs.Sender.{stream_of}
use Rattle.sctp_sender.proofs.SenderStreams.{made, one-message}
use Rattle.sctp_delivery.proofs.Cases.{where-is, where-yes}
use Rattle.sctp_delivery.proofs.Fragments.{fragments-turn, fragments-wait, nth}
use Rattle.sctp_delivery.proofs.Numbers.{all-open, apart-changed, found-there, is_there, number-changed, number-elsewhere, number-found, number-is, number_of}
use Rattle.sctp_delivery.proofs.Numbers.{open-of, size-found, steady-changed, sized-changed, there-changed, there-found}
use Rattle.sctp_delivery.proofs.Pushing.{IsLower, expired, pushed}
use Rattle.sctp_delivery.proofs.Senders.{IsHeldOn, ResultOn, calm}
use Rattle.sctp_delivery.proofs.Sending.{next-fits}
use Rattle.sctp_delivery.proofs.Sent.{Entry, Numbered}
use Rattle.sctp_delivery.proofs.Turns.{Turns, counts, number_after}
use Rattle.sctp_delivery.proofs.Waiting.{Waits, between, lower}
use Rattle.sctp_delivery.proofs.Sessions.{unnot}

-- ## A write

module _ (on : ℕ → Bool) (ws : List Numbered) (first : ℕ) (t : Transmission) (sent : List Entry) (ms : List Made) (h : IsHeldOn on ws first t sent) (stream : ℕ)
    (ppi : PayloadProtocolIdentifier) (b : ℕ) (bs : List ℕ) (l : OutboundStream) (found : stream_of stream t ≡ Some l) where
  abbrev next_id : ℕ
  next_id = t.flight.queue.next_message_id

  abbrev bytes : List ℕ
  bytes = b ∷ bs

  abbrev write : Numbered
  write = record { stream = stream; payload_type = ppi; bytes = b ∷ bs; place = next_id }

  abbrev later : ℕ
  later = length (pieces (length bs) l.max_payload_size (drop l.max_payload_size (b ∷ bs)))

  abbrev after : List OutboundStream
  after = change_where (has_number stream) (wrote ppi (b ∷ bs)) t.streams

  is-stream : l.stream_identifier ≡ stream
  is-stream = number-is stream t.streams l found

  some : 0 < l.max_payload_size
  some = size-found stream t.streams l found h.sized

  numbers-after : number_of stream after
      ≡ (if is_ordered l.unordered ppi && nat_lt 0 (length (b ∷ bs)) then (l.sequence_number + 1) % 2 ^ 16 else l.sequence_number)
  numbers-after = number-changed stream (wrote ppi (b ∷ bs)) (λ x. refl) t.streams l found

  waits : Waits (write ∷ ws) (map (with_message_id next_id) (fragments_with_mode l ppi (b ∷ bs))) between
  waits =
      subst (λ (k : ℕ). let w : Numbered = record { stream = k; payload_type = ppi; bytes = b ∷ bs; place = next_id } in
      Waits (w ∷ ws) (map (with_message_id next_id) (fragments_with_mode l ppi (b ∷ bs))) between) is-stream
      (fragments-wait ws next_id l ppi (b ∷ bs) some later refl)

  unordered-same : not (is_ordered l.unordered ppi) ≡ true → (r : ℕ) → number_of r after ≡ number_of r t.streams
  unordered-same e r = grind (arith, nat_tests, by_same, negated, number-elsewhere, number-found, numbers-after)

  counts-are : (r : ℕ) (k : Bool) → (l.stream_identifier == r) ≡ k → counts r (nth ws next_id l ppi (b ∷ bs) some 0) ≡ k
  counts-are r true e = ap (λ k. k && (0 == 0)) e
  counts-are r false e = ap (λ k. k && (0 == 0)) e

  ordered-turns : not (is_ordered l.unordered ppi) ≡ false → (r : ℕ)
      → Turns r (map (with_message_id next_id) (fragments_with_mode l ppi (b ∷ bs))) (number_of r t.streams) (number_of r after)
  ordered-turns e r = subst (Turns r (map (with_message_id next_id) (fragments_with_mode l ppi (b ∷ bs))) (number_of r t.streams)) (sym next)
      (fragments-turn ws next_id l ppi (b ∷ bs) some later r (number_of r t.streams) refl first-number)
    where
      there : (r : ℕ) → r ≡ stream → (l.stream_identifier == r) ≡ true
      there r same = subst (λ k. (l.stream_identifier == k) ≡ true) (is-stream ∙ sym same) (same-yes l.stream_identifier)

      first-number : counts r (nth ws next_id l ppi (b ∷ bs) some 0) ≡ true → l.sequence_number ≡ number_of r t.streams
      first-number h1 = grind (arith, nat_tests, both, is-stream, number-found, same-is)

      rises : number_of stream after ≡ (l.sequence_number + 1) % 2 ^ 16
      rises = grind (arith, nat_tests, numbers-after, unnot)

      next : number_of r after ≡ number_after (counts r (nth ws next_id l ppi (b ∷ bs) some 0)) (number_of r t.streams)
      next = grind (arith, nat_tests, by_same, counts-are, first-number, is-stream, number-elsewhere, rises, same-is, there)

  pub writes-some : ResultOn on None ws (write ∷ ws) first sent (written_to l stream ppi (b ∷ bs) t) ms ms
  writes-some = calm on ws (write ∷ ws) first sent (written_to l stream ppi (b ∷ bs) t) ms (record {
    stands = pushed on ws first (λ s. number_of s t.streams) (λ s. number_of s after) t.flight.queue t.flight.next_tsn sent h.stands write
        (made l ppi (b ∷ bs) 0)
        (map (with_reliability l.reliability_type l.reliability_value) (map (fragment_at l ppi (b ∷ bs)) (numbers_where always (0 + 1) later)))
        (one-message l ppi (b ∷ bs) (omega arith)) is-stream waits unordered-same ordered-turns;
    open' =
        let kept : (s : ℕ) → is_there s t.streams ≡ true
        → is_there s after ≡ true = λ s o. there-changed (has_number stream) (wrote ppi (b ∷ bs)) (λ x. refl) s t.streams ∙ o in (
          where-yes (on stream) (is_there stream after ≡ true) (λ _. kept stream (there-found stream t.streams l found)),
          all-open on t.streams after (λ s _. kept s) ws h.open',
        );
    sized = sized-changed (has_number stream) (wrote ppi (b ∷ bs)) (λ x. refl) t.streams h.sized;
    apart = apart-changed (has_number stream) (wrote ppi (b ∷ bs)) (λ x. refl) t.streams h.apart;
    size = h.size;
  })

-- the stream of a write that is not refused
pub accepted-stream : (stream len : ℕ) (t : Transmission) → write_refusal stream len t ≡ None → (l : OutboundStream) × (stream_of stream t ≡ Some l)
accepted-stream stream len t e = grind (arith, nat_tests)

-- ## A message expires

-- an unsent message in front, past its deadline
pub in-front : (now : ℕ) (o : Option ChunkPayloadData) (c : ChunkPayloadData) → passing (is_expired now) o ≡ Some c
    → (o ≡ Some c) × (c.beginning_fragment ≡ true)
in-front now o c h4 = grind (arith, nat_tests)

pub expires-one : (on : ℕ → Bool) (ws : List Numbered) (first : ℕ) (t : Transmission) (sent : List Entry) (ms : List Made) → IsHeldOn on ws first t sent
    → (now : ℕ) (c : ChunkPayloadData) (bytes : ℕ) → expiring now t.flight.queue ≡ Some c → ResultOn on None ws ws first sent (after_expire c bytes now t) ms ms
expires-one on ws first t sent ms h now c bytes e = calm on ws ws first sent (after_expire c bytes now t) ms (record {
  stands = expired on ws first (λ s. number_of s t.streams)
      (λ s. number_of s after) t.flight.queue t.flight.next_tsn sent h.stands c front.0 front.1 same lowers;
  open' = all-open on t.streams after
      (λ s _ o. there-changed (has_number c.stream_identifier) (after_expiry c.unordered bytes) keeps s t.streams ∙ o) ws h.open';
  sized = sized-changed (has_number c.stream_identifier) (after_expiry c.unordered bytes) sizes t.streams h.sized;
  apart = apart-changed (has_number c.stream_identifier) (after_expiry c.unordered bytes) keeps t.streams h.apart;
  size = h.size;
})
  where
    after : List OutboundStream
    after = change_where (has_number c.stream_identifier) (after_expiry c.unordered bytes) t.streams

    front : (next_pending t.flight.queue.pending ≡ Some c) × (c.beginning_fragment ≡ true)
    front = in-front now (next_pending t.flight.queue.pending) c e

    keeps : (l : OutboundStream) → (after_expiry c.unordered bytes l).stream_identifier ≡ l.stream_identifier
    keeps l = elim c.unordered as (λ b. (after_expiry b bytes l).stream_identifier ≡ l.stream_identifier) [ true ↦ refl | false ↦ refl ]

    sizes : (l : OutboundStream) → (after_expiry c.unordered bytes l).max_payload_size ≡ l.max_payload_size
    sizes l = elim c.unordered as (λ b. (after_expiry b bytes l).max_payload_size ≡ l.max_payload_size) [ true ↦ refl | false ↦ refl ]

    same : c.unordered ≡ true → (r : ℕ) → number_of r after ≡ number_of r t.streams
    same k r =
        subst (λ b. number_of r (change_where (has_number c.stream_identifier) (after_expiry b bytes) t.streams) ≡ number_of r t.streams) (sym k)
        ((steady-changed (has_number c.stream_identifier) (after_expiry true bytes) (λ l. refl) (λ l. refl) (λ l. refl) t.streams).numbers r)

    lowers : c.unordered ≡ false → IsLower on c.stream_identifier (λ s. number_of s t.streams) (λ s. number_of s after)
    lowers k =
        let s = c.stream_identifier in
        let f = next-fits on ws first (λ r. number_of r t.streams) t.flight.queue.pending sent c front.0 h.stands.queued in
        record {
          here = where-yes (on s) (number_of s after ≡ lower (number_of s t.streams)) (λ e.
              let there = where-is (on f.0.stream) (is_there f.0.stream t.streams ≡ true) (ap on (sym f.2.stream) ∙ e)
              (open-of on t.streams ws f.0 f.2.written h.open') in
              let l = found-there s t.streams (subst (λ r. is_there r t.streams ≡ true) (sym f.2.stream) there) in
              subst (λ b. number_of s (change_where (has_number s) (after_expiry b bytes) t.streams) ≡ lower (number_of s t.streams)) (sym k)
              (number-changed s (after_expiry false bytes) (λ x. refl) t.streams l.0 l.1 ∙ ap lower (sym (number-found s t.streams l.0 l.1))));
          elsewhere = λ r differ. subst (λ b. number_of r (change_where (has_number s) (after_expiry b bytes) t.streams) ≡ number_of r t.streams) (sym k)
              (number-elsewhere r s differ (after_expiry false bytes) (λ x. refl) t.streams);
        }
