-- A SACK is taken: what is in flight then is what the record says.
use Rattle.sctp_model.proofs.Names.{◌≡◌, ℕ, ◌+◌, ◌-◌, ◌<◌, ◌≤◌, Bool, List, length, map, Some, refl, ap, ◌∙◌, arith, ◌&&◌, ◌||◌, not, nat_lt, max, always}
use Rattle.sctp_model.proofs.Names.{numbers_from, map-kept-same, kept-same, get-numbered, numbered-at, length-numbered, ChunkPayloadData, Outbound}
use Rattle.sctp_model.proofs.Names.{with_inflight, LinkRecord, Report, Sack, message_at, slot_at, message_of, messages_where, no_slot, sent_of, fragment_count}
use Rattle.sctp_model.proofs.Names.{is_partially_sent, reports, after_acked, acknowledged_by, sending_by, IsInFlight, sending_at, sendings_of, waiting_of}
use Rattle.sctp_model.proofs.Names.{waiting_where, RefinesOutbound, nat_tests}
use Rattle.sctp_model.proofs.sender.Shape.{sent}
use Rattle.sctp_model.proofs.sender.Shapes
use Rattle.sctp_model.proofs.refinement.sending.Waiting
use Rattle.sctp_model.proofs.refinement.sending.Waiting.{gathered-same}

-- ## The record

module _ (w : LinkRecord) (r : Report) where
  abbrev v : LinkRecord
  v = after_acked w (Some (Sack r))

  count-same : length v.slots ≡ length w.slots
  count-same = length-numbered (acknowledged_by r) 0 w.slots

  slot-then : (p : ℕ) → p < length w.slots → slot_at v p ≡ acknowledged_by r p (slot_at w p)
  slot-then p lt = numbered-at (acknowledged_by r) 0 p w.slots no_slot lt ∙ ap (λ k. acknowledged_by r k (slot_at w p)) (let z : 0 + p ≡ p = omega arith in z)

  sending-then : (p : ℕ) → p < length w.slots → sending_at v p ≡ sending_by w ((slot_at w p).acknowledged || reports r p) p
  sending-then p lt = rw (ap (λ x. x.message) (slot-then p lt), slot-then p lt) refl

  pub sendings-taken : sendings_of v ≡ map (λ k. sending_by w ((slot_at w k).acknowledged || reports r k) k)
      (numbers_from (max w.taken r.cumulative) (length w.slots - max w.taken r.cumulative))
  sendings-taken = grind (arith, nat_tests, count-same, map-kept-same, sending-then)

  sent-same : (n : ℕ) → sent_of v n ≡ sent_of w n
  sent-same n = ap (λ x. sent x n) (Shapes.shape-acknowledged w r (max w.taken r.cumulative))

  waiting-same : (n : ℕ) → waiting_of v n ≡ waiting_of w n
  waiting-same n = Waiting.waiting_of-alike w v n (record { setup = refl; message = refl; ssn = refl }) (sent-same n)

  where-same : (t : ℕ → Bool) → waiting_where v t ≡ waiting_where w t
  where-same t = gathered-same (waiting_of v) (waiting_of w) t t 0 (length w.messages) (λ k a b. refl) (λ k a b e. waiting-same k)

  partial-same : messages_where v (is_partially_sent v) ≡ messages_where w (is_partially_sent w)
  partial-same = kept-same (is_partially_sent v) (is_partially_sent w) 0 (length w.messages)
      (λ k a b. ap (λ s. nat_lt 0 s && (nat_lt s (fragment_count w k) && not (message_at w k).abandoned)) (sent-same k))

  message-same : (p : ℕ) → message_of v p ≡ message_of w p
  message-same p = get-numbered (acknowledged_by r) (λ x. x.message) (λ i x. refl) 0 p w.slots no_slot

  -- once what the SACK reports is marked, and what it acknowledges cumulatively is popped
  pub refines-taken : (q : Outbound) (cs : List ChunkPayloadData) → RefinesOutbound w q → IsInFlight w (λ k. (slot_at w k).acknowledged || reports r k)
      (max w.taken r.cumulative) (length w.slots - max w.taken r.cumulative) cs → RefinesOutbound v (with_inflight q cs)
  refines-taken q cs t e = grind (arith, nat_tests, where-same, partial-same, sendings-taken, count-same, message-same)

-- marks and pops begin from what the record has in flight
pub in-flight-first : (w : LinkRecord) (q : Outbound) → RefinesOutbound w q
    → IsInFlight w (λ k. (slot_at w k).acknowledged) w.taken (length w.slots - w.taken) q.inflight.chunks
in-flight-first w q t = t.in_flight

-- what is acknowledged may be told by another test that agrees
pub in-flight-same : (w : LinkRecord) (s t : ℕ → Bool) (from count : ℕ) (cs : List ChunkPayloadData) → ((k : ℕ) → from ≤ k → k < from + count → s k ≡ t k)
    → IsInFlight w s from count cs → IsInFlight w t from count cs
in-flight-same w s t from count cs same e = e ∙ map-kept-same (λ k. sending_by w (s k) k) (λ k. sending_by w (t k) k) always always from count (λ k a b. refl)
    (λ k a b p. ap (λ b. sending_by w b k) (same k a b))
