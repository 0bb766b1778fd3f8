-- A fragment is sent: what is in flight then is what the record says.
use Rattle.sctp_model.proofs.Names.{◌≡◌, ℕ, zero, suc, ◌+◌, ◌-◌, ◌<◌, ◌≤◌, ◌^◌, false, List, [], ◌∷◌, ◌++◌, length, map, refl, ap, sym, ◌∙◌, arith, subst}
use Rattle.sctp_model.proofs.Names.{nat_tests, map-append, numbers_where, always, numbers_from, insert_before, map-kept-same, kept-snoc_in, get-snoc_old}
use Rattle.sctp_model.proofs.Names.{get-snoc_new, comes_before-tsn, by_last, ChunkPayloadData, chunk_before, Outbound, sent_peeked, LinkRecord, Slot, slot_at}
use Rattle.sctp_model.proofs.Names.{message_of, no_slot, tsn_of, with_slot, waiting_at, sending_of, sending_at, sendings_of, RefinesOutbound, length-append}
use Rattle.sctp_model.proofs.Names.{Bool}
use Rattle.sctp_outbound.specs.outbound_queue.OutboundQueue.{as_sent, sent_of}
use Rattle.sctp_model.specs.Messages
use Rattle.sctp_model.proofs.refinement.sending.Written.{sending-alike}
use Rattle.sctp_model.proofs.refinement.sending.Sent.{FrontIs, pending-sent}

-- a chunk behind all others goes to the end
put-last : (w : LinkRecord) (x : ChunkPayloadData) (p : ℕ) → x.tsn ≡ tsn_of w p → p < 2 ^ 31 → (cs : List ChunkPayloadData) (from count : ℕ)
    → map sending_of cs ≡ map (sending_at w) (numbers_where always from count) → from + count ≤ p → insert_before chunk_before x cs ≡ cs ++ x ∷ []
put-last w x p e short [] from count same le = refl
put-last w x p e short (c ∷ cs) from zero same le = cc
put-last w x p e short (c ∷ cs) from (suc count) same le = grind (arith, nat_tests, comes_before-tsn, put-last w x p e short cs (from + 1) count)

module _ (w : LinkRecord) (n : ℕ) (terminal : Bool) (few : length w.slots < 2 ^ 31) (made : w.taken ≤ length w.slots) where
  abbrev v : LinkRecord
  v = with_slot w n terminal

  abbrev here : ℕ
  here = length w.slots

  abbrev new : Slot
  new = record { message = n; fragment = Messages.sent_of w n; is_terminal_chunk = terminal; arrived = false; acknowledged = false }

  pub slots-more : length v.slots ≡ suc (length w.slots)
  slots-more = omega (arith, length-append w.slots (new ∷ []))

  pub slot-new : slot_at v here ≡ new
  slot-new = get-snoc_new w.slots new no_slot

  pub slot-old : (p : ℕ) → p < length w.slots → slot_at v p ≡ slot_at w p
  slot-old p lt = get-snoc_old w.slots new p no_slot (λ e. omega arith)

  sendings-more : sendings_of v ≡ sendings_of w ++ sending_at v here ∷ []
  sendings-more =
      let many : length v.slots - w.taken ≡ suc (length w.slots - w.taken) = omega (arith, slots-more, made) in
      cc (
        many,
        kept-snoc_in always w.taken (length w.slots - w.taken) here (omega (arith, made)) refl,
        map-append (sending_at v) (numbers_from w.taken (length w.slots - w.taken)) (here ∷ []),
        map-kept-same (sending_at v) (sending_at w) always always w.taken (length w.slots - w.taken) (λ k a b. refl)
            (λ k a b e. sending-alike w v k (slot-old k (omega (arith, made))) (record { setup = refl; message = refl; ssn = refl })),
      )

  -- the slot's chunk goes behind what is in flight
  pub in-flight-more : (x : ChunkPayloadData) (cs : List ChunkPayloadData) → x.tsn ≡ tsn_of w here → sending_of x ≡ sending_at v here
      → map sending_of cs ≡ sendings_of w → map sending_of (insert_before chunk_before x cs) ≡ sendings_of v
  in-flight-more x cs tsn is t =
      cc (put-last w x here tsn few cs w.taken (length w.slots - w.taken) t (omega (arith, made)), map-append sending_of cs (x ∷ []), t, is, sendings-more)

  -- each slot is of a message before the next one
  pub begun-more : (next : ℕ) → n < next → ((k : ℕ) → k < length w.slots → message_of w k < next) → (k : ℕ) → k < length v.slots → message_of v k < next
  begun-more next low before k lt = by_last k (length w.slots) (omega (arith, lt, slots-more))
      (λ l. omega (arith, before k l, ap (λ x. x.message) (slot-old k l)))
      (λ e. let m : message_of v k ≡ n = ap (message_of v) e ∙ ap (λ x. x.message) slot-new in omega (arith, m, low))

-- the peeked fragment is in flight under the next TSN: the outbound queue holds what the record says
pub refines-sent : (w : LinkRecord) (n now : ℕ) (q : Outbound) → FrontIs w n → length w.slots < 2 ^ 31 → w.taken ≤ length w.slots
    → q.next_unstarted ≡ length w.messages → RefinesOutbound w q → RefinesOutbound (with_slot w n false) (sent_peeked q (tsn_of w (length w.slots)) now)
refines-sent w n now q f few made all t =
    let p = pending-sent w n f q.pending t.pending in
    let new = slot-new w n false few made in
    let x : ChunkPayloadData = as_sent (tsn_of w (length w.slots)) now (waiting_at w n (Messages.sent_of w n)) in
    let is : sending_of x ≡ sending_at (with_slot w n false) (length w.slots) = sym (rw (ap (λ y. y.message) new, new, f.takes.alive) refl) in
    subst (λ o. RefinesOutbound (with_slot w n false) (sent_of o q (tsn_of w (length w.slots)) now)) (sym p.0) (record {
      pending = p.1;
      in_flight = in-flight-more w n false few made x q.inflight.chunks refl is t.in_flight;
      next = t.next;
      unstarted = t.unstarted;
      started = t.started;
      begun = begun-more w n false few made q.next_unstarted (omega (arith, f.takes.made, all)) t.begun;
    })
