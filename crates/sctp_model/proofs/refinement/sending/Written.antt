-- A message is written: the outbound queue holds what the record says.
use Rattle.sctp_model.proofs.Names.{◌≡◌, ℕ, ◌+◌, ◌-◌, ◌<◌, ◌%◌, ◌^◌, Bool, true, false, List, [], ◌∷◌, ◌++◌, length, map, Some, None, refl, ap, sym, ◌∙◌, arith}
use Rattle.sctp_model.proofs.Names.{append-nil, if◌then◌else◌, ◌==◌, ◌&&◌, ◌||◌, not, nat_le, nat_lt, is_some, slice_index_or, subst, nat_tests, numbers_where}
use Rattle.sctp_model.proofs.Names.{first_of, pieces, kept-same, map-kept-same, kept-snoc_out, kept-none, front-kept, by_last, ChunkPayloadData}
use Rattle.sctp_model.proofs.Names.{PayloadProtocolIdentifier, fresh, Pending, Outbound, LinkRecord, Message, StreamRecord, message_at, slot_at, message_of}
use Rattle.sctp_model.proofs.Names.{messages_where, ordered_before, fragment_count, sent_of, is_partially_sent, message_on, waiting_at, waiting_of}
use Rattle.sctp_model.proofs.Names.{waiting_where, waits_ordered, waits_unordered, selected_of, RefinesPending, RefinesOutbound, sending_at, sendings_of}
use Rattle.sctp_outbound.specs.outbound_queue.OutboundQueue.{with_message_id, append_chunks, with_message}
use Rattle.sctp_model.proofs.refinement.sending.Waiting
use Rattle.sctp_model.proofs.refinement.sending.Waiting.{Alike}

-- what a slot in flight says, where the slot and its message are as they were
pub sending-alike : (w v : LinkRecord) (p : ℕ) → slot_at v p ≡ slot_at w p → Alike w v (message_of w p) → sending_at v p ≡ sending_at w p
sending-alike w v p e a = rw (ap (λ x. x.message) e, e, a.ssn, a.message, a.setup) refl

pub sendings-alike : (w v : LinkRecord) → v.taken ≡ w.taken → length v.slots ≡ length w.slots
    → ((p : ℕ) → p < length w.slots → (slot_at v p ≡ slot_at w p) × Alike w v (message_of w p)) → sendings_of v ≡ sendings_of w
sendings-alike w v t l same = grind (arith, nat_tests, map-kept-same, sending-alike)

passes : (b g : Bool) → b ≡ true → g ≡ false → (b && not g) ≡ true
passes b g e h = grind (arith, nat_tests)

stops : (b g : Bool) → b ≡ false → (b && not g) ≡ false
stops true g e = cc
stops false g e = refl

-- the partially sent message, where the same messages are partially sent and it is as it was
pub selected-same : (w v : LinkRecord) (p : ℕ → Bool) (count : ℕ) → ((n : ℕ) → n < count → message_at v n ≡ message_at w n)
    → selected_of v (first_of (numbers_where p 0 count)) ≡ selected_of w (first_of (numbers_where p 0 count))
selected-same w v p count same = grind (arith, nat_tests, front-kept)

module _ (w : LinkRecord) (m : Message) (made : (p : ℕ) → p < length w.slots → message_of w p < length w.messages) where
  abbrev v : LinkRecord
  v = record w { messages = w.messages ++ m ∷ [] }

  abbrev len : ℕ
  len = length w.messages

  pub unsent : sent_of v len ≡ 0
  unsent = grind (arith, nat_tests, kept-none)

  partial-same : messages_where v (is_partially_sent v) ≡ messages_where w (is_partially_sent w)
  partial-same =
      ap (numbers_where (is_partially_sent v) 0) (Waiting.len-more w m)
      ∙ kept-snoc_out (is_partially_sent v) 0 len len (omega arith)
      (ap (λ c. nat_lt 0 c && (nat_lt c (fragment_count v len) && not (message_at v len).abandoned)) unsent)
      ∙ kept-same (is_partially_sent v) (is_partially_sent w) 0 len (λ k a b. ap (λ x. nat_lt 0 (sent_of w k)
      && (nat_lt (sent_of w k) (length (pieces (length x.bytes) w.setup.size x.bytes)) && not x.abandoned)) (Waiting.message-old w m k (omega arith)))

  selected-written : selected_of v (first_of (messages_where v (is_partially_sent v))) ≡ selected_of w (first_of (messages_where w (is_partially_sent w)))
  selected-written = ap (λ l. selected_of v (first_of l)) partial-same ∙ selected-same w v (is_partially_sent w) len (λ n lt. Waiting.message-old w m n lt)

  ordered-is : (b : Bool) → m.ordered ≡ b → (m.expired || m.abandoned) ≡ false → (q : Pending) (chunks : List ChunkPayloadData) → chunks ≡ waiting_of v len
      → RefinesPending w q → RefinesPending v (append_chunks (not b) chunks q)
  ordered-is true e given q chunks c t = record {
    ordered =
        cc (t.ordered, c, Waiting.where-written w m (λ x. x.ordered && not (x.expired || x.abandoned)), passes m.ordered (m.expired || m.abandoned) e given);
    unordered = t.unordered ∙ sym (Waiting.where-written w m (λ x. not x.ordered && not (x.expired || x.abandoned))
        ∙ ap (λ b. waiting_where w (waits_unordered w) ++ (if b then waiting_of v len else [])) (stops (not m.ordered) (m.expired || m.abandoned) (ap not e))
        ∙ append-nil (waiting_where w (waits_unordered w)));
    selected = t.selected ∙ sym selected-written;
  }
  ordered-is false e given q chunks c t = record {
    ordered = t.ordered ∙ sym (Waiting.where-written w m (λ x. x.ordered && not (x.expired || x.abandoned)) ∙ ap (λ b. waiting_where w (waits_ordered w)
        ++ (if b then waiting_of v len else [])) (stops m.ordered (m.expired || m.abandoned) e) ∙ append-nil (waiting_where w (waits_ordered w)));
    unordered = ap (λ l. l ++ chunks) t.unordered ∙ ap (λ l. waiting_where w (waits_unordered w) ++ l) c
        ∙ sym (Waiting.where-written w m (λ x. not x.ordered && not (x.expired || x.abandoned)) ∙ ap (λ b.
        waiting_where w (waits_unordered w) ++ (if b then waiting_of v len else [])) (passes (not m.ordered) (m.expired || m.abandoned) (ap not e) given));
    selected = t.selected ∙ sym selected-written;
  }

  -- the message's fragments, which wait for their number alone, go behind those of their kind
  pub refines-written : (q : Outbound) (c : ChunkPayloadData) (cs : List ChunkPayloadData) → m.expired ≡ false → m.abandoned ≡ false → m.started ≡ None
      → c.unordered ≡ not m.ordered → map (with_message_id len) (c ∷ cs) ≡ waiting_of v len → RefinesOutbound w q → RefinesOutbound v (with_message (c ∷ cs) q)
  refines-written q c cs alive kept' not-started kind chunks t = record {
    pending = pending;
    in_flight = t.in_flight ∙ sym (sendings-alike w v refl refl (λ p lt. (refl, Waiting.alike w m (message_of w p) (made p lt))));
    next = omega (arith, t.next, Waiting.len-more w m);
    unstarted = λ n lt. by_last n len (omega (arith, lt, Waiting.len-more w m))
        (λ l. ap (λ x. is_some x.started) (Waiting.message-old w m n l) ∙ t.unstarted n l) (λ e. now n e);
    started = omega (arith, t.started, Waiting.len-more w m);
    begun = t.begun;
  }
    where
      given : (m.expired || m.abandoned) ≡ false
      given = rw (alive, kept') refl

      numbered : map (with_message_id q.next_message_id) (c ∷ cs) ≡ waiting_of v len
      numbered = ap (λ k. map (with_message_id k) (c ∷ cs)) t.next ∙ chunks

      pending : RefinesPending v (append_chunks c.unordered (map (with_message_id q.next_message_id) (c ∷ cs)) q.pending)
      pending = subst (λ u. RefinesPending v (append_chunks u (map (with_message_id q.next_message_id) (c ∷ cs)) q.pending)) (sym kind)
          (ordered-is m.ordered refl given q.pending (map (with_message_id q.next_message_id) (c ∷ cs)) numbered t.pending)

      now : (n : ℕ) → n ≡ len → is_some (message_at v n).started ≡ not (nat_le q.next_unstarted n)
      now n e = grind (arith, nat_tests, Waiting.message-new)

-- ## The fragments that a write makes

-- fragment i of a written message, as it waits
pub waiting-new : (w : LinkRecord) (r : StreamRecord) (ppi : PayloadProtocolIdentifier) (bytes : List ℕ) (i : ℕ)
    → (let m = message_on w r ppi bytes in let n = length w.messages in waiting_at (record w { messages = w.messages ++ m ∷ [] }) n i
    ≡ record (fresh (record {
      unordered = not m.ordered;
      beginning_fragment = i == 0;
      ending_fragment = i + 1 == length (pieces (length bytes) w.setup.size bytes);
      immediate_sack = false;
      tsn = 0;
      stream_identifier = r.stream;
      stream_sequence_number = ordered_before w r.stream n % 2 ^ 16;
      payload_type = ppi;
      user_data = slice_index_or (pieces (length bytes) w.setup.size bytes) i [];
    })) { message_id = n; reliability = Some (r.reliability, r.value); deadline = None })
waiting-new w r ppi bytes i = grind (arith, nat_tests, Waiting.message-new, Waiting.before-same)
