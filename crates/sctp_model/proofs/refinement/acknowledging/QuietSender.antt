-- What the receiver does leaves the outbound queue as it is.
use Rattle.sctp_model.proofs.Names.{◌≡◌, ℕ, ◌+◌, ◌-◌, Bool, false, List, [], length, map, Option, Some, None, refl, ap, sym, ◌∙◌, arith, if◌then◌else◌, ◌==◌}
use Rattle.sctp_model.proofs.Names.{◌&&◌, ◌||◌, not, is_some, slice_index_or, is_timed, is_dcep, numbers_where, always, numbers_from, first_of, pieces}
use Rattle.sctp_model.proofs.Names.{kept-same, map-kept-same, length-changed, changed-keeps, ChunkPayloadData, fresh, Outbound, Selected, LinkRecord, Setup}
use Rattle.sctp_model.proofs.Names.{Message, Slot, message_at, slot_at, message_of, messages_where, no_message, no_slot, is_ordered_on, ordered_before, ssn_of}
use Rattle.sctp_model.proofs.Names.{fragment_count, has_fragment, sent_of, is_partially_sent, deadline_from, mark_arrived, mark_read, receive_slot}
use Rattle.sctp_model.proofs.Names.{receive_skip, read_of, waiting_at, waiting_of, waiting_where, selected_of, RefinesOutbound, sending_at, nat_tests}
use Rattle.sctp_data.specs.PayloadData.{Data}
use Rattle.sctp_model.proofs.refinement.sending.Waiting.{gathered-same}
use Rattle.sctp_model.proofs.refinement.arriving.Arrival.{with_arrived}

-- messages and slots as the sender sees them
abbrev unread : Message → Message
unread m = record m { read = false }

abbrev unarrived : Slot → Slot
unarrived x = record x { arrived = false }

pub record SameToSender (w v : LinkRecord) : Type 0 where
  pub setup : v.setup ≡ w.setup
  pub count : length v.messages ≡ length w.messages
  pub message : (n : ℕ) → unread (message_at v n) ≡ unread (message_at w n)
  pub slots : length v.slots ≡ length w.slots
  pub slot : (p : ℕ) → unarrived (slot_at v p) ≡ unarrived (slot_at w p)
  pub taken : v.taken ≡ w.taken

-- the words of the outbound queue, over those
abbrev pub chunk_by : Setup → Message → ℕ → ℕ → ℕ → Data
chunk_by s m ssn i tsn = record {
  unordered = not m.ordered;
  beginning_fragment = i == 0;
  ending_fragment = i + 1 == length (pieces (length m.bytes) s.size m.bytes);
  immediate_sack = false;
  tsn = tsn;
  stream_identifier = m.stream;
  stream_sequence_number = ssn;
  payload_type = m.ppi;
  user_data = slice_index_or (pieces (length m.bytes) s.size m.bytes) i [];
}

abbrev pub deadline_by : Message → Option ℕ
deadline_by m = if is_timed m.reliability && not (is_dcep m.ppi) then deadline_from m.value m.started else None

abbrev pub waiting_by : Setup → Message → ℕ → ℕ → ℕ → ChunkPayloadData
waiting_by s m ssn n i = record (fresh (chunk_by s m ssn i 0)) { message_id = n; reliability = Some (m.reliability, m.value); deadline = deadline_by m }

module _ (w v : LinkRecord) (s : SameToSender w v) where
  before-same : (t n : ℕ) → ordered_before v t n ≡ ordered_before w t n
  before-same t n =
      ap length (kept-same (is_ordered_on v t) (is_ordered_on w t) 0 n (λ k a b. ap (λ m. (m.stream == t) && (m.ordered && not m.expired)) (s.message k)))

  ssn-same : (n : ℕ) → ssn_of v n ≡ ssn_of w n
  ssn-same n = grind (arith, nat_tests, before-same)

  message-same : (p : ℕ) → message_of v p ≡ message_of w p
  message-same p = ap (λ x. x.message) (s.slot p)

  waiting_at-same : (n i : ℕ) → waiting_at v n i ≡ waiting_at w n i
  waiting_at-same n i = grind (arith, nat_tests, ssn-same)

  sending-same : (p : ℕ) → sending_at v p ≡ sending_at w p
  sending-same p = grind (arith, nat_tests, message-same, ssn-same)

  sent-same : (n : ℕ) → sent_of v n ≡ sent_of w n
  sent-same n = ap (λ c. length (numbers_where (has_fragment v n) 0 c)) s.slots ∙ ap length
      (kept-same (has_fragment v n) (has_fragment w n) 0 (length w.slots) (λ k a b. ap (λ x. (x.message == n) && not x.is_terminal_chunk) (s.slot k)))

  count-same : (n : ℕ) → fragment_count v n ≡ fragment_count w n
  count-same n = ap (λ m. length (pieces (length m.bytes) v.setup.size m.bytes)) (s.message n)
      ∙ ap (λ t. length (pieces (length (message_at w n).bytes) t.size (message_at w n).bytes)) s.setup

  waiting_of-same : (n : ℕ) → waiting_of v n ≡ waiting_of w n
  waiting_of-same n = grind (arith, nat_tests, sent-same, count-same, map-kept-same, waiting_at-same)

  where-same : (t : Message → Bool) → waiting_where v (λ n. t (unread (message_at v n))) ≡ waiting_where w (λ n. t (unread (message_at w n)))
  where-same t = grind (arith, nat_tests, gathered-same, waiting_of-same)

  partial-same : messages_where v (is_partially_sent v) ≡ messages_where w (is_partially_sent w)
  partial-same = grind (arith, nat_tests, kept-same, sent-same, count-same)

  selected-same : (o : Option ℕ) → selected_of v o ≡ selected_of w o
  selected-same None = refl
  selected-same (Some n) = ap (λ m. Some (let x : Selected = record { message_id = n; unordered = not m.ordered } in x)) (s.message n)

  -- the outbound queue refines the record that there then is
  pub outbound-same : (q : Outbound) → RefinesOutbound w q → RefinesOutbound v q
  outbound-same q t = record {
    pending = record {
      ordered = t.pending.ordered ∙ sym (where-same (λ m. m.ordered && not (m.expired || m.abandoned)));
      unordered = t.pending.unordered ∙ sym (where-same (λ m. not m.ordered && not (m.expired || m.abandoned)));
      selected = cc (t.pending.selected, partial-same, selected-same (first_of (messages_where w (is_partially_sent w))));
    };
    in_flight = t.in_flight ∙ sym (ap (λ c. map (sending_at v) (numbers_from c (length v.slots - c))) s.taken
        ∙ ap (λ c. map (sending_at v) (numbers_from w.taken (c - w.taken))) s.slots
        ∙ map-kept-same (sending_at v) (sending_at w) always always w.taken (length w.slots - w.taken) (λ k a b. refl) (λ k a b e. sending-same k));
    next = t.next ∙ sym s.count;
    unstarted = λ n lt. ap (λ m. is_some m.started) (s.message n) ∙ t.unstarted n (omega (arith, lt, s.count));
    started = omega (arith, t.started, s.count);
    begun = λ p lt. omega (arith, t.begun p (omega (arith, lt, s.slots)), message-same p);
  }

-- ## The receiver's events

pub same-self : (w v : LinkRecord) → v.setup ≡ w.setup → v.messages ≡ w.messages → v.slots ≡ w.slots → v.taken ≡ w.taken → SameToSender w v
same-self w v a b c d = grind (arith, nat_tests)

pub same-then : (u w v : LinkRecord) → SameToSender u w → SameToSender w v → SameToSender u v
same-then u w v a b = grind (arith, nat_tests)

same-arrived : (w : LinkRecord) (p : ℕ) → SameToSender w (with_arrived w p)
same-arrived w p = record {
  setup = refl;
  count = refl;
  message = λ n. refl;
  slots = length-changed mark_arrived p w.slots;
  slot = λ k. changed-keeps mark_arrived unarrived (λ x. refl) p k w.slots no_slot;
  taken = refl;
}

pub same-slot : (w : LinkRecord) (p : ℕ) → SameToSender w (receive_slot w p)
same-slot w p = grind (arith, nat_tests, same-then, same-arrived, same-self)

pub same-skip : (w : LinkRecord) (upto : ℕ) (names : List ℕ) → SameToSender w (receive_skip w upto names)
same-skip w upto names = grind (arith, nat_tests, same-self)

pub same-read : (w : LinkRecord) (t : ℕ) (o : Option ℕ) → SameToSender w (read_of w t o)
same-read w t None = same-self w w refl refl refl refl
same-read w t (Some n) = record {
  setup = refl;
  count = length-changed mark_read n w.messages;
  message = λ k. changed-keeps mark_read unread (λ m. refl) n k w.messages no_message;
  slots = refl;
  slot = λ p. refl;
  taken = refl;
}
