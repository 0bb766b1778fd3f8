-- Lifetimes start: the outbound queue holds what the record says.
use Rattle.sctp_model.proofs.Names.{◌≡◌, ℕ, suc, ◌-◌, ◌<◌, ◌≤◌, Bool, true, false, List, [], ◌∷◌, ◌++◌, length, map, Option, Some, None, refl, ap, sym, ◌∙◌}
use Rattle.sctp_model.proofs.Names.{arith, if◌then◌else◌, ◌==◌, ◌&&◌, ◌||◌, not, nat_le, is_some, is_none, slice_index_or, subst, nat_tests, flat_map, is_timed}
use Rattle.sctp_model.proofs.Names.{is_dcep, numbers_where, numbers_from, first_of, change_where, pieces, kept-same, front-kept, FrontOf, map-at, length-mapped}
use Rattle.sctp_model.proofs.Names.{ChunkPayloadData, PayloadProtocolIdentifier, ReliabilityType, fresh, Outbound, all_started, LinkRecord, Message, message_at}
use Rattle.sctp_model.proofs.Names.{message_of, messages_where, is_ordered_on, ordered_before, ssn_of, fragment_count, sent_of, is_partially_sent, no_message}
use Rattle.sctp_model.proofs.Names.{deadline_from, start_lifetime, after_start, waiting_at, waiting_of, waiting_where, selected_of, RefinesOutbound}
use Rattle.sctp_data.specs.PayloadData.{Data}
use Rattle.sctp_outbound.specs.pending_queue.PendingQueue as pending
use Rattle.sctp_model.proofs.refinement.sending.Waiting.{Alike, gathered-same}
use Rattle.sctp_model.proofs.refinement.sending.Written.{sendings-alike}
use Rattle.sctp_util.proofs.Edits.{change_where-append}

-- ## One fragment

abbrev chunk_by : Data → ℕ → ReliabilityType → ℕ → Option ℕ → ChunkPayloadData
chunk_by d n r value deadline = record (fresh d) { message_id = n; reliability = Some (r, value); deadline = deadline }

abbrev deadline_by : ReliabilityType → PayloadProtocolIdentifier → ℕ → Option ℕ → Option ℕ
deadline_by r ppi value o = if is_timed r && not (is_dcep ppi) then deadline_from value o else None

abbrev started_by : ℕ → ℕ → ChunkPayloadData → ChunkPayloadData
started_by first now c = if pending.is_to_start first c then pending.with_deadline now c else c

start-chunk : (d : Data) (n first now : ℕ) (r : ReliabilityType) (value : ℕ) (o : Option ℕ) → is_some o ≡ not (nat_le first n)
    → started_by first now (chunk_by d n r value (deadline_by r d.payload_type value o))
    ≡ chunk_by d n r value (deadline_by r d.payload_type value (if is_none o then Some now else o))
start-chunk d n first now r value b e = grind (arith, nat_tests)

-- ## Lists

pub change-map : {A : Type 0} (t : A → Bool) (f : A → A) (g h : ℕ → A) → ((k : ℕ) → (if t (g k) then f (g k) else g k) ≡ h k) → (xs : List ℕ)
    → change_where t f (map g xs) ≡ map h xs
change-map t f g h e [] = refl
change-map t f g h e (x ∷ xs) = ap (λ y. y ∷ change_where t f (map g xs)) (e x) ∙ ap (λ l. h x ∷ l) (change-map t f g h e xs)

pub change-gathered : {A : Type 0} (t : A → Bool) (f : A → A) (g : ℕ → List A) (xs : List ℕ)
    → change_where t f (flat_map g xs) ≡ flat_map (λ n. change_where t f (g n)) xs
change-gathered t f g [] = refl
change-gathered t f g (x ∷ xs) = change_where-append t f (g x) (flat_map g xs) ∙ ap (λ l. change_where t f (g x) ++ l) (change-gathered t f g xs)

-- ## The record

module _ (w : LinkRecord) (now : ℕ) where
  abbrev v : LinkRecord
  v = after_start w now

  abbrev len : ℕ
  len = length w.messages

  len-same : length v.messages ≡ length w.messages
  len-same = length-mapped (start_lifetime now) w.messages

  message-now : (n : ℕ) → n < length w.messages → message_at v n ≡ start_lifetime now (message_at w n)
  message-now n lt = map-at (start_lifetime now) n w.messages no_message lt

  on-same : (s k : ℕ) → k < length w.messages → is_ordered_on v s k ≡ is_ordered_on w s k
  on-same s k lt = ap (λ x. (x.stream == s) && (x.ordered && not x.expired)) (message-now k lt)

  before-same : (s n : ℕ) → n ≤ length w.messages → ordered_before v s n ≡ ordered_before w s n
  before-same s n le = ap length (kept-same (is_ordered_on v s) (is_ordered_on w s) 0 n (λ k a b. on-same s k (omega arith)))

  ssn-same : (n : ℕ) → n < length w.messages → ssn_of v n ≡ ssn_of w n
  ssn-same n lt = cc (message-now n lt, before-same (message_at w n).stream n (omega arith))

  count-same : (n : ℕ) → n < length w.messages → fragment_count v n ≡ fragment_count w n
  count-same n lt = ap (λ x. length (pieces (length x.bytes) w.setup.size x.bytes)) (message-now n lt)

  -- a fragment that waits
  waiting-now : (first n i : ℕ) → n < length w.messages → is_some (message_at w n).started ≡ not (nat_le first n)
      → started_by first now (waiting_at w n i) ≡ waiting_at v n i
  waiting-now first n i lt e = grind (arith, nat_tests, start-chunk, ssn-same, message-now)

  waiting_of-now : (first n : ℕ) → n < length w.messages → is_some (message_at w n).started ≡ not (nat_le first n)
      → change_where (pending.is_to_start first) (pending.with_deadline now) (waiting_of w n) ≡ waiting_of v n
  waiting_of-now first n lt e =
      change-map (pending.is_to_start first) (pending.with_deadline now) (waiting_at w n) (waiting_at v n)
      (λ i. waiting-now first n i lt e) (numbers_from (sent_of w n) (fragment_count w n - sent_of w n))
      ∙ ap (λ c. map (waiting_at v n) (numbers_from (sent_of w n) (c - sent_of w n))) (sym (count-same n lt))

  where-now : (first : ℕ) (t : Message → Bool) → ((m : Message) → t (start_lifetime now m) ≡ t m)
      → ((n : ℕ) → n < length w.messages → is_some (message_at w n).started ≡ not (nat_le first n)) → change_where (pending.is_to_start first)
      (pending.with_deadline now) (waiting_where w (λ n. t (message_at w n))) ≡ waiting_where v (λ n. t (message_at v n))
  where-now first t keeps e =
      change-gathered (pending.is_to_start first) (pending.with_deadline now) (waiting_of w) (numbers_where (λ n. t (message_at w n)) 0 len)
      ∙ gathered-same (λ n. change_where (pending.is_to_start first) (pending.with_deadline now) (waiting_of w n)) (waiting_of v) (λ n. t (message_at w n))
      (λ n. t (message_at v n)) 0 len
      (λ k a b. sym (ap t (message-now k (omega arith)) ∙ keeps (message_at w k)))
      (λ k a b p. waiting_of-now first k (omega arith) (e k (omega arith)))
      ∙ ap (λ c. flat_map (waiting_of v) (numbers_where (λ n. t (message_at v n)) 0 c)) (sym len-same)

  partial-same : messages_where v (is_partially_sent v) ≡ messages_where w (is_partially_sent w)
  partial-same = grind (arith, nat_tests, len-same, kept-same, message-now)

  selected-same : (l : List ℕ) → FrontOf (is_partially_sent w) 0 len l → selected_of v (first_of l) ≡ selected_of w (first_of l)
  selected-same [] f = refl
  selected-same (n ∷ rest) f = rw (message-now n (omega (arith, f.high))) refl

  -- one that has started stays as it was
  stays : (m : Message) → is_some m.started ≡ true → start_lifetime now m ≡ m
  stays m e = grind (arith, nat_tests)

  pub refines-started : (q : Outbound) → RefinesOutbound w q → RefinesOutbound v (all_started now q)
  refines-started q t = by (q.next_unstarted == q.next_message_id) refl
    where
      all-stay : (xs : List Message) → ((k : ℕ) → k < length xs → is_some (slice_index_or xs k no_message).started ≡ true) → map (start_lifetime now) xs ≡ xs
      all-stay [] h = refl
      all-stay (m ∷ xs) h = cc (stays m (h 0 (omega arith)), all-stay xs (λ k lt. h (suc k) (omega arith)))

      past : (n : ℕ) → n < q.next_unstarted → is_some (message_at w n).started ≡ true
      past n lt = t.unstarted n (omega (arith, t.started)) ∙ ap not (let e : nat_le q.next_unstarted n ≡ false = grind (arith, nat_tests) in e)

      by : (b : Bool) → (q.next_unstarted == q.next_message_id) ≡ b
          → RefinesOutbound v (if b then q else record q { pending = pending.start_pending q.next_unstarted now q.pending; next_unstarted = q.next_message_id })
      by true e =
          let z : q.next_unstarted ≡ q.next_message_id = grind (arith, nat_tests) in
          let same = all-stay w.messages (λ k lt. past k (omega (arith, lt, z, t.next))) in
          subst (λ ms. RefinesOutbound (record w { messages = ms }) q) (sym same) t
      by false e = record {
        pending = record {
          ordered = cc (t.pending.ordered, where-now q.next_unstarted (λ x. x.ordered && not (x.expired || x.abandoned)) (λ m. refl) t.unstarted);
          unordered = cc (t.pending.unordered, where-now q.next_unstarted (λ x. not x.ordered && not (x.expired || x.abandoned)) (λ m. refl) t.unstarted);
          selected = cc (t.pending.selected, partial-same, selected-same (numbers_where (is_partially_sent w) 0 len) (front-kept (is_partially_sent w) 0 len));
        };
        in_flight = t.in_flight ∙ sym (sendings-alike w v refl refl
            (λ p lt. (refl, alike (message_of w p) (omega (arith, t.begun p lt, t.started)) (past (message_of w p) (t.begun p lt)))));
        next = t.next ∙ sym len-same;
        unstarted = λ n lt. now-started n (omega (arith, lt, len-same));
        started = omega (arith, t.next, len-same);
        begun = λ p lt. omega (arith, t.begun p lt, t.started, t.next);
      }
        where
          alike : (n : ℕ) → n < length w.messages → is_some (message_at w n).started ≡ true → Alike w v n
          alike n lt e = record { setup = refl; message = message-now n lt ∙ stays (message_at w n) e; ssn = ssn-same n lt }

          now-started : (n : ℕ) → n < length w.messages → is_some (message_at v n).started ≡ not (nat_le q.next_message_id n)
          now-started n lt = grind (arith, nat_tests, message-now)
