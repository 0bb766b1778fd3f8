-- A message expires: the outbound queue holds what the record says.
use Rattle.sctp_model.proofs.Names.{◌≡◌, ℕ, zero, suc, ◌+◌, ◌-◌, ◌<◌, ◌≤◌, ◌%◌, ◌^◌, Bool, true, false, List, [], ◌∷◌, length, map, Option, Some, None, refl}
use Rattle.sctp_model.proofs.Names.{ap, sym, ◌∙◌, inl, inr, arith, ◌++◌, ◌⊎◌, if◌then◌else◌, ◌==◌, ◌&&◌, ◌||◌, not, nat_lt, slice_index_or, is_some, subst}
use Rattle.sctp_model.proofs.Names.{cases_lt, nat_tests, flat_map, filter, is_past, is_dcep, numbers_where, numbers_from, first_of, change_where, pieces}
use Rattle.sctp_model.proofs.Names.{kept-same, kept-none, not_both, both, length-changed, changed-same, changed-other, changed-keeps, length-kept-one_more}
use Rattle.sctp_model.proofs.Names.{by_same, negated, same-yes, same-is, and-true, and-none, ChunkPayloadData, PayloadProtocolIdentifier, Dcep, String, Binary}
use Rattle.sctp_model.proofs.Names.{StringEmpty, BinaryEmpty, Unknown, is_of, Pending, without, Outbound, expired_of, passing, LinkRecord, Message, Setup}
use Rattle.sctp_model.proofs.Names.{message_at, message_of, messages_where, front, is_ordered_on, ordered_before, ssn_of, fragment_count, sent_of}
use Rattle.sctp_model.proofs.Names.{is_partially_sent, is_unsent, is_past_deadline, no_message, is_expired_or_abandoned, mark_expired, message_changed}
use Rattle.sctp_model.proofs.Names.{after_expire, expiring, front_if, after, waiting_at, waiting_of, waiting_where, waits_ordered, waits_unordered, selected_of}
use Rattle.sctp_model.proofs.Names.{RefinesPending, RefinesOutbound, those-append}
use Rattle.std.specs.Option.{option_map}
use Rattle.sctp_outbound.specs.pending_queue.PendingQueue.{without_message, closed_up, one_lower}
use Rattle.sctp_outbound.specs.outbound_queue.OutboundQueue.{is_expired}
use Rattle.sctp_model.proofs.sender.Shape.{shape}
use Rattle.sctp_model.proofs.sender.Fronts.{slot-sent}
use Rattle.sctp_model.proofs.sender.Moves.{quiet-expired}
use Rattle.sctp_model.proofs.refinement.sending.Waiting.{Alike, waiting_of-alike}
use Rattle.sctp_model.proofs.refinement.sending.Written.{sendings-alike}
use Rattle.sctp_model.proofs.refinement.sending.LifetimesStart.{change-gathered, change-map}
use Rattle.sctp_model.proofs.refinement.sending.Sent.{FrontIs, front_is, all-sent}
use Rattle.sctp_model.proofs.refinement.sending.KindsRun.{Going}
use Rattle.sctp_model.proofs.refinement.sending.Fragments.{idle, shown}
use Rattle.sctp_serial.specs.DataChunks.{is_on}
use Rattle.sctp_outbound.specs.outbound_queue.OutboundQueue as outbound
use Rattle.sctp_model.specs.declared.event.Event.TheVariants as E

-- ## Lists that are gathered

-- what passes of lists gathered
pub those-gathered : {A : Type 0} (t : A → Bool) (f : ℕ → List A) (xs : List ℕ) → filter t (flat_map f xs) ≡ flat_map (λ n. filter t (f n)) xs
those-gathered t f [] = refl
those-gathered t f (x ∷ xs) = those-append t (f x) (flat_map f xs) ∙ ap (λ l. filter t (f x) ++ l) (those-gathered t f xs)

-- gathered of the numbers that pass two tests, where each number gives the same
pub gathered-by : {A : Type 0} (f g : ℕ → List A) (p q : ℕ → Bool) (from count : ℕ) → ((k : ℕ) → from ≤ k → k < from + count
    → (if p k then f k else []) ≡ (if q k then g k else [])) → flat_map f (numbers_where p from count) ≡ flat_map g (numbers_where q from count)
gathered-by f g p q from zero same = refl
gathered-by {A} f g p q from (suc count) same = grind (arith, nat_tests, gathered-by f g p q (from + 1) count)

-- a number modulo 2^16 one lower
pub lower : (i j : ℕ) → j ≡ i + 1 → (j % 2 ^ 16 + (2 ^ 16 - 1)) % 2 ^ 16 ≡ i % 2 ^ 16
lower i j e = omega (arith, e)

-- ## The queue's words on what waits

-- removing a message takes all that waits of it, and leaves the others
without-waiting : (w : LinkRecord) (n k : ℕ) (xs : List ℕ) → without_message n (map (waiting_at w k) xs) ≡ (if k == n then [] else map (waiting_at w k) xs)
without-waiting w n k xs = by (k == n) refl xs
  where
    by : (b : Bool) → (k == n) ≡ b → (xs : List ℕ) → without_message n (map (waiting_at w k) xs) ≡ (if b then [] else map (waiting_at w k) xs)
    by true e [] = refl
    by false e [] = refl
    by true e (x ∷ xs) = cc (e, by true e xs)
    by false e (x ∷ xs) = cc (e, by false e xs)

-- the numbers of a stream closed up, or not
abbrev closed : Bool → ℕ → List ChunkPayloadData → List ChunkPayloadData
closed true s xs = change_where (is_on s) one_lower xs
closed false s xs = xs

closed-gathered : (b : Bool) (s : ℕ) (f : ℕ → List ChunkPayloadData) (xs : List ℕ) → closed b s (flat_map f xs) ≡ flat_map (λ n. closed b s (f n)) xs
closed-gathered true s f xs = change-gathered (is_on s) one_lower f xs
closed-gathered false s f xs = refl

closed-none : (b : Bool) (s : ℕ) → closed b s [] ≡ []
closed-none true s = refl
closed-none false s = refl

-- ## An unsent message expires

module _ (setup : Setup) (w : LinkRecord) (n : ℕ) (g : Going setup w) (is : front w ≡ Some n) (un : is_unsent w n ≡ true) where
  abbrev pub v : LinkRecord
  v = message_changed w n mark_expired

  f : FrontIs w n
  f = front_is w g.consistent.sender g.turns n is

  none-sent : sent_of w n ≡ 0
  none-sent = same-is (sent_of w n) 0 (both (sent_of w n == 0) (not (message_at w n).expired) un).0

  len-same : length v.messages ≡ length w.messages
  len-same = length-changed mark_expired n w.messages

  message-here : message_at v n ≡ mark_expired (message_at w n)
  message-here = changed-same mark_expired n w.messages no_message f.takes.made

  message-other : (k : ℕ) → (k ≡ n → ⊥) → message_at v k ≡ message_at w k
  message-other k ne = changed-other mark_expired n k w.messages no_message ne

  stream-same : (k : ℕ) → (message_at v k).stream ≡ (message_at w k).stream
  stream-same k = changed-keeps mark_expired (λ x. x.stream) (λ x. refl) n k w.messages no_message

  -- ## The counts

  on-here : (s : ℕ) → is_ordered_on v s n ≡ false
  on-here s = grind (arith, nat_tests, message-here)

  on-was : (s : ℕ) → is_ordered_on w s n ≡ (((message_at w n).stream == s) && (message_at w n).ordered)
  on-was s = cc (f.takes.kept, and-true (message_at w n).ordered)

  on-other : (s k : ℕ) → (k ≡ n → ⊥) → is_ordered_on v s k ≡ is_ordered_on w s k
  on-other s k ne = ap (λ x. (x.stream == s) && (x.ordered && not x.expired)) (message-other k ne)

  -- the count before an earlier message, or before this one, is as it was
  pub before-low : (s k : ℕ) → k ≤ n → ordered_before v s k ≡ ordered_before w s k
  before-low s k le = ap length (kept-same (is_ordered_on v s) (is_ordered_on w s) 0 k (λ j a b. on-other s j (λ e. omega (arith, le, e, b))))

  -- before a later one it is one less, where the one that expires is an ordered one of the stream
  pub before-high : (s k : ℕ) → n < k
      → ordered_before v s k + (if ((message_at w n).stream == s) && (message_at w n).ordered then 1 else 0) ≡ ordered_before w s k
  before-high s k lt = by (is_ordered_on w s n) refl (sym (on-was s))
    where
      by : (b : Bool) → is_ordered_on w s n ≡ b → (((message_at w n).stream == s) && (message_at w n).ordered) ≡ is_ordered_on w s n
          → ordered_before v s k + (if ((message_at w n).stream == s) && (message_at w n).ordered then 1 else 0) ≡ ordered_before w s k
      by true e h =
          ap (λ b. ordered_before v s k + (if b then 1 else 0)) (h ∙ e)
          ∙ sym
          (length-kept-one_more (is_ordered_on v s) (is_ordered_on w s) n 0 k (on-here s) e (omega arith) (omega (arith, lt)) (λ j a b ne. on-other s j ne))
      by false e h =
          ap (λ b. ordered_before v s k + (if b then 1 else 0)) (h ∙ e)
          ∙ (let z : ordered_before v s k ≡ ordered_before w s k =
          ap length (kept-same (is_ordered_on v s) (is_ordered_on w s) 0 k (λ j a b. by_same {P = is_ordered_on v s j ≡ is_ordered_on w s j} j n
          (λ z. ap (is_ordered_on v s) z ∙ on-here s ∙ sym e ∙ ap (is_ordered_on w s) (sym z)) (λ ne x. on-other s j ne))) in omega (arith, z))

  -- the count of all, which a later write takes
  pub before-all : (s : ℕ) → ordered_before v s (length v.messages) + (if ((message_at w n).stream == s) && (message_at w n).ordered then 1 else 0)
      ≡ ordered_before w s (length w.messages)
  before-all s = cc (len-same, before-high s (length w.messages) f.takes.made)

  -- ## The numbers of messages

  -- a message whose count before it is as it was
  ssn-by : (k : ℕ) → (k ≡ n → ⊥) → ((message_at w k).ordered ≡ true → ordered_before v (message_at w k).stream k ≡ ordered_before w (message_at w k).stream k)
      → ssn_of v k ≡ ssn_of w k
  ssn-by k ne same = grind (arith, nat_tests, message-other)

  alike-by : (k : ℕ) → (k ≡ n → ⊥) → ((message_at w k).ordered ≡ true → ordered_before v (message_at w k).stream k ≡ ordered_before w (message_at w k).stream k)
      → Alike w v k
  alike-by k ne same = record { setup = refl; message = message-other k ne; ssn = ssn-by k ne same }

  -- no other stream, and no unordered message, changes a count
  elsewhere : (s k : ℕ) → (((message_at w n).stream == s) && (message_at w n).ordered) ≡ false → ordered_before v s k ≡ ordered_before w s k
  elsewhere s k miss = grind (arith, nat_tests, before-low, before-high)

  -- what was sent keeps its index
  pub index-sent : (k : ℕ) → 0 < sent_of w k → (message_at w k).ordered ≡ true
      → ordered_before v (message_at w k).stream k ≡ ordered_before w (message_at w k).stream k
  index-sent k pos o = ap (λ t. ordered_before v t k) (sym (stream-same k)) ∙ (quiet-expired setup w n g.consistent un).grows.same_index k pos o

  sent-differs : (k : ℕ) → 0 < sent_of w k → k ≡ n → ⊥
  sent-differs k pos e = omega (arith, pos, none-sent, ap (sent_of w) e)

  pub alike-sent : (k : ℕ) → 0 < sent_of w k → Alike w v k
  alike-sent k pos = alike-by k (sent-differs k pos) (index-sent k pos)

  -- ## What waits

  -- of a message that neither expired nor is abandoned
  waiting-closed : (k : ℕ) → (k ≡ n → ⊥) → (message_at w k).ordered ≡ true → is_expired_or_abandoned w k ≡ false
      → closed (message_at w n).ordered (message_at w n).stream (waiting_of w k) ≡ waiting_of v k
  waiting-closed k ne o alive = by (message_at w n).ordered refl
    where
      by : (b : Bool) → (message_at w n).ordered ≡ b → closed b (message_at w n).stream (waiting_of w k) ≡ waiting_of v k
      by false e = sym (waiting_of-alike w v k (alike-by k ne (λ x. elsewhere (message_at w k).stream k
          (ap (λ b. ((message_at w n).stream == (message_at w k).stream) && b) e ∙ and-none ((message_at w n).stream == (message_at w k).stream)))) refl)
      by true e = on ((message_at w k).stream == (message_at w n).stream) refl
        where
          -- on another stream
          on : (b : Bool) → ((message_at w k).stream == (message_at w n).stream) ≡ b → closed true (message_at w n).stream (waiting_of w k) ≡ waiting_of v k
          on false h = cc (
            change-map (is_on (message_at w n).stream) one_lower (waiting_at w k) (waiting_at w k)
                (λ i. ap (λ b. if b then one_lower (waiting_at w k i) else waiting_at w k i) h) (numbers_from (sent_of w k) (fragment_count w k - sent_of w k)),
            waiting_of-alike w v k
                (alike-by k ne (λ x. elsewhere (message_at w k).stream k (miss ((message_at w n).stream == (message_at w k).stream) refl))) refl,
          )
            where
              miss : (b : Bool) → ((message_at w n).stream == (message_at w k).stream) ≡ b → (b && (message_at w n).ordered) ≡ false
              miss b z = grind (arith, nat_tests)
          -- on its stream: earlier ones were sent
          on true h = side (cases_lt n k)
            where
              side : (n < k) ⊎ (k ≤ n) → closed true (message_at w n).stream (waiting_of w k) ≡ waiting_of v k
              side (inr le) =
                  let b = f.before k (omega (arith, le, ne)) (o ∙ sym e) in
                  cc (all-sent w k alive b.0 b.1, waiting_of-alike w v k (alike-by k ne (λ x. before-low (message_at w k).stream k le)) refl)
              side (inl lt) = cc (
                change-map (is_on (message_at w n).stream) one_lower (waiting_at w k)
                    (waiting_at v k) one (numbers_from (sent_of w k) (fragment_count w k - sent_of w k)),
                counts,
              )
                where
                  counts : fragment_count v k ≡ fragment_count w k
                  counts = ap (λ x. length (pieces (length x.bytes) w.setup.size x.bytes)) (message-other k ne)

                  less : ordered_before w (message_at w k).stream k ≡ ordered_before v (message_at w k).stream k + 1
                  less = grind (arith, nat_tests, before-high)

                  number : (ssn_of w k + (2 ^ 16 - 1)) % 2 ^ 16 ≡ ssn_of v k
                  number = cc (o, lower (ordered_before v (message_at w k).stream k) (ordered_before w (message_at w k).stream k) less, message-other k ne)

                  one : (i : ℕ)
                      → (if (message_at w k).stream == (message_at w n).stream then one_lower (waiting_at w k i) else waiting_at w k i) ≡ waiting_at v k i
                  one i = ap (λ b. if b then one_lower (waiting_at w k i) else waiting_at w k i) h ∙ rw (number, message-other k ne) refl

  -- the list of one kind: without the message, and closed up or not
  where-expired : (t : Message → Bool) (b : Bool) → t (mark_expired (message_at w n)) ≡ false
      → ((k : ℕ) → (k ≡ n → ⊥) → t (message_at w k) ≡ true → closed b (message_at w n).stream (waiting_of w k) ≡ waiting_of v k)
      → closed b (message_at w n).stream (without_message n (waiting_where w (λ k. t (message_at w k)))) ≡ waiting_where v (λ k. t (message_at v k))
  where-expired t b gone others =
      ap (closed b (message_at w n).stream)
      (those-gathered (λ c. not (is_of n c)) (waiting_of w) (numbers_where (λ k. t (message_at w k)) 0 (length w.messages)))
      ∙ closed-gathered b (message_at w n).stream (λ k. without_message n (waiting_of w k)) (numbers_where (λ k. t (message_at w k)) 0 (length w.messages))
      ∙ gathered-by (λ k. closed b (message_at w n).stream (without_message n (waiting_of w k))) (waiting_of v) (λ k. t (message_at w k))
      (λ k. t (message_at v k)) 0 (length w.messages) (λ k x y. each k)
      ∙ ap (λ c. flat_map (waiting_of v) (numbers_where (λ k. t (message_at v k)) 0 c)) (sym len-same)
    where
      mine : (k : ℕ) → without_message n (waiting_of w k) ≡ (if k == n then [] else waiting_of w k)
      mine k = without-waiting w n k (numbers_from (sent_of w k) (fragment_count w k - sent_of w k))

      nothing : (c : Bool) (xs : List ChunkPayloadData) → xs ≡ [] → (if c then xs else []) ≡ []
      nothing true xs e = e
      nothing false xs e = refl

      each : (k : ℕ) → (if t (message_at w k) then closed b (message_at w n).stream (without_message n (waiting_of w k)) else [])
          ≡ (if t (message_at v k) then waiting_of v k else [])
      each k = by_same {
          P = (if t (message_at w k) then closed b (message_at w n).stream (without_message n (waiting_of w k)) else [])
          ≡ (if t (message_at v k) then waiting_of v k else [])} k n here there
        where
          here : k ≡ n → (if t (message_at w k) then closed b (message_at w n).stream (without_message n (waiting_of w k)) else [])
              ≡ (if t (message_at v k) then waiting_of v k else [])
          here e =
              nothing (t (message_at w k)) (closed b (message_at w n).stream (without_message n (waiting_of w k)))
              (ap (closed b (message_at w n).stream) (mine k ∙ ap (λ c. if c then [] else waiting_of w k) (ap (λ j. j == n) e ∙ same-yes n))
              ∙ closed-none b (message_at w n).stream)
              ∙ sym (ap (λ c. if c then waiting_of v k else []) (ap (λ j. t (message_at v j)) e ∙ ap t message-here ∙ gone))

          there : (k ≡ n → ⊥) → (k == n) ≡ false → (if t (message_at w k) then closed b (message_at w n).stream (without_message n (waiting_of w k)) else [])
              ≡ (if t (message_at v k) then waiting_of v k else [])
          there ne off = by (t (message_at w k)) refl ∙ ap (λ x. if t x then waiting_of v k else []) (sym (message-other k ne))
            where
              by : (c : Bool) → t (message_at w k) ≡ c
                  → (if c then closed b (message_at w n).stream (without_message n (waiting_of w k)) else []) ≡ (if c then waiting_of v k else [])
              by true e = ap (closed b (message_at w n).stream) (mine k ∙ ap (λ c. if c then [] else waiting_of w k) off) ∙ others k ne e
              by false e = refl

  split : (a b : Bool) → (a && not b) ≡ true → (a ≡ true) × (b ≡ false)
  split c b e = grind (arith, nat_tests)

  miss : (a b : Bool) → (a && not (true || b)) ≡ false
  miss true b = refl
  miss false b = refl

  ordered-expired : closed (message_at w n).ordered (message_at w n).stream (without_message n (waiting_where w (waits_ordered w)))
      ≡ waiting_where v (waits_ordered v)
  ordered-expired =
      where-expired (λ x. x.ordered && not (x.expired || x.abandoned)) (message_at w n).ordered (miss (message_at w n).ordered (message_at w n).abandoned)
      (λ k ne h. let p = split (message_at w k).ordered (is_expired_or_abandoned w k) h in waiting-closed k ne p.0 p.1)

  unordered-expired : without_message n (waiting_where w (waits_unordered w)) ≡ waiting_where v (waits_unordered v)
  unordered-expired =
      where-expired (λ x. not x.ordered && not (x.expired || x.abandoned)) false (miss (not (message_at w n).ordered) (message_at w n).abandoned)
      (λ k ne h. let p = split (not (message_at w k).ordered) (is_expired_or_abandoned w k) h in
      sym (waiting_of-alike w v k (alike-by k ne (λ o. absurd (not_both (sym (negated (message_at w k).ordered p.0) ∙ o)))) refl))

  -- nothing is partially sent before or after
  partial-none : (k : ℕ) → k < length w.messages → is_partially_sent w k ≡ false
  partial-none k lt = by f.selected
    where
      by : (is_partially_sent w n ≡ true) ⊎ ((sent_of w n ≡ 0) × ((j : ℕ) → j < length w.messages → is_partially_sent w j ≡ false))
          → is_partially_sent w k ≡ false
      by (inl h) = absurd (not_both (sym (ap (λ c. nat_lt 0 c && (nat_lt c (fragment_count w n) && not (message_at w n).abandoned)) none-sent) ∙ h))
      by (inr r) = r.1 k lt

  partial-v : (k : ℕ) → is_partially_sent v k ≡ is_partially_sent w k
  partial-v k = changed-keeps mark_expired (λ x. nat_lt 0 (sent_of w k)
      && (nat_lt (sent_of w k) (length (pieces (length x.bytes) w.setup.size x.bytes)) && not x.abandoned)) (λ x. refl) n k w.messages no_message

  selected-v : selected_of v (first_of (messages_where v (is_partially_sent v))) ≡ None
  selected-v = cc (kept-none (is_partially_sent v) 0 (length v.messages) (λ k a b. partial-v k ∙ partial-none k (omega (arith, b, len-same))))

  selected-w : selected_of w (first_of (messages_where w (is_partially_sent w))) ≡ None
  selected-w = ap (λ l. selected_of w (first_of l)) (kept-none (is_partially_sent w) 0 (length w.messages) (λ k a b. partial-none k (omega (arith, b))))

  -- what the queue makes of its pending part
  abbrev pub pending_then : Bool → Pending → Pending
  pending_then ordered q = if not ordered then without n q else closed_up (message_at w n).stream (without n q)

  pub pending-expired : (q : Pending) → RefinesPending w q → RefinesPending v (pending_then (message_at w n).ordered q)
  pending-expired q t = grind (arith, nat_tests, ordered-expired, selected-w, selected-v, unordered-expired)

  -- the message leaves the queue
  pub refines-expired : (q : Outbound) → RefinesOutbound w q → RefinesOutbound v (record q { pending = pending_then (message_at w n).ordered q.pending })
  refines-expired q t = record {
    pending = pending-expired q.pending t.pending;
    in_flight = t.in_flight ∙ sym (sendings-alike w v refl refl (λ p lt. (refl, alike-sent (message_of w p) (slot-sent (shape w) p g.consistent.sender lt))));
    next = t.next ∙ sym len-same;
    unstarted = λ k lt. changed-keeps mark_expired (λ x. is_some x.started) (λ x. refl) n k w.messages no_message ∙ t.unstarted k (omega (arith, lt, len-same));
    started = omega (arith, t.started, len-same);
    begun = t.begun;
  }

-- ## The same message

first-piece : (most size : ℕ) (bytes : List ℕ) → 0 < size → 0 < length (pieces most size bytes)
    → (length (slice_index_or (pieces most size bytes) 0 []) == 0) ≡ false
first-piece zero size bytes s some = absurd (omega arith)
first-piece (suc most) size [] s some = absurd (omega arith)
first-piece (suc most) zero (x ∷ xs) s some = absurd (omega arith)
first-piece (suc most) (suc size) (x ∷ xs) s some = grind (arith, nat_tests)

-- DCEP has no deadline
past_deadline-same : (now : ℕ) (p : PayloadProtocolIdentifier) (timed : Bool) (o : Option ℕ)
    → (not (is_dcep p) && is_past now (if timed && not (is_dcep p) then o else None)) ≡ is_past now (if timed && not (is_dcep p) then o else None)
past_deadline-same now Dcep true o = refl
past_deadline-same now Dcep false o = refl
past_deadline-same now String timed o = refl
past_deadline-same now Binary timed o = refl
past_deadline-same now StringEmpty timed o = refl
past_deadline-same now BinaryEmpty timed o = refl
past_deadline-same now Unknown timed o = refl

-- the queue takes the fragment in front for an unsent message past its deadline where the record does
test-same : (setup : Setup) (w : LinkRecord) (n now : ℕ) → 0 < w.setup.size → Going setup w → front w ≡ Some n
    → is_expired now (waiting_at w n (sent_of w n)) ≡ (is_unsent w n && is_past_deadline w now n)
test-same setup w n now size g is = grind (arith, nat_tests, front_is, past_deadline-same, first-piece)

-- ## Expire

-- the queue's chunk is the first fragment of the message that the record's Expire removes
pub expiring-is : (setup : Setup) (w : LinkRecord) (now : ℕ) (q : Outbound) → 0 < w.setup.size → Going setup w → RefinesOutbound w q
    → outbound.expiring now q ≡ option_map (λ n. waiting_at w n 0) (expiring w now)
expiring-is setup w now q size g t = by (front w) refl
  where
    by : (o : Option ℕ) → front w ≡ o
        → outbound.expiring now q ≡ option_map (λ n. waiting_at w n 0) (front_if w (λ n. is_unsent w n && is_past_deadline w now n) o)
    by None e = ap (passing (is_expired now)) (idle w q t e)
    by (Some n) e = cc (shown setup w n q g e t, test-same setup w n now size g e, take-it (is_unsent w n) (is_past_deadline w now n) refl)
      where
        take-it : (b c : Bool) → is_unsent w n ≡ b
            → (if b && c then Some (waiting_at w n (sent_of w n)) else None) ≡ option_map (λ k. waiting_at w k 0) (if b && c then Some n else None)
        take-it b c h = grind (arith, nat_tests)

-- what the record's Expire removes: the front, which is unsent, and which is late
pub expiring-front : (w : LinkRecord) (now n : ℕ) → expiring w now ≡ Some n → (front w ≡ Some n) × (is_unsent w n ≡ true) × (is_past_deadline w now n ≡ true)
expiring-front w now n e = by (front w) refl e
  where
    by : (o : Option ℕ) → front w ≡ o → front_if w (λ k. is_unsent w k && is_past_deadline w now k) o ≡ Some n
        → (front w ≡ Some n) × (is_unsent w n ≡ true) × (is_past_deadline w now n ≡ true)
    by None h z = cc
    by (Some k) h z = on (is_unsent w k && is_past_deadline w now k) refl z
      where
        on : (b : Bool) → (is_unsent w k && is_past_deadline w now k) ≡ b → (if b then Some k else None) ≡ Some n
            → (front w ≡ Some n) × (is_unsent w n ≡ true) × (is_past_deadline w now n ≡ true)
        on b a y = grind (arith, nat_tests)

-- the outbound queue after the call holds what the record after the event says
pub refines-expire : (setup : Setup) (w : LinkRecord) (now : ℕ) (q : Outbound) → 0 < w.setup.size → Going setup w → RefinesOutbound w q
    → RefinesOutbound (after w (E.Expire now)) (expired_of (outbound.expiring now q) q)
refines-expire setup w now q size g t =
    subst (λ o. RefinesOutbound (after w (E.Expire now)) (expired_of o q)) (sym (expiring-is setup w now q size g t)) (by (expiring w now) refl)
  where
    by : (o : Option ℕ) → expiring w now ≡ o → RefinesOutbound (after_expire w o) (expired_of (option_map (λ n. waiting_at w n 0) o) q)
    by None e = t
    by (Some n) e = let p = expiring-front w now n e in refines-expired setup w n g p.0 p.1 q t
