-- A message is abandoned: what waits and what is in flight then is what the record says.
use Rattle.sctp_model.proofs.Names.{◌≡◌, ℕ, zero, suc, ◌+◌, ◌-◌, ◌<◌, ◌≤◌, ◌%◌, ◌^◌, Bool, true, false, List, [], ◌∷◌, ◌++◌, length, map, Option, Some, None}
use Rattle.sctp_model.proofs.Names.{refl, ap, sym, ◌∙◌, arith, append-nil, if◌then◌else◌, ◌==◌, ◌&&◌, ◌||◌, not, nat_lt, ◌⊎◌, subst, nat_tests, flat_map}
use Rattle.sctp_model.proofs.Names.{list_any, filter, numbers_where, always, first_of, pieces, change_where, kept-same, kept-none, map-kept-same, front-kept}
use Rattle.sctp_model.proofs.Names.{FrontOf, length-changed, changed-keeps, not_both, both, fails, by_same, same-yes, same-is, ChunkPayloadData, Selected}
use Rattle.sctp_model.proofs.Names.{is_of, Pending, without, waits, Outbound, LinkRecord, Message, Slot, message_at, message_of, messages_where, no_message}
use Rattle.sctp_model.proofs.Names.{is_ordered_on, ordered_before, ssn_of, fragment_count, sent_of, is_partially_sent, tsn_of, is_expired_or_abandoned}
use Rattle.sctp_model.proofs.Names.{after_abandon, with_slot, message_changed, mark_abandoned, waiting_at, waiting_of, waiting_where, waits_ordered}
use Rattle.sctp_model.proofs.Names.{waits_unordered, selected_of, RefinesPending, RefinesOutbound, Sending, sending_of, sending_at, following_tsn, cases_lt}
use Rattle.sctp_model.proofs.Names.{those-append}
use Rattle.sctp_outbound.specs.Marks.{as_abandoned}
use Rattle.sctp_outbound.specs.pending_queue.PendingQueue.{selected_without, last_removed, last_of}
use Rattle.sctp_outbound.specs.outbound_queue.OutboundQueue.{terminal_chunk, with_terminal_chunk, tsn_after}
use Rattle.sctp_model.proofs.sender.Shape.{shape}
use Rattle.sctp_model.proofs.sender.Sender.{Sender}
use Rattle.sctp_model.proofs.sender.SenderSteps.{of-has, partial-one}
use Rattle.sctp_model.proofs.sender.Slots.{sent-made}
use Rattle.sctp_model.proofs.refinement.sending.Waiting.{gathered-same, waiting_of-alike, gathered-from}
use Rattle.sctp_model.proofs.refinement.acknowledging.QuietSender.{waiting_by}
use Rattle.sctp_model.proofs.refinement.sending.SentInFlight.{slot-new, in-flight-more, begun-more}
use Rattle.sctp_model.proofs.refinement.abandonment.NothingHeld.{sent-same}
use Rattle.sctp_outbound.specs.payload_queue.PayloadQueue as payload
use Rattle.sctp_outbound.specs.outbound_queue.OutboundQueue as queue
use Rattle.sctp_model.proofs.sender.Shapes

-- ## What waits of one message, among what waits

-- a test of the message's number takes all of it or nothing
those-message : (w : LinkRecord) (n : ℕ) (t : ℕ → Bool) (is : List ℕ)
    → filter (λ c. t c.message_id) (map (waiting_at w n) is) ≡ (if t n then map (waiting_at w n) is else [])
those-message w n t is = by (t n) refl is
  where
    by : (b : Bool) → t n ≡ b → (is : List ℕ) → filter (λ c. t c.message_id) (map (waiting_at w n) is) ≡ (if b then map (waiting_at w n) is else [])
    by true e [] = refl
    by false e [] = refl
    by true e (i ∷ is) = cc (e, by true e is)
    by false e (i ∷ is) = cc (e, by false e is)

pub those-gathered : (w : LinkRecord) (t p : ℕ → Bool) (from count : ℕ)
    → filter (λ c. t c.message_id) (flat_map (waiting_of w) (numbers_where p from count)) ≡ flat_map (waiting_of w) (numbers_where (λ k. p k && t k) from count)
those-gathered w t p from zero = refl
those-gathered w t p from (suc count) = grind (arith, nat_tests, those-append, those-message, those-gathered w t p (from + 1) count)

gathered-one : {A : Type 0} (f : ℕ → List A) (p : ℕ → Bool) (n count : ℕ) → n < count
    → flat_map f (numbers_where (λ k. p k && (k == n)) 0 count) ≡ (if p n then f n else [])
gathered-one {A} f p n count lt = by (p n) refl
  where
    no-other : (k : ℕ) → (k ≡ n → ⊥) → (p k && (k == n)) ≡ false
    no-other k ne = fails (p k && (k == n)) (λ h. ne (same-is k n (both (p k) (k == n) h).1))

    by : (b : Bool) → p n ≡ b → flat_map f (numbers_where (λ k. p k && (k == n)) 0 count) ≡ (if b then f n else [])
    by true e =
        gathered-from f (λ k. p k && (k == n)) n 0 count (omega arith) (omega (arith, lt)) (ap (λ b. b && (n == n)) e ∙ same-yes n)
        (λ k a b h. absurd (not_both (sym (no-other k (λ z. omega (arith, b, z))) ∙ h))) ∙ ap (λ l. f n ++ flat_map f l)
        (kept-none (λ k. p k && (k == n)) (n + 1) (0 + count - (n + 1)) (λ k a b. no-other k (λ z. omega (arith, a, z)))) ∙ append-nil (f n)
    by false e = ap (flat_map f) (kept-none (λ k. p k && (k == n)) 0 count
        (λ k a b. by_same {P = (p k && (k == n)) ≡ false} k n (λ z. ap (λ j. p j && (k == n)) z ∙ ap (λ b. b && (k == n)) e) (λ ne x. no-other k ne)))

-- ## One message

-- what waits of a message, in one of the lists
pub those-one : (w : LinkRecord) (n : ℕ) (p : ℕ → Bool) → n < length w.messages → filter (is_of n) (waiting_where w p) ≡ (if p n then waiting_of w n else [])
those-one w n p lt = those-gathered w (λ k. k == n) p 0 (length w.messages) ∙ gathered-one (waiting_of w) p n (length w.messages) lt

abbrev some : List ChunkPayloadData → Bool
some [] = false
some (c ∷ cs) = true

any-those : (t : ChunkPayloadData → Bool) (xs : List ChunkPayloadData) → list_any t xs ≡ some (filter t xs)
any-those t [] = refl
any-those t (x ∷ xs) = grind (arith, nat_tests, any-those t xs)

-- the rest of a message, where there is one
rest-some : (w : LinkRecord) (n : ℕ) → some (waiting_of w n) ≡ nat_lt (sent_of w n) (fragment_count w n)
rest-some w n = grind (arith, nat_tests)

-- whether fragments of it wait
abbrev pub has_rest : LinkRecord → ℕ → Bool
has_rest w n = not (is_expired_or_abandoned w n) && nat_lt (sent_of w n) (fragment_count w n)

pub waits-is : (w : LinkRecord) (n : ℕ) (q : Pending) → n < length w.messages → RefinesPending w q → waits n q ≡ has_rest w n
waits-is w n q lt t = grind (arith, nat_tests, any-those, those-one, rest-some)

-- the last fragment of the rest
last-of : (w : LinkRecord) (n from count : ℕ) → last_of (map (waiting_at w n) (numbers_where always from (suc count))) ≡ Some (waiting_at w n (from + count))
last-of w n from zero = ap (λ i. Some (waiting_at w n i)) (let z : from ≡ from + 0 = omega arith in z)
last-of w n from (suc count) = last-of w n (from + 1) count ∙ ap (λ i. Some (waiting_at w n i)) (let z : from + 1 + count ≡ from + suc count = omega arith in z)

pub last-removed : (w : LinkRecord) (n : ℕ) (q : Pending) → n < length w.messages → RefinesPending w q
    → last_removed n q ≡ (if has_rest w n then Some (waiting_at w n (fragment_count w n - 1)) else None)
last-removed w n q lt t =
    ap (λ l. last_of (filter (is_of n) l ++ filter (is_of n) q.unordered)) t.ordered
    ∙ ap (λ l. last_of (filter (is_of n) (waiting_where w (waits_ordered w)) ++ filter (is_of n) l)) t.unordered
    ∙ ap (λ l. last_of (l ++ filter (is_of n) (waiting_where w (waits_unordered w)))) (those-one w n (waits_ordered w) lt)
    ∙ ap (λ l. last_of ((if waits_ordered w n then waiting_of w n else []) ++ l)) (those-one w n (waits_unordered w) lt)
    ∙ by (message_at w n).ordered (is_expired_or_abandoned w n)
    ∙ complete (is_expired_or_abandoned w n)
  where
    by : (o g : Bool) → last_of ((if o && not g then waiting_of w n else []) ++ (if not o && not g then waiting_of w n else []))
        ≡ (if not g then last_of (waiting_of w n) else None)
    by true true = refl
    by true false = ap last_of (append-nil (waiting_of w n))
    by false true = refl
    by false false = refl

    rest : (sent_of w n < fragment_count w n) ⊎ (fragment_count w n ≤ sent_of w n)
        → last_of (waiting_of w n) ≡ (if nat_lt (sent_of w n) (fragment_count w n) then Some (waiting_at w n (fragment_count w n - 1)) else None)
    rest b = grind (arith, nat_tests, last-of)

    complete : (g : Bool) → (if not g then last_of (waiting_of w n) else None)
        ≡ (if not g && nat_lt (sent_of w n) (fragment_count w n) then Some (waiting_at w n (fragment_count w n - 1)) else None)
    complete true = refl
    complete false = rest (cases_lt (sent_of w n) (fragment_count w n))

-- a message without what an abandonment changes
abbrev pub alive : Message → Message
alive m = record m { abandoned = false }

-- ## The message alone

abbrev pub marked : LinkRecord → ℕ → LinkRecord
marked w n = message_changed w n mark_abandoned

-- the queue: its tail goes, what is in flight of it is cleared
abbrev pub given : ℕ → Outbound → Outbound
given n q = record q { pending = without n q.pending; inflight = payload.with_chunks q.inflight (change_where (is_of n) as_abandoned q.inflight.chunks) }

module _ (w : LinkRecord) (n : ℕ) where
  abbrev v : LinkRecord
  v = marked w n

  pub alive-same : (k : ℕ) → alive (message_at v k) ≡ alive (message_at w k)
  alive-same k = changed-keeps mark_abandoned alive (λ m. refl) n k w.messages no_message

  count-messages : length v.messages ≡ length w.messages
  count-messages = length-changed mark_abandoned n w.messages

  pub abandoned-then : (k : ℕ) → (message_at v k).abandoned ≡ ((k == n) || (message_at w k).abandoned)
  abandoned-then k = ap (λ x. (x.message k).abandoned) (Shapes.shape-abandoned w n)

  pub before-same : (t k : ℕ) → ordered_before v t k ≡ ordered_before w t k
  before-same t k =
      ap length (kept-same (is_ordered_on v t) (is_ordered_on w t) 0 k (λ j a b. ap (λ m. (m.stream == t) && (m.ordered && not m.expired)) (alive-same j)))

  ssn-same : (k : ℕ) → ssn_of v k ≡ ssn_of w k
  ssn-same k = grind (arith, nat_tests, alive-same, before-same)

  waiting_at-same : (k i : ℕ) → waiting_at v k i ≡ waiting_at w k i
  waiting_at-same k i = ap (λ m. waiting_by w.setup m (ssn_of v k) k i) (alive-same k)
      ∙ ap (λ c. waiting_by w.setup (alive (message_at w k)) c k i) (ssn-same k)

  pub count-same : (k : ℕ) → fragment_count v k ≡ fragment_count w k
  count-same k = ap (λ m. length (pieces (length m.bytes) w.setup.size m.bytes)) (alive-same k)

  waiting_of-same : (k : ℕ) → waiting_of v k ≡ waiting_of w k
  waiting_of-same k = grind (arith, nat_tests, count-same, map-kept-same, waiting_at-same)

  -- what waits, by a test that abandons message n
  where-less : (t : Message → Bool) → ((m : Message) → t m ≡ t (alive m)) → waiting_where v (λ k. t (message_at v k) && not (is_expired_or_abandoned v k))
      ≡ flat_map (waiting_of w) (numbers_where (λ k. (t (message_at w k) && not (is_expired_or_abandoned w k)) && not (k == n)) 0 (length w.messages))
  where-less t same = grind (arith, nat_tests, count-messages, gathered-same, alive-same, abandoned-then, waiting_of-same)

  pub partial-then : (k : ℕ) → is_partially_sent v k ≡ (is_partially_sent w k && not (k == n))
  partial-then k = grind (arith, nat_tests, count-same, abandoned-then)

  -- at most one message is partially sent
  selected-then : Sender (shape w) → selected_without n (selected_of w (first_of (messages_where w (is_partially_sent w))))
      ≡ selected_of v (first_of (messages_where v (is_partially_sent v)))
  selected-then s = cc (by (messages_where w (is_partially_sent w)) (front-kept (is_partially_sent w) 0 (length w.messages)), less)
    where
      less : messages_where v (is_partially_sent v) ≡ numbers_where (λ k. is_partially_sent w k && not (k == n)) 0 (length w.messages)
      less = cc (count-messages, kept-same (is_partially_sent v) (λ k. is_partially_sent w k && not (k == n)) 0 (length w.messages) (λ k a b. partial-then k))

      none : (j : ℕ) → is_partially_sent w j ≡ true → j ≡ n → numbers_where (λ k. is_partially_sent w k && not (k == n)) 0 (length w.messages) ≡ []
      none j h e = kept-none (λ k. is_partially_sent w k && not (k == n)) 0 (length w.messages) (λ k a b. one k (is_partially_sent w k) refl)
        where
          one : (k : ℕ) (b : Bool) → is_partially_sent w k ≡ b → (b && not (k == n)) ≡ false
          one k false f = refl
          one k true f = ap (λ i. not (i == n)) (partial-one (shape w) k j s f h ∙ e) ∙ ap not (same-yes n)

      kind : (k : ℕ) → selected_of w (Some k) ≡ selected_of v (Some k)
      kind k = ap (λ m. Some (let x : Selected = record { message_id = k; unordered = not m.ordered } in x)) (sym (alive-same k))

      first-is : (j : ℕ) → is_partially_sent w j ≡ true → j < length w.messages → (j == n) ≡ false → (l : List ℕ)
          → FrontOf (λ k. is_partially_sent w k && not (k == n)) 0 (length w.messages) l → first_of l ≡ Some j
      first-is j h lt ne [] f = absurd (not_both (sym (f j (omega arith) (omega (arith, lt))) ∙ ap (λ b. b && not (j == n)) h ∙ ap not ne))
      first-is j h lt ne (k ∷ l) f = ap Some (partial-one (shape w) k j s (left (is_partially_sent w k) (not (k == n)) f.passes) h)
        where
          left : (a b : Bool) → (a && b) ≡ true → a ≡ true
          left true b e = refl
          left false b e = cc

      by : (l : List ℕ) → FrontOf (is_partially_sent w) 0 (length w.messages) l → selected_without n (selected_of w (first_of l))
          ≡ selected_of v (first_of (numbers_where (λ k. is_partially_sent w k && not (k == n)) 0 (length w.messages)))
      by [] f = cc (kept-none (λ k. is_partially_sent w k && not (k == n)) 0 (length w.messages) (λ k a b. ap (λ c. c && not (k == n)) (f k a b)))
      by (j ∷ l) f = by_same {
          P = selected_without n (selected_of w (Some j))
          ≡ selected_of v (first_of (numbers_where (λ k. is_partially_sent w k && not (k == n)) 0 (length w.messages)))} j n
          (λ e. ap (λ b. if b then None else selected_of w (Some j)) (ap (λ i. j == i) (sym e) ∙ same-yes j)
          ∙ ap (λ l. selected_of v (first_of l)) (sym (none j f.passes e)))
          (λ ne x. ap (λ b. if b then None else selected_of w (Some j)) x ∙ kind j
          ∙ ap (selected_of v) (sym (first-is j f.passes (omega (arith, f.high)) x (numbers_where (λ k. is_partially_sent w k && not (k == n)) 0
          (length w.messages)) (front-kept (λ k. is_partially_sent w k && not (k == n)) 0 (length w.messages)))))

  pub pending-given : Sender (shape w) → (q : Pending) → RefinesPending w q → RefinesPending v (without n q)
  pending-given s q t = record {
    ordered = cc (t.ordered, those-gathered w (λ k. not (k == n)) (waits_ordered w) 0 (length w.messages), where-less (λ m. m.ordered) (λ m. refl));
    unordered = cc (t.unordered, those-gathered w (λ k. not (k == n)) (waits_unordered w) 0 (length w.messages), where-less (λ m. not m.ordered) (λ m. refl));
    selected = ap (selected_without n) t.selected ∙ selected-then s;
  }

  -- ## In flight

  abbrev gone : Sending → Sending
  gone s = record { chunk = record s.chunk { payload = []; abandoned = true }; stream = s.stream; says = None }

  gone-queue : (c : ChunkPayloadData) → sending_of (as_abandoned c) ≡ gone (sending_of c)
  gone-queue c = grind (arith, nat_tests)

  sending-then : (p : ℕ) → sending_at v p ≡ (if message_of w p == n then gone (sending_at w p) else sending_at w p)
  sending-then p = grind (arith, nat_tests, alive-same, abandoned-then, ssn-same)

  in-flight-given : (cs : List ChunkPayloadData) (from count : ℕ) → map sending_of cs ≡ map (sending_at w) (numbers_where always from count)
      → map sending_of (change_where (is_of n) as_abandoned cs) ≡ map (sending_at v) (numbers_where always from count)
  in-flight-given [] from zero e = refl
  in-flight-given [] from (suc count) e = cc
  in-flight-given (c ∷ cs) from zero e = cc
  in-flight-given (c ∷ cs) from (suc count) e = grind (arith, nat_tests, sending-then, gone-queue, in-flight-given cs (from + 1) count)

  pub refines-given : Sender (shape w) → (q : Outbound) → RefinesOutbound w q → RefinesOutbound v (given n q)
  refines-given s q t = grind (arith, nat_tests, pending-given, in-flight-given, count-messages, alive-same)

-- ## The terminal chunk

-- a message that is abandoned takes a terminal chunk
module _ (u : LinkRecord) (n : ℕ) (dead : (message_at u n).abandoned ≡ true) (few : length u.slots < 2 ^ 31) (made : u.taken ≤ length u.slots) where
  abbrev z : LinkRecord
  z = with_slot u n true

  abbrev here : ℕ
  here = length u.slots

  -- whatever fragment of the message the mark is made from
  terminal-new : (i : ℕ) → sending_of (terminal_chunk (tsn_of u here) (waiting_at u n i)) ≡ sending_at z here
  terminal-new i = let new = slot-new u n true few made in sym (rw (ap (λ x. x.message) new, new, dead) refl)

  where-same : (t : ℕ → Bool) → waiting_where z t ≡ waiting_where u t
  where-same t = gathered-same (waiting_of z) (waiting_of u) t t 0 (length u.messages) (λ k a b. refl)
      (λ k a b e. waiting_of-alike u z k (record { setup = refl; message = refl; ssn = refl }) (sent-same u n k))

  partial-same : messages_where z (is_partially_sent z) ≡ messages_where u (is_partially_sent u)
  partial-same = kept-same (is_partially_sent z) (is_partially_sent u) 0 (length u.messages)
      (λ k a b. ap (λ s. nat_lt 0 s && (nat_lt s (fragment_count u k) && not (message_at u k).abandoned)) (sent-same u n k))

  pub refines-terminal : (i : ℕ) (q : Outbound) → n < q.next_unstarted → RefinesOutbound u q
      → RefinesOutbound z (record q { inflight = payload.push_chunk q.inflight (terminal_chunk (tsn_of u here) (waiting_at u n i)) })
  refines-terminal i q begun t = record {
    pending = record {
      ordered = t.pending.ordered ∙ sym (where-same (waits_ordered u));
      unordered = t.pending.unordered ∙ sym (where-same (waits_unordered u));
      selected = t.pending.selected ∙ sym (ap (λ l. selected_of z (first_of l)) partial-same ∙ same (first_of (messages_where u (is_partially_sent u))));
    };
    in_flight = in-flight-more u n true few made (terminal_chunk (tsn_of u here) (waiting_at u n i)) q.inflight.chunks refl (terminal-new i) t.in_flight;
    next = t.next;
    unstarted = t.unstarted;
    started = t.started;
    begun = begun-more u n true few made q.next_unstarted begun t.begun;
  }
    where
      same : (o : Option ℕ) → selected_of z o ≡ selected_of u o
      same None = refl
      same (Some k) = refl

-- ## Both

-- what the queue waits for of a message that was begun is what is partially sent
module _ (w : LinkRecord) (n : ℕ) (s : Sender (shape w)) (pos : 0 < sent_of w n) where
  made-message : n < length w.messages
  made-message = sent-made (shape w) n s pos

  pub rest-is : has_rest w n ≡ is_partially_sent w n
  rest-is = grind (arith, nat_tests, made-message)

  pub waits-partial : (q : Outbound) → RefinesOutbound w q → waits n q.pending ≡ is_partially_sent w n
  waits-partial q t = waits-is w n q.pending made-message t.pending ∙ rest-is

  -- its lifetime has started
  begun-message : (q : Outbound) → RefinesOutbound w q → n < q.next_unstarted
  begun-message q t = grind (arith, nat_tests, front-kept, of-has)

  -- the queue abandons what the record does
  pub refines-abandoned : length w.slots < 2 ^ 31 → w.taken ≤ length w.slots → (q : Outbound) → RefinesOutbound w q
      → RefinesOutbound (after_abandon w n) (queue.abandon_chunks n (tsn_of w (length w.slots)) q)
  refines-abandoned few made q t = by (is_partially_sent w n) refl
    where
      last : (b : Bool) → is_partially_sent w n ≡ b → last_removed n q.pending ≡ (if b then Some (waiting_at w n (fragment_count w n - 1)) else None)
      last b e = last-removed w n q.pending made-message t.pending ∙ ap (λ c. if c then Some (waiting_at w n (fragment_count w n - 1)) else None) (rest-is ∙ e)

      with : Option ChunkPayloadData → Outbound
      with o = record q {
        pending = without n q.pending;
        inflight = with_terminal_chunk o (tsn_of w (length w.slots)) (payload.with_chunks q.inflight (change_where (is_of n) as_abandoned q.inflight.chunks));
      }

      dead : (message_at (marked w n) n).abandoned ≡ true
      dead = abandoned-then w n n ∙ ap (λ b. b || (message_at w n).abandoned) (same-yes n)

      by : (b : Bool) → is_partially_sent w n ≡ b
          → RefinesOutbound (message_changed (if b then with_slot w n true else w) n mark_abandoned) (queue.abandon_chunks n (tsn_of w (length w.slots)) q)
      by true e = subst (λ o. RefinesOutbound (with_slot (marked w n) n true) (with o))
          (sym (last true e ∙ ap Some (sym (waiting_at-same w n n (fragment_count w n - 1)))))
          (refines-terminal (marked w n) n dead few made (fragment_count w n - 1) (given n q) (begun-message q t) (refines-given w n s q t))
      by false e = subst (λ o. RefinesOutbound (marked w n) (with o)) (sym (last false e)) (refines-given w n s q t)

  -- and the next TSN is that of the next slot
  pub tsn-abandoned : (q : Outbound) → RefinesOutbound w q
      → tsn_after n (tsn_of w (length w.slots)) q ≡ tsn_of (after_abandon w n) (length (after_abandon w n).slots)
  tsn-abandoned q t = cc (waits-partial q t, by (is_partially_sent w n))
    where
      many : length (with_slot w n true).slots ≡ suc (length w.slots)
      many = ones w.slots
        where
          ones : (xs : List Slot) → length
              (xs ++ record { message = n; fragment = sent_of w n; is_terminal_chunk = true; arrived = false; acknowledged = false } ∷ []) ≡ suc (length xs)
          ones [] = refl
          ones (x ∷ xs) = ap suc (ones xs)

      by : (b : Bool) → (if b then following_tsn (tsn_of w (length w.slots)) else tsn_of w (length w.slots)) ≡ tsn_of (message_changed (if b
          then with_slot w n true else w) n mark_abandoned) (length (message_changed (if b then with_slot w n true else w) n mark_abandoned).slots)
      by true = (let g : (tsn_of w (length w.slots) + 1) % 2 ^ 32 ≡ tsn_of w (suc (length w.slots)) = omega arith in g) ∙ ap (tsn_of w) (sym many)
      by false = refl
