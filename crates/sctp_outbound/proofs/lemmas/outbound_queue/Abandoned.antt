-- Messages that are abandoned.
use Rattle.std.proofs.Common.{◌≡◌, ◌==◌, ℕ, zero, suc, ◌-◌, ◌<◌, Bool, true, false, ◌||◌, max, if◌then◌else◌, List, [], ◌∷◌, ◌++◌, get_or, Option, Some, None}
use Rattle.std.proofs.Common.{is_some, refl, sym, ap, ap₂, ◌∙◌, subst, inl, inr, arith}
use Rattle.std.specs.List.{All, find, list_any, filter}
use Rattle.std.proofs.lemmas.Bool.{false≢true, cases_lt}
use Rattle.std.proofs.lemmas.Bool.Decides.{nat_tests}
use Rattle.std.proofs.lemmas.Option.{none-some}
use Rattle.sctp_data.specs.declared.chunk.chunk_payload_data.ChunkPayloadData.{ChunkPayloadData}
use Rattle.sctp_util.specs.Lists.{change_where, insert_before}
use Rattle.sctp_util.proofs.Edits.{length-change_where, list_any-inserted, those-none}
use Rattle.sctp_outbound.specs.declared.pending_queue.Selected.{Selected}
use Rattle.sctp_outbound.specs.Marks.{is_of, as_abandoned}
use Rattle.sctp_outbound.specs.outbound_queue.OutboundQueue.{Outbound, abandon_chunks, terminal_chunk, with_terminal_chunk}
use Rattle.sctp_serial.specs.DataChunks.{chunk_before, has_tsn}
use Rattle.sctp_outbound.specs.payload_queue.PayloadQueue as payload
use Rattle.sctp_outbound.specs.pending_queue.PendingQueue.{Pending, last_of, last_removed, selected_without, without}
use Rattle.sctp_outbound.specs.pending_queue.Whole.{free, begun, stage_of, IsWhole, IsSendable, partial_of, partially_sent, waits}
use Rattle.sctp_serial.specs.Window.{IsWithinHalf, SpansOneWindow, is_held}
use Rattle.sctp_outbound.proofs.lemmas.outbound_queue.Sendable.{made, or_false, sendable-marked, sendable-without}
use Rattle.sctp_outbound.proofs.lemmas.pending_queue.CompleteMessages.{KeepsMessage, none_past, none_without}
use Rattle.sctp_serial.proofs.lemmas.ListEdits.{neither}
use Rattle.sctp_util.proofs.Cases.{or-left, or-right}
use Rattle.sctp_util.proofs.More.{fails}

-- ## Changes that leave the TSNs

module _ (p : ChunkPayloadData → Bool) (f : ChunkPayloadData → ChunkPayloadData) (keeps : (c : ChunkPayloadData) → (f c).tsn ≡ c.tsn) where
  if_tsn : (b : Bool) (c : ChunkPayloadData) → (if b then f c else c).tsn ≡ c.tsn
  if_tsn true c = keeps c
  if_tsn false c = refl

  is_some_if : (b : Bool) (c : ChunkPayloadData) (o : Option ChunkPayloadData) → is_some (if b then Some c else o) ≡ (b || is_some o)
  is_some_if true c o = refl
  is_some_if false c o = refl

  pub is_held-change_where : (tsn : ℕ) (xs : List ChunkPayloadData) → is_held (change_where p f xs) tsn ≡ is_held xs tsn
  is_held-change_where tsn [] = refl
  is_held-change_where tsn (x ∷ xs) =
      is_some_if (has_tsn tsn (if p x then f x else x)) (if p x then f x else x) (find (has_tsn tsn) (change_where p f xs))
      ∙ ap₂ (λ k b. k == tsn || b) (if_tsn (p x) x) (is_held-change_where tsn xs)
      ∙ sym (is_some_if (has_tsn tsn x) x (find (has_tsn tsn) xs))

  tsn_in : (xs : List ChunkPayloadData) (k : ℕ) (d : ChunkPayloadData) → (get_or (change_where p f xs) k d).tsn ≡ (get_or xs k d).tsn
  tsn_in [] k d = refl
  tsn_in (x ∷ xs) zero d = if_tsn (p x) x
  tsn_in (x ∷ xs) (suc k) d = tsn_in xs k d

  pub window-change_where : (tsn : ℕ) (xs : List ChunkPayloadData) → SpansOneWindow xs tsn → SpansOneWindow (change_where p f xs) tsn
  window-change_where tsn xs w = (
    w.0,
    record {
      base_in_range = w.1.base_in_range;
      number = w.1.number;
      held = λ k d lt. subst (IsWithinHalf w.0) (sym (tsn_in xs k d)) (w.1.held k d (subst (λ n. k < n) (length-change_where p f xs) lt));
    },
  )

-- ## What is removed

last_none : (xs : List ChunkPayloadData) → last_of xs ≡ None → xs ≡ []
last_none [] h = refl
last_none (x ∷ []) h = absurd (none-some x (sym h))
last_none (x ∷ y ∷ ys) h = let e : y ∷ ys ≡ [] = last_none (y ∷ ys) h in cc

some_those : (p : ChunkPayloadData → Bool) (xs : List ChunkPayloadData) → list_any p xs ≡ true → filter p xs ≡ [] → ⊥
some_those p [] h e = false≢true h
some_those p (x ∷ xs) h e = step (p x) h e (some_those p xs)
  where
    step : (b : Bool) → (b || list_any p xs) ≡ true → (if b then x ∷ filter p xs else filter p xs) ≡ [] → (list_any p xs ≡ true → filter p xs ≡ [] → ⊥) → ⊥
    step true h e ih = cc
    step false h e ih = ih h e

none_of_two : (xs ys : List ChunkPayloadData) → xs ++ ys ≡ [] → (xs ≡ []) × (ys ≡ [])
none_of_two [] ys e = (refl, e)
none_of_two (x ∷ xs) ys e = cc

-- of a message that waits something is removed
pub no_last : (m : ℕ) (q : Pending) → waits m q ≡ true → last_removed m q ≡ None → ⊥
no_last m q h e =
    let both = none_of_two (filter (is_of m) q.ordered) (filter (is_of m) q.unordered) (last_none _ e) in
    step (list_any (is_of m) q.unordered) refl h both
  where
    step : (b : Bool) → list_any (is_of m) q.unordered ≡ b → (b || list_any (is_of m) q.ordered) ≡ true
        → (filter (is_of m) q.ordered ≡ []) × (filter (is_of m) q.unordered ≡ []) → ⊥
    step true e h both = some_those (is_of m) q.unordered e both.1
    step false e h both = some_those (is_of m) q.ordered h both.0

-- and of one that does not wait nothing is
fails_all : (p : ChunkPayloadData → Bool) (xs : List ChunkPayloadData) → list_any p xs ≡ false → All (λ x. p x ≡ false) xs
fails_all p [] h k d lt = absurd (omega arith)
fails_all p (x ∷ xs) h zero d lt = first (p x) h
  where
    first : (b : Bool) → (b || list_any p xs) ≡ false → b ≡ false
    first true h = h
    first false h = refl
fails_all p (x ∷ xs) h (suc k) d lt = fails_all p xs (rest (p x) h) k d (omega arith)
  where
    rest : (b : Bool) → (b || list_any p xs) ≡ false → list_any p xs ≡ false
    rest true h = absurd (false≢true (sym h))
    rest false h = h

pub those_empty : (p : ChunkPayloadData → Bool) (xs : List ChunkPayloadData) → list_any p xs ≡ false → filter p xs ≡ []
those_empty p [] h = refl
those_empty p (x ∷ xs) h = step (p x) h (those_empty p xs)
  where
    step : (b : Bool) → (b || list_any p xs) ≡ false → (list_any p xs ≡ false → filter p xs ≡ []) → (if b then x ∷ filter p xs else filter p xs) ≡ []
    step true h ih = absurd (false≢true (sym h))
    step false h ih = ih h

-- the partially sent message waits
pub partial_waits : (os us : List ChunkPayloadData) (sel : Option Selected) (ro ru n m : ℕ) (xs : List ChunkPayloadData)
    → IsSendable (made os us sel ro ru) xs n → partial_of sel ≡ Some m → waits m (made os us sel ro ru) ≡ true
partial_waits os us None ro ru n m xs s h = absurd (none-some m h)
partial_waits os us (Some sel) ro ru n m xs s h = by sel.unordered s.ordered s.unordered
  where
    same : sel.message_id ≡ m
    same = cc

    in_front : (kind : Bool) (cs : List ChunkPayloadData) → IsWhole kind n (begun sel.message_id) cs → list_any (is_of m) cs ≡ true
    in_front kind [] w = absurd w
    in_front kind (c ∷ cs) w = let it : (c.message_id == m) ≡ true = grind (arith, nat_tests, w.0.1, same) in or-left _ _ it

    by : (k : Bool) → IsWhole false n (if k then free 0 else begun sel.message_id) os → IsWhole true n (if k then begun sel.message_id else free 0) us
        → (list_any (is_of m) us || list_any (is_of m) os) ≡ true
    by true w v = or-left _ _ (in_front true us v)
    by false w v = or-right _ _ (in_front false os w)

selected_stays : (m : ℕ) (sel : Option Selected) → (partial_of sel ≡ Some m → ⊥) → selected_without m sel ≡ sel
selected_stays m None h = refl
selected_stays m (Some s) h = let other : (s.message_id == m) ≡ false = fails _ (λ e. h (ap Some (grind (arith, nat_tests)))) in rw other refl

-- a message with no tail leaves the pending queue as it is
without_none : (os us : List ChunkPayloadData) (sel : Option Selected) (ro ru n m : ℕ) (xs : List ChunkPayloadData) → IsSendable (made os us sel ro ru) xs n
    → waits m (made os us sel ro ru) ≡ false → without m (made os us sel ro ru) ≡ made os us sel ro ru
without_none os us sel ro ru n m xs s h =
    let none = neither (list_any (is_of m) us) (list_any (is_of m) os) h in
    let ordered = those-none (is_of m) os (fails_all (is_of m) os none.1) in
    let unordered = those-none (is_of m) us (fails_all (is_of m) us none.0) in
    let selected = selected_stays m sel (λ e. false≢true (sym h ∙ partial_waits os us sel ro ru n m xs s e)) in
    ap₂ (λ cs ds. made cs ds (selected_without m sel) ro ru) ordered unordered ∙ ap (λ o. made os us o ro ru) selected

pub last_removed_none : (m : ℕ) (q : Pending) → waits m q ≡ false → last_removed m q ≡ None
last_removed_none m q h =
    let none = neither (list_any (is_of m) q.unordered) (list_any (is_of m) q.ordered) h in
    ap₂ (λ cs ds. last_of (cs ++ ds)) (those_empty (is_of m) q.ordered none.1) (those_empty (is_of m) q.unordered none.0)

pub abandoned_none : (m tsn : ℕ) (q : Outbound) → IsSendable q.pending q.inflight.chunks q.next_message_id → waits m q.pending ≡ false
    → abandon_chunks m tsn q ≡ record q { inflight = payload.with_chunks q.inflight (change_where (is_of m) as_abandoned q.inflight.chunks) }
abandoned_none m tsn q s h =
    ap (λ o. record q {
      pending = without m q.pending;
      inflight = with_terminal_chunk o tsn (payload.with_chunks q.inflight (change_where (is_of m) as_abandoned q.inflight.chunks));
    }) (last_removed_none m q.pending h)
    ∙ ap (λ p. record q { pending = p; inflight = payload.with_chunks q.inflight (change_where (is_of m) as_abandoned q.inflight.chunks) }) (without_none
    q.pending.ordered q.pending.unordered q.pending.selected q.pending.ordered_room q.pending.unordered_room q.next_message_id m q.inflight.chunks s h)

-- room that was made for the terminal chunk is gone after it
pub abandoned_room : (m tsn : ℕ) (q : Outbound) → waits m q.pending ≡ true
    → abandon_chunks m tsn (record q { inflight = record q.inflight { room = max 1 q.inflight.room } }) ≡ abandon_chunks m tsn q
abandoned_room m tsn q h = step (last_removed m q.pending) refl
  where
    one : max 1 q.inflight.room - 1 ≡ q.inflight.room - 1
    one = omega arith

    step : (o : Option ChunkPayloadData) → last_removed m q.pending ≡ o → record q {
      pending = without m q.pending;
      inflight = with_terminal_chunk o tsn
          (payload.with_chunks (record q.inflight { room = max 1 q.inflight.room }) (change_where (is_of m) as_abandoned q.inflight.chunks));
    } ≡ record q {
      pending = without m q.pending;
      inflight = with_terminal_chunk o tsn (payload.with_chunks q.inflight (change_where (is_of m) as_abandoned q.inflight.chunks));
    }
    step None e = absurd (no_last m q.pending h e)
    step (Some c) e = ap (λ r. record q {
      pending = without m q.pending;
      inflight = record (payload.push_chunk (payload.with_chunks q.inflight (change_where (is_of m) as_abandoned q.inflight.chunks)) (terminal_chunk tsn c))
          { room = r };
    }) one

-- ## The terminal chunk

those_are : (m : ℕ) (xs : List ChunkPayloadData) → All (λ c. c.message_id ≡ m) (filter (is_of m) xs)
those_are m [] = λ k d lt. absurd (omega arith)
those_are m (x ∷ xs) = step (x.message_id == m) refl (those_are m xs)
  where
    step : (b : Bool) → (x.message_id == m) ≡ b → All (λ (c : ChunkPayloadData). c.message_id ≡ m) (filter (is_of m) xs)
        → All (λ (c : ChunkPayloadData). c.message_id ≡ m) (if b then x ∷ filter (is_of m) xs else filter (is_of m) xs)
    step true e ih zero d lt = grind (arith, nat_tests)
    step true e ih (suc k) d lt = ih k d (omega arith)
    step false e ih k d lt = ih k d lt

last_is : (P : ChunkPayloadData → Type 0) (xs : List ChunkPayloadData) (c : ChunkPayloadData) → All P xs → last_of xs ≡ Some c → P c
last_is P [] c all e = absurd (none-some c e)
last_is P (x ∷ []) c all e = let same : x ≡ c = cc in subst P same (all 0 x (omega arith))
last_is P (x ∷ y ∷ ys) c all e = last_is P (y ∷ ys) c (λ k d lt. all (suc k) d (omega arith)) e

all_append : (P : ChunkPayloadData → Type 0) (xs ys : List ChunkPayloadData) → All P xs → All P ys → All P (xs ++ ys)
all_append P [] ys a b k d lt = b k d lt
all_append P (x ∷ xs) ys a b zero d lt = a zero d (omega arith)
all_append P (x ∷ xs) ys a b (suc k) d lt = all_append P xs ys (λ j e short. a (suc j) e (omega arith)) b k d (omega arith)

-- what is removed of a message is of it
pub last_is_of : (m : ℕ) (q : Pending) (c : ChunkPayloadData) → last_removed m q ≡ Some c → c.message_id ≡ m
last_is_of m q c e = last_is (λ x. x.message_id ≡ m) _ c
    (all_append (λ x. x.message_id ≡ m) (filter (is_of m) q.ordered) (filter (is_of m) q.unordered) (those_are m q.ordered) (those_are m q.unordered)) e

-- a message that waits has a number below the next
number_below : (m n : ℕ) (q : Pending) (xs : List ChunkPayloadData) → IsSendable q xs n → waits m q ≡ true → m < n
number_below m n q xs s h = elim (cases_lt m n) [
  | inl lt ↦ lt
  | inr le ↦ absurd (false≢true (sym (or_false _ _ (none_past true n m le (stage_of true q.selected) q.unordered s.unordered)
      (none_past false n m le (stage_of false q.selected) q.ordered s.ordered)) ∙ h))
]

pub sendable-abandoned : (q : Pending) (xs : List ChunkPayloadData) (n m : ℕ) (t : ChunkPayloadData) → t.message_id ≡ m → waits m q ≡ true → IsSendable q xs n
    → IsSendable (without m q) (insert_before chunk_before t (change_where (is_of m) as_abandoned xs)) n
sendable-abandoned q xs n m t same h s =
    let keeps : KeepsMessage as_abandoned = record { number = λ _. refl; begins = λ _. refl; ends = λ _. refl; kind = λ _. refl } in
    let gone =
    sendable-without q.ordered q.unordered q.selected q.ordered_room q.unordered_room _ n m (sendable-marked q xs n (is_of m) as_abandoned keeps s) in
    let ys = change_where (is_of m) as_abandoned xs in
    let below = number_below m n q xs s h in
    record {
      ordered = gone.ordered;
      unordered = gone.unordered;
      apart = gone.apart;
      sent = λ k e w.
          other k (m == k) refl (sym (list_any-inserted (is_of k) chunk_before t ys ∙ ap (λ j. j == k || list_any (is_of k) ys) same) ∙ e) w (gone.sent k);
      below = λ k le. let differs : (m == k) ≡ false = grind (arith, nat_tests) in
          list_any-inserted (is_of k) chunk_before t ys ∙ ap (λ j. j == k || list_any (is_of k) ys) same ∙ or_false _ _ differs (gone.below k le);
    }
  where
    other : (k : ℕ) (b : Bool) → (m == k) ≡ b → (m == k || list_any (is_of k) (change_where (is_of m) as_abandoned xs)) ≡ true → waits k (without m q) ≡ true
        → (list_any (is_of k) (change_where (is_of m) as_abandoned xs) ≡ true → waits k (without m q) ≡ true → partially_sent (without m q) ≡ Some k)
        → partially_sent (without m q) ≡ Some k
    other k true e h w f = let it : m ≡ k = grind (arith, nat_tests) in
        absurd (false≢true (sym (subst (λ j. waits j (without m q) ≡ false) it (or_false _ _ (none_without m q.unordered) (none_without m q.ordered))) ∙ w))
    other k false e h w f = f (subst (λ b. (b || list_any (is_of k) (change_where (is_of m) as_abandoned xs)) ≡ true) e h) w
