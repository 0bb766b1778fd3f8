-- The span test of a datagram of one fragment, from the ends of what a stream holds.
use Rattle.sctp_model.proofs.Names.{◌≡◌, ℕ, zero, suc, ◌+◌, ◌-◌, ◌<◌, ◌≤◌, ◌^◌, Bool, true, false, List, [], ◌∷◌, ◌++◌, length, map, get_or, refl, ap, sym, ◌∙◌}
use Rattle.sctp_model.proofs.Names.{arith, if◌then◌else◌, ◌==◌, ◌||◌, min, max, slice_index_or, list_any, list_all, subst, nat_tests, numbers_where, front-kept}
use Rattle.sctp_model.proofs.Names.{both, and, length-kept-positive, same-yes, same-is, or-left, or-right, ChunkPayloadData, ChunkSet, LinkRecord, StreamRecord}
use Rattle.sctp_model.proofs.Names.{message_at, slot_at, message_of, stream_of, is_ordered_on, index_of, fragment_count, has_fragment, tsn_of, place_of}
use Rattle.sctp_model.proofs.Names.{arrived_of, has_arrived, is_held, is_complete_message, held_on, next_of, least, greatest, fits, stream_changed}
use Rattle.sctp_model.proofs.Names.{with_complete, receive_slot, chunk_at, set_of, complete_set_of, has_come, ordered_sets, IsSpan, Valid, ValidUnassembled}
use Rattle.sctp_model.proofs.Names.{kept-place, lowest_held, highest_held, length-mapped, get_or-map}
use Rattle.sctp_model.proofs.sender.SenderSteps.{of-has}
use Rattle.sctp_model.proofs.sender.Made.{place-back}
use Rattle.sctp_model.proofs.refinement.arriving.Arrival
use Rattle.sctp_model.proofs.refinement.arriving.Arrival.{with_arrived}
use Rattle.sctp_model.proofs.refinement.reading.Keeps
use Rattle.sctp_model.proofs.refinement.reading.Line
use Rattle.sctp_model.proofs.refinement.arriving.Carried.{noted, by_step}
use Rattle.sctp_model.proofs.refinement.reading.Taken.{held, is-held, complete-ordered}
use Rattle.sctp_model.proofs.refinement.arriving.UnorderedStep
use Rattle.sctp_model.proofs.receiver.Spans.{greatest-append, least-append}

-- ## Least and greatest of what passes

greatest-under : (f : ℕ → ℕ) (p : ℕ → Bool) (from count x top : ℕ) → x ≤ top → ((k : ℕ) → from ≤ k → k < from + count → p k ≡ true → f k ≤ top)
    → greatest x (map f (numbers_where p from count)) ≤ top
greatest-under f p from zero x top le h = le
greatest-under f p from (suc count) x top le h = grind (arith, nat_tests, greatest-under f p (from + 1) count)

least-over : (f : ℕ → ℕ) (p : ℕ → Bool) (from count x low : ℕ) → low ≤ x → ((k : ℕ) → from ≤ k → k < from + count → p k ≡ true → low ≤ f k)
    → low ≤ least x (map f (numbers_where p from count))
least-over f p from zero x low le h = le
least-over f p from (suc count) x low le h = grind (arith, nat_tests, least-over f p (from + 1) count)

greatest-all : (x top : ℕ) (ys : List ℕ) → x ≤ top → ((y : ℕ) → list_any (λ z. z == y) ys ≡ true → y ≤ top) → greatest x ys ≤ top
greatest-all x top [] le h = le
greatest-all x top (y ∷ ys) le h = greatest-all (max x y) top ys (let z = h y (or-left (y == y) (list_any (λ z. z == y) ys) (same-yes y)) in
    omega (arith, z, le)) (λ z e. h z (or-right (y == z) (list_any (λ k. k == z) ys) e))

pub least-all : (x low : ℕ) (ys : List ℕ) → low ≤ x → ((y : ℕ) → list_any (λ z. z == y) ys ≡ true → low ≤ y) → low ≤ least x ys
least-all x low [] le h = le
least-all x low (y ∷ ys) le h = least-all (min x y) low ys (let z = h y (or-left (y == y) (list_any (λ z. z == y) ys) (same-yes y)) in omega (arith, z, le))
    (λ z e. h z (or-right (y == z) (list_any (λ k. k == z) ys) e))

-- what lies within a span passes the test
pub fits-span : (w : LinkRecord) (s : ℕ) (more : List ℕ) → IsSpan w s more → fits w more s ≡ true
fits-span w s more sp =
    let n = next_of w s in
    let xs = map (index_of w) (held_on w s) in
    let g = greatest-append n xs more in
    let l = least-append n xs more in
    let top = greatest-all (greatest n xs) sp.high more (greatest-under (index_of w) (is_held w s) 0 (length w.messages) n sp.high (sp.next.1)
    (λ k a b e. (sp.held k (omega arith) e).1)) (λ y e. (sp.others y e).1) in
    let low = least-all (least n xs) sp.low more (least-over (index_of w) (is_held w s) 0 (length w.messages) n sp.low (sp.next.0)
    (λ k a b e. (sp.held k (omega arith) e).0)) (λ y e. (sp.others y e).0) in
    let lt : greatest n (xs ++ more) < least n (xs ++ more) + 2 ^ 15 = omega (arith, g, l, top, low, sp.short) in
    grind (arith, nat_tests)

-- ## What a slot leaves of a record but for its message

pub record Only (w v : LinkRecord) (n : ℕ) : Type 0 where
  pub count : length v.messages ≡ length w.messages
  pub next : (t : ℕ) → next_of v t ≡ next_of w t
  pub index : (k : ℕ) → index_of v k ≡ index_of w k
  pub on : (t k : ℕ) → is_ordered_on v t k ≡ is_ordered_on w t k
  pub held : (t k : ℕ) → (k ≡ n → ⊥) → is_held v t k ≡ true → is_held w t k ≡ true

held-back : (v : LinkRecord) (s n t k : ℕ) → is_held (stream_changed v s (with_complete n)) t k ≡ true → is_held v t k ≡ true
held-back v s n t k h =
    let u = stream_changed v s (with_complete n) in
    let x = held u t k h in
    let complete : is_complete_message v k ≡ is_complete_message u k = complete-ordered v t k x.on ∙ sym (complete-ordered u t k x.on) in
    is-held v t k (record {
      on = x.on;
      unread = x.unread;
      some = x.some;
      due = cc (complete, Keeps.named-changed v s (with_complete n) (λ r. refl) (λ r. refl) t, x.due);
    })

pub only-slot : (w : LinkRecord) (p : ℕ) → Only w (receive_slot w p) (message_of w p)
only-slot w p = by_step (λ u. Only w u (message_of w p)) w p
    (record { count = refl; next = λ t. refl; index = λ k. refl; on = λ t k. refl; held = λ t k ne h. h }) (λ e b h. new b)
  where
    back : (t k : ℕ) → (k ≡ message_of w p → ⊥) → is_held (with_arrived w p) t k ≡ true → is_held w t k ≡ true
    back t k ne h = sym (Arrival.is_held-elsewhere w p t k (λ e. ne (sym e))) ∙ h

    new : (b : Bool) → Only w (noted w p b) (message_of w p)
    new false = record { count = refl; next = λ t. refl; index = λ k. refl; on = λ t k. refl; held = back }
    new true =
        let v = with_arrived w p in
        let s = (message_at w (message_of w p)).stream in
        let f = with_complete (message_of w p) in
        record {
          count = refl;
          next = λ t. UnorderedStep.next-streams v (stream_changed v s f).streams (Keeps.named-changed v s f (λ r. refl) (λ r. refl)) t;
          index = λ k. refl;
          on = λ t k. refl;
          held = λ t k ne h. back t k ne (held-back v s (message_of w p) t k h);
        }

-- of each stream that was open, after a slot too
pub all-streams : (w : LinkRecord) (p : ℕ) (t u : ℕ → Bool) → ((x : ℕ) → t x ≡ true → u x ≡ true) → list_all (λ r. t r.stream) w.streams ≡ true
    → list_all (λ r. u r.stream) (receive_slot w p).streams ≡ true
all-streams w p t u more a = by_step (λ v. list_all (λ r. u r.stream) v.streams ≡ true) w p (same w.streams a) (λ e b h. new b)
  where
    same : (rs : List StreamRecord) → list_all (λ r. t r.stream) rs ≡ true → list_all (λ r. u r.stream) rs ≡ true
    same [] e = refl
    same (r ∷ rs) e = let c = both (t r.stream) (list_all (λ r. t r.stream) rs) e in
        and (u r.stream) (list_all (λ r. u r.stream) rs) (more r.stream c.0) (same rs c.1)

    on : ℕ
    on = (message_at w (message_of w p)).stream

    mapped : (rs : List StreamRecord) → list_all (λ r. t r.stream) rs ≡ true
        → list_all (λ r. u r.stream) (map (λ r. if r.stream == on then with_complete (message_of w p) r else r) rs) ≡ true
    mapped [] e = refl
    mapped (r ∷ rs) e = grind (arith, nat_tests, mapped rs)

    new : (b : Bool) → list_all (λ r. u r.stream) (noted w p b).streams ≡ true
    new true = mapped w.streams a
    new false = same w.streams a

-- ## The ends

least-from : (f : ℕ → ℕ) (p : ℕ → Bool) (from count x : ℕ) → ((k : ℕ) → from ≤ k → k < from + count → p k ≡ true → x ≤ f k)
    → least x (map f (numbers_where p from count)) ≡ x
least-from f p from zero x h = refl
least-from f p from (suc count) x h = grind (arith, nat_tests, least-from f p (from + 1) count x)

least-front : (f : ℕ → ℕ) (p : ℕ → Bool) (from count x d : ℕ) → ((j k : ℕ) → p j ≡ true → p k ≡ true → j < k → f j < f k)
    → 0 < length (numbers_where p from count) → least x (map f (numbers_where p from count)) ≡ min x (f (get_or (numbers_where p from count) 0 d))
least-front f p from zero x d rise some = absurd (omega arith)
least-front f p from (suc count) x d rise some = step (p from) refl some (least-front f p (from + 1) count x d rise)
  where
    step : (b : Bool) → p from ≡ b → 0 < length (if b then from ∷ numbers_where p (from + 1) count else numbers_where p (from + 1) count)
        → (0 < length (numbers_where p (from + 1) count)
        → least x (map f (numbers_where p (from + 1) count)) ≡ min x (f (get_or (numbers_where p (from + 1) count) 0 d)))
        → least x (map f (if b then from ∷ numbers_where p (from + 1) count else numbers_where p (from + 1) count))
        ≡ min x (f (get_or (if b then from ∷ numbers_where p (from + 1) count else numbers_where p (from + 1) count) 0 d))
    step true e lt ih = least-from f p (from + 1) count (min x (f from)) (λ k a b h. let z = rise from k e h (omega arith) in omega (arith, z))
    step false e lt ih = ih lt

empty : (xs : List ℕ) → length xs ≡ 0 → xs ≡ []
empty [] e = refl
empty (x ∷ xs) e = absurd (omega arith)

greatest-back : (f : ℕ → ℕ) (p : ℕ → Bool) (from count x j d : ℕ) → ((j k : ℕ) → p j ≡ true → p k ≡ true → j < k → f j < f k)
    → length (numbers_where p from count) ≡ suc j → greatest x (map f (numbers_where p from count)) ≡ max x (f (get_or (numbers_where p from count) j d))
greatest-back f p from zero x j d rise e = absurd (omega arith)
greatest-back f p from (suc count) x j d rise e = step (p from) refl j e (λ y i z. greatest-back f p (from + 1) count y i d rise z)
  where
    step : (b : Bool) → p from ≡ b → (j : ℕ) → length (if b then from ∷ numbers_where p (from + 1) count else numbers_where p (from + 1) count) ≡ suc j
        → ((y i : ℕ) → length (numbers_where p (from + 1) count) ≡ suc i
        → greatest y (map f (numbers_where p (from + 1) count)) ≡ max y (f (get_or (numbers_where p (from + 1) count) i d)))
        → greatest x (map f (if b then from ∷ numbers_where p (from + 1) count else numbers_where p (from + 1) count))
        ≡ max x (f (get_or (if b then from ∷ numbers_where p (from + 1) count else numbers_where p (from + 1) count) j d))
    step true h zero e ih = let none : numbers_where p (from + 1) count ≡ [] = empty (numbers_where p (from + 1) count) (omega arith) in
        ap (λ l. greatest (max x (f from)) (map f l)) none
    step true h (suc i) e ih =
        let lt : i < length (numbers_where p (from + 1) count) = omega arith in
        let r = kept-place p (from + 1) count i d lt in
        let more = rise from (get_or (numbers_where p (from + 1) count) i d) h r.passes (omega (arith, r.is)) in
        ih (max x (f from)) i (omega arith) ∙ omega (arith, more)
    step false h j e ih = ih x j e

-- the messages held ascend in their indexes
pub held-rise : (w : LinkRecord) (s j k : ℕ) → is_held w s j ≡ true → is_held w s k ≡ true → j < k → index_of w j < index_of w k
held-rise w s j k a b lt = Line.index-lt w s j k (held w s j a).on (held w s k b).on lt

-- with nothing held both are the index expected next
pub ends-none : (w : LinkRecord) (s : ℕ) → held_on w s ≡ [] → (lowest_held w s ≡ next_of w s) × (highest_held w s ≡ next_of w s)
ends-none w s e = (ap (λ l. least (next_of w s) (map (index_of w) l)) e, ap (λ l. greatest (next_of w s) (map (index_of w) l)) e)

-- else the least is at the front
pub lowest-front : (w : LinkRecord) (s d : ℕ) → 0 < length (held_on w s) → lowest_held w s ≡ min (next_of w s) (index_of w (slice_index_or (held_on w s) 0 d))
lowest-front w s d some = least-front (index_of w) (is_held w s) 0 (length w.messages) (next_of w s) d (held-rise w s) some

-- and the greatest at the back
pub highest-back : (w : LinkRecord) (s d : ℕ) → 0 < length (held_on w s)
    → highest_held w s ≡ max (next_of w s) (index_of w (slice_index_or (held_on w s) (length (held_on w s) - 1) d))
highest-back w s d some =
    greatest-back (index_of w) (is_held w s) 0 (length w.messages) (next_of w s) (length (held_on w s) - 1) d (held-rise w s) (omega (arith, some))

-- ## Where a set begins

-- the first chunk is of a slot of this message, and its TSN gives the slot's place back
pub record Begins (w : LinkRecord) (n : ℕ) (chunks : List ChunkPayloadData) : Type 0 where
  pub place : ℕ
  pub rest : List ChunkPayloadData
  pub is : chunks ≡ chunk_at w place ∷ rest
  pub of : message_of w place ≡ n
  pub made : place < length w.slots
  pub fragment : (slot_at w place).is_terminal_chunk ≡ false
  pub back : place_of w (tsn_of w place) ≡ place

begins-kept : (w : LinkRecord) (n : ℕ) (q : ℕ → Bool) → w.setup.first < 2 ^ 32 → length w.slots < 2 ^ 31 → ((k : ℕ) → q k ≡ true → has_fragment w n k ≡ true)
    → 0 < length (numbers_where q 0 (length w.slots)) → Begins w n (map (chunk_at w) (numbers_where q 0 (length w.slots)))
begins-kept w n q first few has some = grind (arith, nat_tests, front-kept, of-has, place-back)

-- the set of a message that is held
pub set-begins : (w : LinkRecord) (s n : ℕ) → Valid w → w.setup.first < 2 ^ 32 → is_held w s n ≡ true → Begins w n (set_of w n).chunks
set-begins w s n valid first h = begins-kept w n (has_come w n) first valid.few (λ k e. (Arrival.come w n k e).0) (held w s n h).some

-- a set of the queue of ordered ones is that of a message held
pub record IsSetOf (w : LinkRecord) (s n : ℕ) (set : ChunkSet) : Type 0 where
  pub is : set ≡ set_of w n
  pub held : is_held w s n ≡ true
  pub on : is_ordered_on w s n ≡ true
  pub made : n < length w.messages
  pub begins : Begins w n set.chunks

pub set-at : (w : LinkRecord) (s i d : ℕ) (e : ChunkSet) → Valid w → w.setup.first < 2 ^ 32 → i < length (ordered_sets w s)
    → IsSetOf w s (slice_index_or (held_on w s) i d) (slice_index_or (ordered_sets w s) i e)
set-at w s i d e valid first lt =
    let lt' : i < length (held_on w s) = omega (arith, lt, length-mapped (set_of w) (held_on w s)) in
    let r = kept-place (is_held w s) 0 (length w.messages) i d lt' in
    let n = get_or (held_on w s) i d in
    let same : get_or (ordered_sets w s) i e ≡ set_of w n = get_or-map (set_of w) (held_on w s) i 0 e lt'
    ∙ ap (set_of w) (get-default (held_on w s) i 0 d lt') in
    record {
      is = same;
      held = r.passes;
      on = (held w s n r.passes).on;
      made = omega (arith, r.is, r.low);
      begins = subst (λ (x : ChunkSet). Begins w n x.chunks) (sym same) (set-begins w s n valid first r.passes);
    }
  where
    get-default : (xs : List ℕ) (i a b : ℕ) → i < length xs → get_or xs i a ≡ get_or xs i b
    get-default [] i a b l = absurd (omega arith)
    get-default (x ∷ xs) zero a b l = refl
    get-default (x ∷ xs) (suc i) a b l = get-default xs i a b (omega arith)

pub sets-held : (w : LinkRecord) (s : ℕ) → length (ordered_sets w s) ≡ length (held_on w s)
sets-held w s = length-mapped (set_of w) (held_on w s)

-- a complete unordered message
pub complete-begins : (w : LinkRecord) (s n : ℕ) → Valid w → ValidUnassembled w → w.setup.first < 2 ^ 32
    → list_any (λ k. k == n) (stream_of w s).complete ≡ true → Begins w n (complete_set_of w n).chunks
complete-begins w s n valid more first e =
    let i = more.waits s n e in
    let complete : is_complete_message w n ≡ true =
    ap (λ b. if b then has_arrived w n else ((message_at w n).read || list_any (λ k. k == n) (stream_of w (message_at w n).stream).complete)) i.unordered
    ∙ or-right (message_at w n).read (list_any (λ k. k == n) (stream_of w (message_at w n).stream).complete)
    (ap (λ t. list_any (λ k. k == n) (stream_of w t).complete) i.stream ∙ e) in
    let all = same-is (arrived_of w n) (fragment_count w n) (more.complete_arrived n i.unordered complete) in
    let some : 0 < length (numbers_where (has_come w n) 0 (length w.slots)) = omega (arith, all, valid.some n i.made) in
    let b = begins-kept w n (has_come w n) first valid.few (λ k h. (Arrival.come w n k h).0) some in
    begins-kept w n (has_fragment w n) first valid.few (λ k h. h)
    (length-kept-positive (has_fragment w n) b.place 0 (length w.slots) (omega arith) (omega (arith, b.made)) (ap (λ m. has_fragment w m b.place) (sym b.of)
    ∙ Arrival.has-fragment w b.place b.fragment))
