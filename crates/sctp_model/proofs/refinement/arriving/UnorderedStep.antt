-- An unordered chunk arrives: the complete step.
use Rattle.sctp_model.proofs.Names.{◌≡◌, ℕ, ◌+◌, ◌-◌, ◌<◌, ◌≤◌, Bool, true, false, List, [], ◌∷◌, ◌++◌, length, map, take, drop, Some, refl, ap, sym, ◌∙◌, inl}
use Rattle.sctp_model.proofs.Names.{inr, arith, append_assoc, length-append, ◌⊎◌, if◌then◌else◌, ◌==◌, ◌&&◌, ◌||◌, not, nat_le, list_any, nat_tests, map-append}
use Rattle.sctp_model.proofs.Names.{numbers_where, insert_before, ChunkPayloadData, ChunkSet, IsEarliestRun, HasNoRun, chunk_before, chunk_at, complete_set_of}
use Rattle.sctp_model.proofs.Names.{is_unassembled, ordered_sets, complete_sets, unassembled_chunks, kept-same, kept-none, map-kept-same, LinkRecord}
use Rattle.sctp_model.proofs.Names.{StreamRecord, message_at, message_of, stream_at, stream_of, is_ordered_on, fragment_count, has_fragment, is_unordered_on}
use Rattle.sctp_model.proofs.Names.{arrived_at, is_complete_message, next_of, is_new, has_arrived, stream_changed, with_complete, becomes_complete}
use Rattle.sctp_model.proofs.Names.{receive_slot, Valid, ValidUnassembled, fails, not_both, or-none, length-mapped}
use Rattle.sctp_model.proofs.refinement.reading.Line.{on-ordered}
use Rattle.sctp_model.proofs.refinement.arriving.Arrival
use Rattle.sctp_model.proofs.refinement.arriving.Arrival.{with_arrived, kept-window}
use Rattle.sctp_model.proofs.refinement.arriving.Stays
use Rattle.sctp_model.proofs.refinement.skipping.Skips.{next_past}
use Rattle.sctp_model.proofs.refinement.skipping.SkipStep.{then_by, find-map, find-passes}
use Rattle.sctp_model.proofs.refinement.arriving.Unassembled.{length-kept-all}
use Rattle.sctp_model.proofs.refinement.arriving.Unordered
use Rattle.sctp_model.proofs.refinement.arriving.Unordered.{ArrivesUnassembled, unordered-of}
use Rattle.sctp_util.proofs.Alls
use Rattle.sctp_util.proofs.Edits.{list_any-append}
use Rattle.std.proofs.Math.Seq.{take-append_seam, drop-append_seam}

-- ## Lists

pub kept-split : (p : ℕ → Bool) (from a b all middle : ℕ) → all ≡ a + b → middle ≡ from + a
    → numbers_where p from all ≡ numbers_where p from a ++ numbers_where p middle b
kept-split p from a b all middle e m = rw (e, m) (Alls.kept-split p from a b)

pub any-last : (n m : ℕ) (xs : List ℕ) → list_any (λ k. k == m) (xs ++ n ∷ []) ≡ (list_any (λ k. k == m) xs || (n == m))
any-last n m xs = list_any-append (λ k. k == m) xs (n ∷ []) ∙ ap (λ b. list_any (λ k. k == m) xs || b) (or-none (n == m))

-- ## Other streams' records, the same named

abbrev pub with_streams : LinkRecord → List StreamRecord → LinkRecord
with_streams v rs = record v { streams = rs }

module _ (v : LinkRecord) (rs : List StreamRecord) (named-same : (t : ℕ) → (stream_of (with_streams v rs) t).named ≡ (stream_of v t).named) where
  pub next-streams : (t : ℕ) → next_of (with_streams v rs) t ≡ next_of v t
  next-streams t = ap (λ k. next_past v t k) (named-same t)

  pub sets-streams : (t : ℕ) → ordered_sets (with_streams v rs) t ≡ ordered_sets v t
  sets-streams t = grind (arith, nat_tests, map-kept-same, on-ordered)

-- ## One more complete message

abbrev noted : ℕ → ℕ → StreamRecord → StreamRecord
noted s n r = if r.stream == s then with_complete n r else r

noted-stream : (s n : ℕ) (r : StreamRecord) → (noted s n r).stream ≡ r.stream
noted-stream s n r = grind (arith, nat_tests)

noted-named : (s n : ℕ) (r : StreamRecord) → (noted s n r).named ≡ r.named
noted-named s n r = grind (arith, nat_tests)

found-noted : (v : LinkRecord) (s n t : ℕ) → stream_at (stream_changed v s (with_complete n)) t ≡ then_by (noted s n) (stream_at v t)
found-noted v s n t = find-map (noted s n) (noted-stream s n) t v.streams

named-noted : (v : LinkRecord) (s n t : ℕ) → (stream_of (stream_changed v s (with_complete n)) t).named ≡ (stream_of v t).named
named-noted v s n t = grind (arith, nat_tests, found-noted, noted-named)

pub complete-noted : (v : LinkRecord) (s n : ℕ) (r : StreamRecord) → stream_at v s ≡ Some r
    → (stream_of (stream_changed v s (with_complete n)) s).complete ≡ (stream_of v s).complete ++ n ∷ []
complete-noted v s n r e = grind (arith, nat_tests, find-passes, found-noted)

-- message m is complete now: as before, or it is this one
pub is_complete_message-noted : (v : LinkRecord) (s n m : ℕ) (r : StreamRecord) → stream_at v s ≡ Some r → is_unordered_on v s m ≡ true
    → is_complete_message (stream_changed v s (with_complete n)) m ≡ (is_complete_message v m || (n == m))
is_complete_message-noted v s n m r e on =
    let u = unordered-of v s m on in
    let id : (message_at v m).stream ≡ s = u.0 in
    ap (λ b. if b then has_arrived v m
    else ((message_at v m).read || list_any (λ k. k == m) (stream_of (stream_changed v s (with_complete n)) (message_at v m).stream).complete)) u.1
    ∙ ap (λ t. (message_at v m).read || list_any (λ k. k == m) (stream_of (stream_changed v s (with_complete n)) t).complete) id
    ∙ ap (λ l. (message_at v m).read || list_any (λ k. k == m) l) (complete-noted v s n r e) ∙ ap (λ b. (message_at v m).read || b)
    (any-last n m (stream_of v s).complete) ∙ assoc (message_at v m).read (list_any (λ k. k == m) (stream_of v s).complete) (n == m)
    ∙ ap (λ t. ((message_at v m).read || list_any (λ k. k == m) (stream_of v t).complete) || (n == m)) (sym id) ∙ ap (λ b. (if b then has_arrived v m
    else ((message_at v m).read || list_any (λ k. k == m) (stream_of v (message_at v m).stream).complete)) || (n == m)) (sym u.1)
  where
    assoc : (a b c : Bool) → (a || (b || c)) ≡ ((a || b) || c)
    assoc true b c = refl
    assoc false b c = refl

-- what the queue does where a run is found
pub record TakesRun (w : LinkRecord) (s n : ℕ) (xs left : List ChunkPayloadData) (before' after' : List ChunkSet) : Type 0 where
  pub first : ℕ
  pub count : ℕ
  pub run : IsEarliestRun xs first count
  pub rest : left ≡ take first xs ++ drop (first + count) xs
  pub taken : (complete_set_of w n).chunks ≡ take count (drop first xs)
  pub moved : after' ≡ before' ++ complete_set_of w n ∷ []

module _ (w : LinkRecord) (s p : ℕ) (r : StreamRecord) (valid : Valid w) (more : ValidUnassembled w) (a : ArrivesUnassembled w s p)
    (open' : stream_at w s ≡ Some r) (complete : becomes_complete (with_arrived w p) (message_of w p) ≡ true) where
  abbrev n : ℕ
  n = message_of w p

  abbrev v : LinkRecord
  v = with_arrived w p

  abbrev u : LinkRecord
  u = stream_changed (with_arrived w p) s (with_complete (message_of w p))

  abbrev q : ℕ → Bool
  q = is_unassembled (with_arrived w p) s

  abbrev base : ℕ
  base = (valid.laid (message_of w p)).0

  abbrev count : ℕ
  count = fragment_count w (message_of w p)

  abbrev first : ℕ
  first = length (numbers_where (is_unassembled (with_arrived w p) s) 0 (valid.laid (message_of w p)).0)

  mine : (k : ℕ) → base ≤ k → k < base + count → (q k ≡ true) × (has_fragment w n k ≡ true)
  mine = Unordered.mine w s p valid more a complete

  top : base + count ≤ length w.slots
  top = Unordered.top w s p valid more a complete

  abbrev others : ℕ
  others = length w.slots - (base + count)

  pub step : receive_slot w p ≡ u
  step = grind (arith, nat_tests, unordered-of)

  -- a place is unassembled then, if it was and is not of the message
  unassembled-then : (k : ℕ) → is_unassembled u s k ≡ (q k && not (n == message_of w k))
  unassembled-then k = cc (Arrival.message_of-arrived w p k, by_kind (is_unordered_on w s (message_of w k)) refl, Arrival.message_of-arrived w p k)
    where
      logic : (x y c d : Bool) → (x && (y && (true && not (c || d)))) ≡ ((x && (y && (true && not c))) && not d)
      logic b y c d = grind (arith, nat_tests)

      by_kind : (b : Bool) → is_unordered_on w s (message_of w k) ≡ b
          → (arrived_at v k && (nat_le w.skipped k && (is_unordered_on w s (message_of w k) && not (is_complete_message u (message_of w k)))))
          ≡ ((arrived_at v k && (nat_le w.skipped k && (is_unordered_on w s (message_of w k) && not (is_complete_message v (message_of w k)))))
          && not (n == message_of w k))
      by_kind true on = cc (
        is_complete_message-noted v s n (message_of w k) r open' on,
        on,
        logic (arrived_at v k) (nat_le w.skipped k) (is_complete_message v (message_of w k)) (n == message_of w k),
        on,
      )
      by_kind false off = grind (arith, nat_tests)

  apart : (k : ℕ) → q k ≡ true → (k < base) ⊎ (base + count ≤ k) → (n == message_of w k) ≡ false
  apart k e side = grind (arith, nat_tests, Unordered.fragments)

  outside-same : (k : ℕ) → (k < base) ⊎ (base + count ≤ k) → is_unassembled u s k ≡ q k
  outside-same k side = unassembled-then k ∙ by (q k) refl
    where
      by : (b : Bool) → q k ≡ b → (b && not (n == message_of w k)) ≡ b
      by true e = ap not (apart k e side)
      by false e = refl

  inside-gone : (k : ℕ) → base ≤ k → k < base + count → is_unassembled u s k ≡ false
  inside-gone k low high = grind (arith, nat_tests, Arrival.of_message, mine, unassembled-then)

  split : (p : ℕ → Bool) → numbers_where p 0 (length w.slots) ≡ numbers_where p 0 base ++ (numbers_where p base count ++ numbers_where p (base + count) others)
  split p =
      kept-split p 0 base (length w.slots - base) (length w.slots) base (omega (arith, top)) (omega arith)
      ∙ ap (λ l. numbers_where p 0 base ++ l) (kept-split p base count others (length w.slots - base) (base + count) (omega (arith, top)) refl)

  left-over : numbers_where (is_unassembled u s) 0 (length w.slots) ≡ numbers_where q 0 base ++ numbers_where q (base + count) others
  left-over = cc (
    split (is_unassembled u s),
    kept-same (is_unassembled u s) q 0 base (λ k x y. outside-same k (inl (omega arith))),
    kept-none (is_unassembled u s) base count (λ k x y. inside-gone k x y),
    kept-same (is_unassembled u s) q (base + count) others (λ k x y. outside-same k (inr x)),
  )

  abbrev A : List ChunkPayloadData
  A = map (chunk_at w) (numbers_where (is_unassembled (with_arrived w p) s) 0 (valid.laid (message_of w p)).0)

  abbrev M : List ChunkPayloadData
  M = map (chunk_at w) (numbers_where (is_unassembled (with_arrived w p) s) (valid.laid (message_of w p)).0 (fragment_count w (message_of w p)))

  abbrev C : List ChunkPayloadData
  C = map (chunk_at w) (numbers_where (is_unassembled (with_arrived w p) s) ((valid.laid (message_of w p)).0 + fragment_count w (message_of w p))
      (length w.slots - ((valid.laid (message_of w p)).0 + fragment_count w (message_of w p))))

  abbrev xs : List ChunkPayloadData
  xs = map (chunk_at w) (numbers_where (is_unassembled (with_arrived w p) s) 0 (length w.slots))

  xs-is : xs ≡ A ++ (M ++ C)
  xs-is = grind (arith, nat_tests, split, map-append)

  first-is : first ≡ length A
  first-is = sym (length-mapped (chunk_at w) (numbers_where q 0 base))

  count-is : count ≡ length M
  count-is = sym (length-mapped (chunk_at w) (numbers_where q base count) ∙ length-kept-all q base count (λ k x y. (mine k x y).0))

  both-is : first + count ≡ length (A ++ M)
  both-is = omega (arith, first-is, count-is, length-append A M)

  rest-is : unassembled_chunks u s ≡ take first xs ++ drop (first + count) xs
  rest-is =
      ap (λ c. map (chunk_at v) (numbers_where (is_unassembled u s) 0 c)) (Arrival.count-arrived w p)
      ∙ map-kept-same (chunk_at v) (chunk_at w) (is_unassembled u s) (is_unassembled u s) 0 (length w.slots) (λ k x y. refl)
      (λ k x y e. Arrival.chunk_at-arrived w p k) ∙ ap (map (chunk_at w)) left-over ∙ map-append (chunk_at w) (numbers_where q 0 base)
      (numbers_where q (base + count) others) ∙ sym (ap (λ l. l ++ drop (first + count) xs) (ap (take first) xs-is ∙ ap (λ k. take k (A ++ (M ++ C))) first-is
      ∙ take-append_seam A (M ++ C))
      ∙ ap (λ l. A ++ l) (ap (drop (first + count)) (xs-is ∙ sym (append_assoc A M C)) ∙ ap (λ k. drop k ((A ++ M) ++ C)) both-is
      ∙ drop-append_seam (A ++ M) C))

  taken-is : (complete_set_of w n).chunks ≡ take count (drop first xs)
  taken-is =
      ap (map (chunk_at w)) (kept-window (has_fragment w n) (length w.slots) base count (λ k h. let at = (valid.laid (message_of w p)).1.at k h in
      let in' = (valid.laid (message_of w p)).1.within k h in (omega (arith, at), omega (arith, at, in'), omega (arith, at, in', top)))
      ∙ kept-same (has_fragment w n) q base count (λ k x y. let m = mine k x y in m.1 ∙ sym m.0))
      ∙ sym (ap (take count) (ap (drop first) xs-is ∙ ap (λ k. drop k (A ++ (M ++ C))) first-is ∙ drop-append_seam A (M ++ C))
      ∙ ap (λ k. take k (M ++ C)) count-is ∙ take-append_seam M C)

  pub unordered-arrived : TakesRun w s n xs (unassembled_chunks u s) (complete_sets w s) (complete_sets u s)
  unordered-arrived = record {
    first = first;
    count = count;
    run = Unordered.own-earliest w s p valid more a complete;
    rest = rest-is;
    taken = taken-is;
    moved =
        ap (map (complete_set_of u)) (complete-noted v s n r open')
        ∙ Stays.map-all (complete_set_of u) (complete_set_of w) ((stream_of w s).complete ++ n ∷ []) (λ m. Stays.complete_set_of-arrived w p m)
        ∙ map-append (complete_set_of w) (stream_of w s).complete (n ∷ []);
  }

  off : (t : ℕ) → is_ordered_on w t n ≡ false
  off t = fails (is_ordered_on w t n) (λ e. not_both (sym (unordered-of w s n a.on).1 ∙ on-ordered w t n e))

  -- the ordered half is as it was, on each stream
  pub ordered-same : (t : ℕ) → (next_of u t ≡ next_of w t) × (ordered_sets u t ≡ ordered_sets w t)
  ordered-same t = (
    next-streams v (map (noted s n) v.streams) (named-noted v s n) t,
    sets-streams v (map (noted s n) v.streams) (named-noted v s n) t ∙ Stays.ordered_sets-elsewhere w p t (off t),
  )

-- where it does not become complete, the queue only keeps the chunk
module _ (w : LinkRecord) (s p : ℕ) (valid : Valid w) (more : ValidUnassembled w) (a : ArrivesUnassembled w s p)
    (complete : becomes_complete (with_arrived w p) (message_of w p) ≡ false) where
  pub unordered-kept : (receive_slot w p ≡ with_arrived w p)
      × (unassembled_chunks (with_arrived w p) s ≡ insert_before chunk_before (chunk_at w p) (unassembled_chunks w s))
      × HasNoRun (insert_before chunk_before (chunk_at w p) (unassembled_chunks w s))
  unordered-kept =
      let new : is_new w p ≡ true = rw a.new (grind (arith, nat_tests, a.fresh)) in
      let put = Unordered.unassembled-put w s p valid more a in
      (rw (new, complete) refl, Unordered.unassembled-is w s p valid more a ∙ put, rw put at (Unordered.no-run w s p valid more a complete))
