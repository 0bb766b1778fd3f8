-- An ordered chunk arrives: the queue's push and the record's step agree.
use Rattle.sctp_model.proofs.Names.{◌≡◌, ℕ, ◌+◌, ◌<◌, ◌≤◌, true, false, List, [], ◌∷◌, length, map, refl, ap, sym, ◌∙◌, inl, inr, arith, ◌⊎◌, ◌==◌, ◌&&◌, ◌||◌}
use Rattle.sctp_model.proofs.Names.{nat_lt, nat_le, list_any, cases_lt, lt-ltb, le-ltb, nat_tests, common_steps, numbers_where, insert_before, has_ssn}
use Rattle.sctp_model.proofs.Names.{chunk_before, has_tsn, held_after_ordered_push, chunk_at, has_come, chunks_come, ordered_sets, set_of, kept-same}
use Rattle.sctp_model.proofs.Names.{map-kept-same, map-kept-inserted, length-kept-le, tsn_differ, tsn_same, LinkRecord, message_at, slot_at, message_of}
use Rattle.sctp_model.proofs.Names.{stream_of, is_ordered_on, index_of, ssn_of, fragment_count, has_fragment, is_unordered_on, arrived_at, arrived_of}
use Rattle.sctp_model.proofs.Names.{has_arrived, cumulative, is_complete_message, is_unread, is_held, next_of, receive_slot, IsLaid, IsSpan, Valid, fails}
use Rattle.sctp_model.proofs.Names.{not_both, both, same16-index, and-none, ChunkSet}
use Rattle.sctp_reassembly.specs.reassembly_queue.Fragments.{set_before, with_chunk, new_set, sets_with}
use Rattle.sctp_model.specs.refinement.Holds.{reassembly_of}
use Rattle.sctp_util.specs.Serial.{comes_before16}
use Rattle.sctp_util.specs.Lists.{change_first}
use Rattle.sctp_util.proofs.More.{any-kept_one, change_first-kept}
use Rattle.sctp_util.proofs.Wraps.{comes_before16-index}
use Rattle.sctp_model.proofs.refinement.reading.Line.{index-lt, index-same, ssn_on, on-made, on-ordered, on-stream, next_reads}
use Rattle.sctp_model.proofs.refinement.arriving.Stays
use Rattle.sctp_model.proofs.refinement.arriving.Arrival
use Rattle.sctp_model.proofs.refinement.arriving.Arrival.{with_arrived}

-- what an accepted Arrive of a new slot of an ordered message knows
pub record Arrives (w : LinkRecord) (s p : ℕ) : Type 0 where
  pub made : p < length w.slots
  pub new : arrived_at w p ≡ false
  pub fresh : cumulative w ≤ p
  pub fragment : (slot_at w p).is_terminal_chunk ≡ false
  pub on : is_ordered_on w s (message_of w p) ≡ true
  pub near : IsSpan w s (index_of w (message_of w p) ∷ [])

module _ (w : LinkRecord) (s p : ℕ) (valid : Valid w) (a : Arrives w s p) where
  abbrev n : ℕ
  n = message_of w p

  here : has_fragment w n p ≡ true
  here = Arrival.has-fragment w p a.fragment

  out : has_come w n p ≡ false
  out = rw a.new (grind (arith, common_steps))

  n-made : n < length w.messages
  n-made = on-made w s n a.on

  -- not all of it had arrived
  one_short : arrived_of w n + 1 ≤ fragment_count w n
  one_short =
      let laid = valid.laid n in
      let laid' : IsLaid (with_arrived w p) n laid.0 = record {
        at = λ k e. laid.1.at k (sym (Arrival.has_fragment-arrived w p n k) ∙ e) ∙ ap (λ i. laid.0 + i) (sym (Arrival.fragment-arrived w p k));
        within = λ k e. rw (Arrival.fragment-arrived w p k) (laid.1.within k (sym (Arrival.has_fragment-arrived w p n k) ∙ e));
      } in
      let count : arrived_of (with_arrived w p) n ≤ fragment_count w n = rw (Arrival.window (with_arrived w p) n laid.0 laid')
      (length-kept-le (has_come (with_arrived w p) n) laid.0 (fragment_count w n)) in
      omega (arith, Arrival.arrived_of-here w p a.made a.new a.fragment, count)

  not_complete : has_arrived w n ≡ false
  not_complete = fails (has_arrived w n) (λ e. let h : arrived_of w n ≡ fragment_count w n = grind (arith, nat_tests) in absurd (omega (arith, one_short)))

  unread : (message_at w n).read ≡ false
  unread = fails (message_at w n).read (λ e. not_both (sym not_complete ∙ valid.read_complete s n a.on e))

  past : (stream_of w s).named ≤ index_of w n
  past = grind (arith, nat_tests, here)

  not_before : next_of w s ≤ index_of w n
  not_before = grind (arith, nat_tests, unread, next_reads, past)

  -- it is held exactly where some of it had arrived
  held-is : (v : LinkRecord) → is_ordered_on v s n ≡ true → (message_at v n).read ≡ false → (stream_of v s).named ≤ index_of v n
      → is_held v s n ≡ nat_lt 0 (arrived_of v n)
  held-is v on unr le = grind (arith, nat_tests)

  held-after : is_held (with_arrived w p) s n ≡ true
  held-after = grind (arith, nat_tests, held-is, unread, past, Arrival.arrived_of-here)

  -- ## Indexes near one another

  sp : IsSpan w s (index_of w n ∷ [])
  sp = a.near

  mine : (sp.low ≤ index_of w n) × (index_of w n ≤ sp.high)
  mine = sp.others (index_of w n) (let e : (index_of w n == index_of w n) ≡ true = grind (arith, nat_tests) in rw e refl)

  held-on : (k : ℕ) → is_held w s k ≡ true → is_ordered_on w s k ≡ true
  held-on k e = (both (is_ordered_on w s k)
      (is_unread w k && (nat_lt 0 (arrived_of w k) && (is_complete_message w k || nat_le (stream_of w s).named (index_of w k)))) e).0

  ssn-other : (k : ℕ) → k < length w.messages → is_held w s k ≡ true → (k ≡ n → ⊥) → (ssn_of w k == ssn_of w n) ≡ false
  ssn-other k lt e ne = grind (arith, nat_tests, held-on, ssn_on, same16-index, mine, index-same)

  ssn-before : (k : ℕ) → k < length w.messages → is_held w s k ≡ true → (k ≡ n → ⊥) → comes_before16 (ssn_of w n) (ssn_of w k) ≡ nat_lt n k
  ssn-before k lt e ne =
      let on = held-on k e in
      let h = sp.held k lt e in
      rw (
        ssn_on w s k on,
        ssn_on w s n a.on,
        comes_before16-index (index_of w n) (index_of w k) (omega (arith, h, mine, sp.short)) (omega (arith, h, mine, sp.short)),
      )
      (order on (cases_lt n k))
    where
      order : is_ordered_on w s k ≡ true → (n < k) ⊎ (k ≤ n) → nat_lt (index_of w n) (index_of w k) ≡ nat_lt n k
      order on (inl l) = lt-ltb (index_of w n) (index_of w k) (index-lt w s n k a.on on l) ∙ sym (lt-ltb n k l)
      order on (inr g) = le-ltb (index_of w n) (index_of w k) (omega (arith, index-lt w s k n on a.on (omega arith))) ∙ sym (le-ltb n k g)

  -- ## The sets

  ssn-same : (ssn_of w n == ssn_of w n) ≡ true
  ssn-same = grind (arith, nat_tests)

  known : list_any (has_ssn (ssn_of w n)) (ordered_sets w s) ≡ is_held w s n
  known = any-kept_one (has_ssn (ssn_of w n)) (set_of w) (is_held w s) n 0 (length w.messages) (omega arith) (omega (arith, n-made))
      (λ k x y ne e. ssn-other k (omega arith) e ne) (λ e. ssn-same)

  -- its number is not in the set
  unknown : list_any (has_tsn (chunk_at w p).tsn) (chunks_come w n) ≡ false
  unknown = any-kept_one (has_tsn (chunk_at w p).tsn) (chunk_at w) (has_come w n) p 0 (length w.slots) (omega arith) (omega (arith, a.made))
      (λ k x y ne e. differ k (omega arith) ne (cases_lt k p)) (λ e. tsn_same w.setup.first p) ∙ out
    where
      differ : (k : ℕ) → k < length w.slots → (k ≡ p → ⊥) → (k < p) ⊎ (p ≤ k) → ((chunk_at w k).tsn == (chunk_at w p).tsn) ≡ false
      differ k lt ne b = grind (arith, nat_tests, tsn_differ)

  set-grown : set_of (with_arrived w p) n ≡ with_chunk (chunk_at w p) (set_of w n)
  set-grown = grind (arith, nat_tests, unknown, Arrival.chunks_come-here)

  set-new : arrived_of w n ≡ 0 → set_of (with_arrived w p) n ≡ new_set (chunk_at w p)
  set-new none =
      let empty : numbers_where (has_come w n) 0 (length w.slots) ≡ [] = nothing (numbers_where (has_come w n) 0 (length w.slots)) none in
      let chunks : chunks_come (with_arrived w p) n ≡ chunk_at w p ∷ [] = Arrival.chunks_come-here w p valid.few a.made a.new a.fragment
      ∙ ap (λ l. insert_before chunk_before (chunk_at w p) (map (chunk_at w) l)) empty in
      ap (λ c. let x : ChunkSet = record { ssn = (set_of w n).ssn; ppi = (set_of w n).ppi; chunks = c } in x) chunks
    where
      nothing : (l : List ℕ) → length l ≡ 0 → l ≡ []
      nothing [] e = refl
      nothing (x ∷ xs) e = absurd (omega arith)

  sets-same : (k : ℕ) → (k ≡ n → ⊥) → is_held (with_arrived w p) s k ≡ is_held w s k
  sets-same k ne = Arrival.is_held-elsewhere w p s k (λ e. ne (sym e))

  set-same : (k : ℕ) → (k ≡ n → ⊥) → set_of (with_arrived w p) k ≡ set_of w k
  set-same k ne = Arrival.set_of-elsewhere w p k (λ e. ne (sym e))

  -- in a set that is there
  joined : is_held w s n ≡ true → ordered_sets (with_arrived w p) s ≡ change_first (has_ssn (ssn_of w n)) (with_chunk (chunk_at w p)) (ordered_sets w s)
  joined h =
      ap (map (set_of (with_arrived w p)))
      (kept-same (is_held (with_arrived w p) s) (is_held w s) 0 (length w.messages) (λ k x y. same k (cases_lt k n) (cases_lt n k)))
      ∙ change_first-kept (has_ssn (ssn_of w n)) (with_chunk (chunk_at w p)) (set_of w) (set_of (with_arrived w p)) (is_held w s) n 0 (length w.messages) h
      (λ k x y ne e. (ssn-other k (omega arith) e ne, set-same k ne)) ssn-same set-grown (omega arith) (omega (arith, n-made))
    where
      same : (k : ℕ) → (k < n) ⊎ (n ≤ k) → (n < k) ⊎ (k ≤ n) → is_held (with_arrived w p) s k ≡ is_held w s k
      same k (inl l) t = sets-same k (λ e. omega arith)
      same k (inr g) (inl l) = sets-same k (λ e. omega arith)
      same k (inr g) (inr l) = let e : k ≡ n = omega arith in ap (is_held (with_arrived w p) s) e ∙ held-after ∙ sym h ∙ ap (is_held w s) (sym e)

  -- in a new one
  put : is_held w s n ≡ false → ordered_sets (with_arrived w p) s ≡ insert_before set_before (new_set (chunk_at w p)) (ordered_sets w s)
  put h =
      let none : arrived_of w n ≡ 0 = (let e = held-is w a.on unread past in grind (arith, nat_tests)) in
      let first = set-new none in
      map-kept-inserted (set_of (with_arrived w p)) set_before (is_held w s) (is_held (with_arrived w p) s) n 0 (length w.messages) h held-after (omega arith)
      (omega (arith, n-made))
      (λ k x y ne. sym (sets-same k ne))
      (λ k x y ne e. ssn-before k (omega arith) e ne)
      ∙ ap (λ l. insert_before set_before (set_of (with_arrived w p) n) l) (map-kept-same (set_of (with_arrived w p)) (set_of w) (is_held w s) (is_held w s) 0
      (length w.messages) (λ k x y. refl) (λ k x y e. set-same k (λ z. not_both (sym h ∙ ap (is_held w s) (sym z) ∙ e))))
      ∙ ap (λ x. insert_before set_before x (ordered_sets w s)) first

  pub sets-arrived : ordered_sets (with_arrived w p) s ≡ sets_with (chunk_at w p) (ordered_sets w s)
  sets-arrived = grind (arith, nat_tests, known, joined, put)

  -- ## The complete queue

  ordered-not : is_unordered_on w s n ≡ false
  ordered-not = rw (on-ordered w s n a.on) (and-none ((message_at w n).stream == s))

  pub ordered-arrived : reassembly_of (with_arrived w p) s ≡ held_after_ordered_push (chunk_at w p) (reassembly_of w s)
  ordered-arrived = grind
      (arith, nat_tests, ssn_on, comes_before16-index, mine, not_before, Stays.complete_sets-arrived, Stays.unassembled-elsewhere, ordered-not, sets-arrived)

  other-stream : (t : ℕ) → (t ≡ s → ⊥) → ((message_at w n).stream == t) ≡ false
  other-stream t ne =
      fails ((message_at w n).stream == t) (λ e. let h : (message_at w n).stream ≡ t = grind (arith, nat_tests) in ne (sym h ∙ on-stream w s n a.on))

  -- the queues of the other streams are as they were
  pub ordered-elsewhere : (t : ℕ) → (t ≡ s → ⊥) → reassembly_of (with_arrived w p) t ≡ reassembly_of w t
  ordered-elsewhere t ne = grind (arith, nat_tests, other-stream, Stays.complete_sets-arrived, Stays.unassembled-elsewhere, Stays.ordered_sets-elsewhere)

  -- and this is the record's step
  pub ordered-step : receive_slot w p ≡ with_arrived w p
  ordered-step = grind (arith, nat_tests, on-ordered)
