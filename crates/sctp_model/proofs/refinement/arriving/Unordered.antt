-- An unordered chunk arrives: a complete run is there exactly where its message becomes complete.
use Rattle.sctp_model.proofs.Names.{◌≡◌, ℕ, zero, suc, ◌+◌, ◌-◌, ◌<◌, ◌≤◌, ◌%◌, ◌^◌, Bool, true, false, List, [], ◌∷◌, length, map, get_or, refl, ap, sym, ◌∙◌}
use Rattle.sctp_model.proofs.Names.{inl, inr, arith, length-append, ◌⊎◌, ◌==◌, ◌&&◌, not, nat_le, list_all, cases_lt, nat_tests, numbers_where, insert_before}
use Rattle.sctp_model.proofs.Names.{ChunkPayloadData, IsEarliestRun, HasNoRun, chunk_before, chunk_at, has_come, unassembled_chunks, is_unassembled}
use Rattle.sctp_model.proofs.Names.{map-kept-same, map-kept-inserted, kept-snoc_in, length-kept-le, length-kept-mono, LinkRecord, message_at, slot_at}
use Rattle.sctp_model.proofs.Names.{message_of, fragment_count, has_fragment, slots_of, is_unordered_on, arrived_at, arrived_of, has_arrived, cumulative}
use Rattle.sctp_model.proofs.Names.{is_complete_message, becomes_complete, IsLaid, Valid, ValidUnassembled, fails, not_both, both, and, kept-get, length-mapped}
use Rattle.sctp_model.proofs.Names.{get_or-map, all-kept, all-at}
use Rattle.sctp_serial.specs.Runs.{IsRun}
use Rattle.sctp_model.specs.Valid.{IsWaiting}
use Rattle.sctp_model.proofs.refinement.arriving.Arrival
use Rattle.sctp_model.proofs.refinement.arriving.Arrival.{with_arrived}
use Rattle.sctp_model.proofs.refinement.arriving.Stays
use Rattle.sctp_model.proofs.refinement.arriving.Stays.{by_place}
use Rattle.sctp_model.proofs.refinement.arriving.Unassembled.{length-kept-all, kept-full, unassembled, is-unassembled}
use Rattle.sctp_model.proofs.refinement.arriving.Unassembled.{IsCompleteRun, run-is}

-- what an accepted Arrive of a new slot of an unordered message knows
pub record ArrivesUnassembled (w : LinkRecord) (s p : ℕ) : Type 0 where
  pub made : p < length w.slots
  pub new : arrived_at w p ≡ false
  pub fresh : cumulative w ≤ p
  pub fragment : (slot_at w p).is_terminal_chunk ≡ false
  pub on : is_unordered_on w s (message_of w p) ≡ true

pub unordered-of : (w : LinkRecord) (s n : ℕ) → is_unordered_on w s n ≡ true → ((message_at w n).stream ≡ s) × ((message_at w n).ordered ≡ false)
unordered-of w s n e = grind (arith, nat_tests)

-- one that waits to be read is an unordered message of its stream
pub waits-on : (w : LinkRecord) (s n : ℕ) → IsWaiting w s n → is_unordered_on w s n ≡ true
waits-on w s n i = grind (arith, nat_tests)

pub laid-arrived : (w : LinkRecord) (p n base : ℕ) → IsLaid w n base → IsLaid (with_arrived w p) n base
laid-arrived w p n base laid = grind (arith, nat_tests, Arrival.has_fragment-arrived, Arrival.fragment-arrived)

-- whether a message becomes complete, by the count of its arrived fragments and by its slots
pub becomes-elsewhere : (w : LinkRecord) (p m : ℕ) → (message_of w p ≡ m → ⊥) → becomes_complete (with_arrived w p) m ≡ becomes_complete w m
becomes-elsewhere w p m ne = rw (Arrival.arrived_of-elsewhere w p m ne, Stays.slots_of-arrived w p m) refl

module _ (w : LinkRecord) (s p : ℕ) (valid : Valid w) (more : ValidUnassembled w) (a : ArrivesUnassembled w s p) where
  abbrev n : ℕ
  n = message_of w p

  abbrev v : LinkRecord
  v = with_arrived w p

  abbrev q : ℕ → Bool
  q = is_unassembled (with_arrived w p) s

  abbrev base : ℕ
  base = (valid.laid (message_of w p)).0

  abbrev count : ℕ
  count = fragment_count w (message_of w p)

  abbrev xs : List ChunkPayloadData
  xs = map (chunk_at w) (numbers_where (is_unassembled (with_arrived w p) s) 0 (length w.slots))

  laid : IsLaid w n base
  laid = (valid.laid (message_of w p)).1

  here : has_fragment w n p ≡ true
  here = Arrival.has-fragment w p a.fragment

  one_short : arrived_of w n + 1 ≤ count
  one_short =
      let most : arrived_of v n ≤ count = rw (Arrival.window v n base (laid-arrived w p n base laid)) (length-kept-le (has_come v n) base count) in
      omega (arith, Arrival.arrived_of-here w p a.made a.new a.fragment, most)

  not_complete : is_complete_message w n ≡ false
  not_complete = fails (is_complete_message w n) (λ e. let h : has_arrived w n ≡ true = more.complete_arrived n (unordered-of w s n a.on).1 e in
      let z : arrived_of w n ≡ count = grind (arith, nat_tests) in absurd (omega (arith, one_short)))

  skipped-le : w.skipped ≤ p
  skipped-le = omega (arith, a.fresh)

  -- ## The unassembled list

  unassembled-here : q p ≡ true
  unassembled-here = grind
      (arith, nat_tests, is-unassembled, Arrival.arrived-here, skipped-le, Arrival.message_of-arrived, Stays.complete-unordered, unordered-of, not_complete)

  pub unassembled-is : unassembled_chunks v s ≡ xs
  unassembled-is = grind (arith, nat_tests, Arrival.count-arrived, map-kept-same, Arrival.chunk_at-arrived)

  -- the queue puts it at its place
  pub unassembled-put : xs ≡ insert_before chunk_before (chunk_at w p) (unassembled_chunks w s)
  unassembled-put =
      let out : is_unassembled w s p ≡ false = rw a.new refl in
      map-kept-inserted (chunk_at w) chunk_before (is_unassembled w s) q p 0 (length w.slots) out unassembled-here (omega arith) (omega (arith, a.made))
      (λ k x y ne. sym (Stays.unassembled-other w p s k ne))
      (λ k x y ne e. Arrival.order_of w p k valid.few a.made (omega arith) ne)

  -- ## No other run

  pub fragments : (k : ℕ) → q k ≡ true → has_fragment w (message_of w k) k ≡ true
  fragments k e = Arrival.has-fragment w k (by_place {C = (slot_at w k).is_terminal_chunk ≡ false} k p
      (λ ne. more.terminals k (sym (Arrival.arrived-other w p k ne) ∙ (unassembled v s k e).datagram_received)) (λ z. rw z a.fragment))

  becomes : (first c : ℕ) → (r : IsCompleteRun w q first c) → becomes_complete v (message_of w r.base) ≡ true
  becomes first c r =
      let m = message_of w r.base in
      let l = valid.laid m in
      let some : 0 < c = rw r.count_is (valid.some m (valid.made m r.base (fragments r.base (front first c r)))) in
      let start : r.base ≡ l.0 = l.1.at r.base (fragments r.base (front first c r)) ∙ ap (λ i. l.0 + i) r.begins ∙ omega arith in
      let x = unassembled v s r.base (front first c r) in
      let kind : (message_at w m).ordered ≡ false = (unordered-of w s m (ap (is_unordered_on w s) (sym (Arrival.message_of-arrived w p r.base)) ∙ x.on)).1 in
      let window = Arrival.window v m l.0 (laid-arrived w p m l.0 l.1) in
      let full : length (numbers_where (has_come v m) l.0 (fragment_count w m)) ≡ fragment_count w m = length-kept-all (has_come v m) l.0 (fragment_count w m)
      (λ k b e. arrived r k (omega (arith, b, start)) (omega (arith, e, start, r.count_is))) in
      let arrives : has_arrived v m ≡ true = (let z : arrived_of v m ≡ fragment_count w m = ap length window ∙ full in grind (arith, nat_tests)) in
      let past : list_all (λ k. nat_le w.skipped k) (slots_of v m) ≡ true = all-kept (λ k. nat_le w.skipped k) (has_fragment v m) 0 (length v.slots)
      (λ k a b e. low k (omega (arith, l.1.at k (sym (Arrival.has_fragment-arrived w p m k) ∙ e), start, x.past))) in
      and (not (message_at w m).ordered) (has_arrived v m && list_all (λ k. nat_le w.skipped k) (slots_of v m)) (ap not kind)
      (and (has_arrived v m) (list_all (λ k. nat_le w.skipped k) (slots_of v m)) arrives past)
    where
      front : (first c : ℕ) → (r : IsCompleteRun w q first c) → q r.base ≡ true
      front first c r = r.passes

      low : (k : ℕ) → w.skipped ≤ k → nat_le w.skipped k ≡ true
      low k le = grind (arith, nat_tests)

      arrived : (r : IsCompleteRun w q first c) → (k : ℕ) → r.base ≤ k → k < r.base + c → has_come v (message_of w r.base) k ≡ true
      arrived r k low high =
          let i : r.base + (k - r.base) ≡ k = omega arith in
          let g = r.all (k - r.base) (omega arith) in
          and (has_fragment v (message_of w r.base) k) (arrived_at v k) (Arrival.has_fragment-arrived w p (message_of w r.base) k
          ∙ ap (has_fragment w (message_of w r.base)) (sym i) ∙ g.1) (unassembled v s k (ap q (sym i) ∙ g.0)).datagram_received

  -- a run is that of the message that came
  pub run-mine : (first c : ℕ) → IsRun xs first c → (becomes_complete v n ≡ true) × (first ≡ length (numbers_where q 0 base)) × (c ≡ count)
  run-mine first c run =
      let r = run-is w q first c valid more fragments run in
      let m = message_of w r.base in
      let complete : becomes_complete v m ≡ true = becomes first c r in
      let same : n ≡ m = by_place {C = n ≡ m} n m (λ ne. absurd (stale r ne (sym (becomes-elsewhere w p m ne) ∙ complete))) (λ e. e) in
      let start : r.base ≡ base = laid.at r.base (ap (λ x. has_fragment w x r.base) same ∙ fragments r.base r.passes) ∙ ap (λ i. base + i) r.begins
      ∙ omega arith in
      (ap (becomes_complete v) same ∙ complete, sym r.first_is ∙ ap (λ b. length (numbers_where q 0 b)) start, r.count_is ∙ ap (fragment_count w) (sym same))
    where
      stale : (r : IsCompleteRun w q first c) → (n ≡ message_of w r.base → ⊥) → becomes_complete w (message_of w r.base) ≡ true → ⊥
      stale r ne e = grind (arith, nat_tests, unassembled, unordered-of, Arrival.message_of-arrived, Stays.complete-unordered)

  pub no-run : becomes_complete v n ≡ false → HasNoRun xs
  no-run e = λ f c run. not_both (sym e ∙ (run-mine f c run).0)

  -- ## Its own run, where it becomes complete

  module _ (complete : becomes_complete v n ≡ true) where
    parts : (has_arrived v n ≡ true) × (list_all (λ k. nat_le w.skipped k) (slots_of v n) ≡ true)
    parts = both (has_arrived v n) (list_all (λ k. nat_le w.skipped k) (slots_of v n))
        (both (not (message_at w n).ordered) (has_arrived v n && list_all (λ k. nat_le w.skipped k) (slots_of v n)) complete).1

    full : length (numbers_where (has_come v n) base count) ≡ count
    full =
        let e : (arrived_of v n == count) ≡ true = parts.0 in
        let z : arrived_of v n ≡ count = grind (arith, nat_tests) in
        ap length (sym (Arrival.window v n base (laid-arrived w p n base laid))) ∙ z

    pub mine : (k : ℕ) → base ≤ k → k < base + count → (q k ≡ true) × (has_fragment w n k ≡ true)
    mine k low high =
        let c = Arrival.come v n k (kept-full (has_come v n) base count k full low high) in
        let frag : has_fragment w n k ≡ true = sym (Arrival.has_fragment-arrived w p n k) ∙ c.0 in
        let of : message_of v k ≡ n = Arrival.message_of-arrived w p k ∙ Arrival.of_message w n k frag in
        let past : nat_le w.skipped k ≡ true = all-at (λ k. nat_le w.skipped k) (has_fragment v n) k 0 (length v.slots) (omega arith)
        (omega (arith, inside k c.0 (cases_lt k (length v.slots)))) c.0 parts.1 in (
          is-unassembled v s k (record {
            datagram_received = c.1;
            past = grind (arith, nat_tests);
            on = ap (is_unordered_on w s) of ∙ a.on;
            complete = ap (is_complete_message v) of ∙ Stays.complete-unordered w p n (unordered-of w s n a.on).1 ∙ not_complete;
          }),
          frag,
        )
      where
        inside : (k : ℕ) → has_fragment v n k ≡ true → (k < length v.slots) ⊎ (length v.slots ≤ k) → k < length v.slots
        inside k h (inl l) = l
        inside k h (inr g) = absurd (not_both (sym (Arrival.beyond v n k g) ∙ h))

    abbrev first : ℕ
    first = length (numbers_where q 0 base)

    upto : (i : ℕ) → i ≤ count → length (numbers_where q 0 (base + i)) ≡ first + i
    upto zero le = let z : base + 0 ≡ base = omega arith in ap (λ b. length (numbers_where q 0 b)) z ∙ omega arith
    upto (suc i) le =
        let z : base + suc i ≡ suc (base + i) = omega arith in
        ap (λ b. length (numbers_where q 0 b)) z
        ∙ ap length (kept-snoc_in q 0 (base + i) (base + i) (omega arith) (mine (base + i) (omega arith) (omega arith)).0)
        ∙ length-append (numbers_where q 0 (base + i)) ((base + i) ∷ []) ∙ omega (arith, upto i (omega arith))

    in-slots : (k : ℕ) → has_fragment w n k ≡ true → (k < length w.slots) ⊎ (length w.slots ≤ k) → k < length w.slots
    in-slots k h (inl l) = l
    in-slots k h (inr g) = absurd (not_both (sym (Arrival.beyond w n k g) ∙ h))

    some : 0 < count
    some = valid.some n (valid.made n p here)

    pub top : base + count ≤ length w.slots
    top =
        let k = base + (count - 1) in
        let lt = in-slots k (mine k (omega arith) (omega (arith, some))).1 (cases_lt k (length w.slots)) in
        omega (arith, lt, some)

    long : first + count ≤ length (numbers_where q 0 (length w.slots))
    long = omega (arith, upto count (omega arith), length-kept-mono q 0 (base + count) (length w.slots) top)

    value : (i : ℕ) (d : ChunkPayloadData) → i < count → get_or xs (first + i) d ≡ chunk_at w (base + i)
    value i d lt =
        get_or-map (chunk_at w) (numbers_where q 0 (length w.slots)) (first + i) 0 d (omega (arith, long))
        ∙ ap (chunk_at w) (ap (λ j. get_or (numbers_where q 0 (length w.slots)) j 0) (sym (upto i (omega arith)))
        ∙ kept-get q 0 (length w.slots) (base + i) (base + i) 0 (omega arith) (omega (arith, top)) (mine (base + i) (omega arith) (omega arith)).0)

    number : (i : ℕ) → i < count → (slot_at w (base + i)).fragment ≡ i
    number i lt = omega (arith, laid.at (base + i) (mine (base + i) (omega arith) (omega arith)).1)

    pub own-run : IsRun xs first count
    own-run = record {
      some = some;
      in_range = omega (arith, long, length-mapped (chunk_at w) (numbers_where q 0 (length w.slots)));
      begins = λ d.
          let z : first + 0 ≡ first = omega arith in
          let f = number 0 some in
          ap (λ k. (get_or xs k d).beginning_fragment) (sym z) ∙ ap (λ x. x.beginning_fragment) (value 0 d some) ∙ grind (arith, nat_tests);
      no_other = λ k d low high.
          let z : first + (k - first) ≡ k = omega arith in
          let f = number (k - first) (omega arith) in
          ap (λ k. (get_or xs k d).beginning_fragment) (sym z) ∙ ap (λ x. x.beginning_fragment) (value (k - first) d (omega arith))
          ∙ other (k - first) (slot_at w (base + (k - first))).fragment f (omega arith);
      rising = λ k d low high.
          let i = k - first in
          let z : first + i ≡ k = omega arith in
          let y : first + (i + 1) ≡ k + 1 = omega arith in
          ap (λ k. (get_or xs k d).tsn) (sym y) ∙ ap (λ x. x.tsn) (value (i + 1) d (omega arith)) ∙ step (base + i) (base + (i + 1)) (omega arith)
          ∙ ap (λ x. (x.tsn + 1) % 2 ^ 32) (sym (value i d (omega arith))) ∙ ap (λ k. ((get_or xs k d).tsn + 1) % 2 ^ 32) z;
      ends = λ d.
          let z : first + (count - 1) ≡ first + count - 1 = omega (arith, some) in
          let last : base + (count - 1) < base + count = omega (arith, some) in
          let f = number (count - 1) (omega (arith, some)) in
          let of : message_of w (base + (count - 1)) ≡ n = Arrival.of_message w n (base + (count - 1)) (mine (base + (count - 1)) (omega arith) last).1 in
          ap (λ k. (get_or xs k d).ending_fragment) (sym z) ∙ ap (λ x. x.ending_fragment) (value (count - 1) d (omega (arith, some)))
          ∙ ap (λ m. (slot_at w (base + (count - 1))).fragment + 1 == fragment_count w m) of
          ∙ closes (slot_at w (base + (count - 1))).fragment count f some;
    }
      where
        other : (i f : ℕ) → f ≡ i → 0 < i → (f == 0) ≡ false
        other i f e lt = grind (arith, nat_tests)

        closes : (f c : ℕ) → f ≡ c - 1 → 0 < c → (f + 1 == c) ≡ true
        closes f c e lt = let z : f + 1 ≡ c = omega arith in grind (arith, nat_tests)

        step : (i j : ℕ) → j ≡ i + 1 → (w.setup.first + j) % 2 ^ 32 ≡ ((w.setup.first + i) % 2 ^ 32 + 1) % 2 ^ 32
        step i j e = omega arith

    -- and it is the only one, so also the one that ends first
    pub own-earliest : IsEarliestRun xs first count
    own-earliest = record {
      run = own-run;
      earliest = λ f c run. let r = run-mine f c run in omega (arith, r.1, r.2);
    }
