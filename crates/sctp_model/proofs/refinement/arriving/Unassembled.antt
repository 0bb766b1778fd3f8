-- Runs among the unassembled chunks are complete messages.
use Rattle.sctp_model.proofs.Names.{◌≡◌, ℕ, zero, suc, ◌+◌, ◌-◌, ◌<◌, ◌≤◌, ◌%◌, ◌^◌, Bool, true, false, length, map, get_or, refl, ap, sym, ◌∙◌, arith, ◌==◌}
use Rattle.sctp_model.proofs.Names.{nat_tests, numbers_where, length-kept-le, LinkRecord, slot_at, message_of, fragment_count, has_fragment, is_unordered_on}
use Rattle.sctp_model.proofs.Names.{arrived_at, is_complete_message, ChunkPayloadData, chunk_at, is_unassembled, Valid, ValidUnassembled, kept-place}
use Rattle.sctp_model.proofs.Names.{length-mapped, get_or-map}
use Rattle.sctp_util.proofs.Lines.{IsAt}
use Rattle.sctp_serial.specs.Runs.{IsRun}
use Rattle.sctp_model.proofs.refinement.arriving.Arrival

-- ## Lists

-- where all pass
pub length-kept-all : (p : ℕ → Bool) (from count : ℕ) → ((k : ℕ) → from ≤ k → k < from + count → p k ≡ true) → length (numbers_where p from count) ≡ count
length-kept-all p from zero all = refl
length-kept-all p from (suc count) all =
    rw (all from (omega arith) (omega arith)) (ap suc (length-kept-all p (from + 1) count (λ k a b. all k (omega arith) (omega arith))))

pub kept-full : (p : ℕ → Bool) (from count k : ℕ) → length (numbers_where p from count) ≡ count → from ≤ k → k < from + count → p k ≡ true
kept-full p from zero k e a b = absurd (omega arith)
kept-full p from (suc count) k e a b = grind (arith, nat_tests, length-kept-le, kept-full p (from + 1) count k)

-- ## What an unassembled place is

pub record IsUnassembled (w : LinkRecord) (s k : ℕ) : Type 0 where
  pub datagram_received : arrived_at w k ≡ true
  pub past : w.skipped ≤ k
  pub on : is_unordered_on w s (message_of w k) ≡ true
  pub complete : is_complete_message w (message_of w k) ≡ false

pub unassembled : (w : LinkRecord) (s k : ℕ) → is_unassembled w s k ≡ true → IsUnassembled w s k
unassembled w s k e = grind (arith, nat_tests)

pub is-unassembled : (w : LinkRecord) (s k : ℕ) → IsUnassembled w s k → is_unassembled w s k ≡ true
is-unassembled w s k l = grind (arith, nat_tests)

-- ## A run is a message

-- the run that begins at this place has all the fragments of the message there
pub record IsCompleteRun (w : LinkRecord) (q : ℕ → Bool) (first count : ℕ) : Type 0 where
  pub base : ℕ
  pub begins : (slot_at w base).fragment ≡ 0
  pub made : base < length w.slots
  pub passes : q base ≡ true
  pub all : (i : ℕ) → i < count → (q (base + i) ≡ true) × (has_fragment w (message_of w base) (base + i) ≡ true)
  pub count_is : count ≡ fragment_count w (message_of w base)
  pub first_is : length (numbers_where q 0 base) ≡ first

module _ (w : LinkRecord) (q : ℕ → Bool) (first count : ℕ) (valid : Valid w) (more : ValidUnassembled w) (datagram_received : (k : ℕ) → q k ≡ true
    → has_fragment w (message_of w k) k ≡ true) (run : IsRun (map (chunk_at w) (numbers_where q 0 (length w.slots))) first count) where
  abbrev at : ℕ → ℕ
  at i = get_or (numbers_where q 0 (length w.slots)) (first + i) 0

  long : first + count ≤ length (numbers_where q 0 (length w.slots))
  long = omega (arith, run.in_range, length-mapped (chunk_at w) (numbers_where q 0 (length w.slots)))

  place : (i : ℕ) → i < count → IsAt q 0 (length w.slots) (at i) (first + i)
  place i lt = kept-place q 0 (length w.slots) (first + i) 0 (omega (arith, long))

  passes : (i : ℕ) → i < count → q (at i) ≡ true
  passes i lt = (place i lt).passes

  in-slots : (i : ℕ) → i < count → at i < length w.slots
  in-slots i lt = let r = place i lt in omega (arith, r.is, r.low)

  value : (i : ℕ) (d : ChunkPayloadData) → i < count → get_or (map (chunk_at w) (numbers_where q 0 (length w.slots))) (first + i) d ≡ chunk_at w (at i)
  value i d lt = get_or-map (chunk_at w) (numbers_where q 0 (length w.slots)) (first + i) 0 d (omega (arith, long))

  starts : (slot_at w (at 0)).fragment ≡ 0
  starts =
      let d = chunk_at w 0 in
      let e : (chunk_at w (at 0)).beginning_fragment ≡ true = ap (λ x. x.beginning_fragment) (sym (value 0 d run.some))
      ∙ ap (λ k. (get_or (map (chunk_at w) (numbers_where q 0 (length w.slots))) k d).beginning_fragment) (let z : first + 0 ≡ first = omega arith in z)
      ∙ run.begins d in
      let h : ((slot_at w (at 0)).fragment == 0) ≡ true = e in
      grind (arith, nat_tests)

  -- each is the next place, of the same message
  goes_on : (i : ℕ) → i < count → (at i ≡ at 0 + i) × (message_of w (at i) ≡ message_of w (at 0)) × ((slot_at w (at i)).fragment ≡ i)
  goes_on zero lt = (omega arith, refl, starts)
  goes_on (suc i) lt =
      let ih = goes_on i (omega arith) in
      let d = chunk_at w 0 in
      let index : first + i + 1 ≡ first + suc i = omega arith in
      let rise : tsn_at (at (suc i)) ≡ (tsn_at (at i) + 1) % 2 ^ 32 =
      ap (λ x. x.tsn) (sym (value (suc i) d lt)) ∙ ap (λ k. (get_or (map (chunk_at w) (numbers_where q 0 (length w.slots))) k d).tsn) (sym index)
      ∙ run.rising (first + i) d (omega arith) (omega arith) ∙ ap (λ x. (x.tsn + 1) % 2 ^ 32) (value i d (omega arith)) in
      let next : at (suc i) ≡ at i + 1 = follows (at i) (at (suc i)) (in-slots i (omega arith)) (in-slots (suc i) lt) rise in
      let middle : (chunk_at w (at (suc i))).beginning_fragment ≡ false = ap (λ x. x.beginning_fragment) (sym (value (suc i) d lt))
      ∙ run.no_other (first + suc i) d (omega arith) (omega arith) in
      let later : ((slot_at w (at (suc i))).fragment == 0) ≡ false = middle in
      let positive : 0 < (slot_at w (at (suc i))).fragment = grind (arith, nat_tests) in
      let here : has_fragment w (message_of w (at (suc i))) (at (suc i)) ≡ true = datagram_received (at (suc i)) (passes (suc i) lt) in
      let back : has_fragment w (message_of w (at (suc i))) (at (suc i) - 1) ≡ true = more.prefix (message_of w (at (suc i))) (at (suc i))
      ((slot_at w (at (suc i))).fragment - 1) here (omega arith) in
      let place' : at (suc i) - 1 ≡ at i = omega (arith, next) in
      let same : message_of w (at i) ≡ message_of w (at (suc i)) = ap (message_of w) (sym place')
      ∙ Arrival.of_message w (message_of w (at (suc i))) (at (suc i) - 1) back in
      let laid = valid.laid (message_of w (at (suc i))) in
      let one = laid.1.at (at (suc i)) here in
      let two = laid.1.at (at i) (ap (has_fragment w (message_of w (at (suc i)))) (sym place') ∙ back) in
      (omega (arith, next, ih.0), sym same ∙ ih.1, omega (arith, one, two, next, ih.2))
    where
      tsn_at : ℕ → ℕ
      tsn_at k = (w.setup.first + k) % 2 ^ 32

      follows : (x y : ℕ) → x < length w.slots → y < length w.slots → (w.setup.first + y) % 2 ^ 32 ≡ ((w.setup.first + x) % 2 ^ 32 + 1) % 2 ^ 32 → y ≡ x + 1
      follows x y a b e = omega (arith, valid.few)

  pub run-is : IsCompleteRun w q first count
  run-is =
      let n = message_of w (at 0) in
      let last = goes_on (count - 1) (omega (arith, run.some)) in
      let d = chunk_at w 0 in
      let index : first + (count - 1) ≡ first + count - 1 = omega (arith, run.some) in
      let e : (chunk_at w (at (count - 1))).ending_fragment ≡ true = ap (λ x. x.ending_fragment) (sym (value (count - 1) d (omega (arith, run.some))))
      ∙ ap (λ k. (get_or (map (chunk_at w) (numbers_where q 0 (length w.slots))) k d).ending_fragment) index ∙ run.ends d in
      let h : ((slot_at w (at (count - 1))).fragment + 1 == fragment_count w (message_of w (at (count - 1)))) ≡ true = e in
      let total : (slot_at w (at (count - 1))).fragment + 1 ≡ fragment_count w (message_of w (at (count - 1))) = grind (arith, nat_tests) in
      let r = place 0 run.some in
      let k : at 0 ≡ r.k = omega (arith, r.is) in
      record {
        base = at 0;
        begins = starts;
        made = in-slots 0 run.some;
        passes = passes 0 run.some;
        all = λ i lt. let g = goes_on i lt in (
          ap q (sym g.0) ∙ passes i lt,
          ap (has_fragment w (message_of w (at 0))) (sym g.0) ∙ ap (λ m. has_fragment w m (at i)) (sym g.1) ∙ datagram_received (at i) (passes i lt),
        );
        count_is = omega (arith, total, ap (fragment_count w) last.1, last.2, run.some);
        first_is = ap (λ x. length (numbers_where q 0 x)) k ∙ r.place_is ∙ omega arith;
      }
