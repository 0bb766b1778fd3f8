-- A skip that counts: the queue's forwards and the record's step agree.
use Rattle.sctp_model.proofs.Names.{◌≡◌, ℕ, ◌+◌, ◌-◌, ◌<◌, ◌≤◌, ◌%◌, ◌^◌, Bool, true, false, List, [], ◌∷◌, length, map, drop, get_or, refl, ap, sym, ◌∙◌, inl}
use Rattle.sctp_model.proofs.Names.{inr, arith, ◌⊎◌, if◌then◌else◌, ◌&&◌, ◌||◌, not, nat_lt, nat_le, max, cases_lt, nat_tests, numbers_where, leading}
use Rattle.sctp_model.proofs.Names.{LinkRecord, message_at, stream_of, is_ordered_on, index_of, ssn_of, ordered_on, arrived_of, is_complete_message, is_unread}
use Rattle.sctp_model.proofs.Names.{is_held, next_of, greatest, Reassembly, held_after_ordered_skip, held_after_ordered_skips, is_complete, chunks_come}
use Rattle.sctp_model.proofs.Names.{complete_sets, unassembled_chunks, set_of, Valid, fails, both, those-kept, at_or_before16-index, leading-is, get-drop}
use Rattle.sctp_model.proofs.Names.{length-dropped}
use Rattle.sctp_util.specs.Serial.{at_or_before16}
use Rattle.sctp_reassembly.specs.reassembly_queue.ReassemblyQueue.{is_passed}
use Rattle.sctp_util.proofs.Wraps.{next16}
use Rattle.sctp_model.proofs.refinement.reading.Line.{on-made, ssn_on, index-at, next_le, next_passes, next_unread, read_at}
use Rattle.sctp_model.proofs.refinement.arriving.Arrival.{set_is_complete}
use Rattle.sctp_model.proofs.refinement.reading.Taken.{complete-ordered}

-- ## The queue, had so many been named

abbrev pub held_past : LinkRecord → ℕ → ℕ → ℕ → Bool
held_past w s named n =
    is_ordered_on w s n && (is_unread w n && (nat_lt 0 (arrived_of w n) && (is_complete_message w n || nat_le named (index_of w n))))

abbrev pub next_past : LinkRecord → ℕ → ℕ → ℕ
next_past w s named = named + length (leading (λ n. (message_at w n).read) (drop named (ordered_on w s)))

abbrev pub queue_past : LinkRecord → ℕ → ℕ → Reassembly
queue_past w s named =
    record {
      next_ssn = next_past w s named % 2 ^ 16;
      ordered = map (set_of w) (numbers_where (held_past w s named) 0 (length w.messages));
      unordered = complete_sets w s;
      unassembled = unassembled_chunks w s;
    }

-- the next one is the greater of both
pub next_past-is : (w : LinkRecord) (s named : ℕ) → Valid w → (stream_of w s).named ≤ named → next_past w s named ≡ max (next_of w s) named
next_past-is w s named valid le = step (cases_lt (next_of w s) named)
  where
    beyond : next_of w s < named → 0 < length (drop named (ordered_on w s)) → read_at w (get_or (drop named (ordered_on w s)) 0 0) ≡ false
    beyond l lt =
        let at = index-at w s named (omega (arith, lt, length-dropped named (ordered_on w s))) in
        rw (get-drop named (ordered_on w s) 0 named 0 (omega arith))
        (fails (read_at w (get_or (ordered_on w s) named 0)) (λ r. absurd (omega (arith, at.1, l, valid.read_past s (get_or (ordered_on w s) named 0) at.0 r))))

    step : (next_of w s < named) ⊎ (named ≤ next_of w s) → next_past w s named ≡ max (next_of w s) named
    step (inl l) =
        let none : length (leading (read_at w) (drop named (ordered_on w s))) ≡ 0 = leading-is (read_at w) (drop named (ordered_on w s)) 0 0 (omega arith)
        (λ j lt. absurd (omega arith)) (λ lt. beyond l lt) in
        omega (arith, none)
    step (inr g) =
        let count : length (leading (read_at w) (drop named (ordered_on w s))) ≡ next_of w s - named =
        leading-is (read_at w) (drop named (ordered_on w s))
        (next_of w s - named) 0 (omega (arith, length-dropped named (ordered_on w s), next_le w s (valid.named_made s)))
        (λ j lt. rw (get-drop named (ordered_on w s) j (named + j) 0 refl) (next_passes w s (named + j) (omega arith) (omega arith)))
        (λ lt. stop g (omega (arith, lt, length-dropped named (ordered_on w s)))) in
        omega (arith, count)
      where
        stop : named ≤ next_of w s → next_of w s < length (ordered_on w s) → read_at w (get_or (drop named (ordered_on w s)) (next_of w s - named) 0) ≡ false
        stop g lt =
            let at = index-at w s (next_of w s) lt in
            rw (get-drop named (ordered_on w s) (next_of w s - named) (next_of w s) 0 (omega arith))
            (next_unread w s (get_or (ordered_on w s) (next_of w s) 0) at.0 at.1)

-- an index is near those of the state: what both span tests give for a name
pub record IsNear (w : LinkRecord) (s top n : ℕ) : Type 0 where
  pub on : is_ordered_on w s n ≡ true
  pub below : index_of w n < next_of w s + 2 ^ 15
  pub above : top < index_of w n + 2 ^ 15
  pub held : (m : ℕ) → m < length w.messages → is_held w s m ≡ true → (index_of w m < index_of w n + 2 ^ 15) × (index_of w n < index_of w m + 2 ^ 15)

-- one name
module _ (w : LinkRecord) (s named top n : ℕ) (valid : Valid w) (from : (stream_of w s).named ≤ named) (upto : max (next_of w s) named ≤ top)
    (near : IsNear w s top n) where
  held-before : (m : ℕ) → held_past w s named m ≡ true → is_held w s m ≡ true
  held-before m e = grind (arith, nat_tests)

  on-held : (m : ℕ) → held_past w s named m ≡ true → is_ordered_on w s m ≡ true
  on-held m e = (both (is_ordered_on w s m) (is_unread w m && (nat_lt 0 (arrived_of w m) && (is_complete_message w m || nat_le named (index_of w m)))) e).0

  passed : (m : ℕ) → held_past w s named m ≡ true
      → is_passed (ssn_of w n) (set_of w m) ≡ (nat_le (index_of w m) (index_of w n) && not (is_complete_message w m))
  passed m e =
      let on = on-held m e in
      let lt = on-made w s m on in
      let h = near.held m lt (held-before m e) in
      let serial : at_or_before16 (ssn_of w m) (ssn_of w n) ≡ nat_le (index_of w m) (index_of w n) = rw (ssn_on w s m on, ssn_on w s n near.on)
      (at_or_before16-index (index_of w m) (index_of w n) h.0 h.1) in
      let complete : is_complete (chunks_come w m) ≡ is_complete_message w m = set_is_complete w m valid lt ∙ sym (complete-ordered w s m on) in
      rw (serial, complete) refl

  stays : (m : ℕ) → held_past w s (max named (index_of w n + 1)) m ≡ (held_past w s named m && not (is_passed (ssn_of w n) (set_of w m)))
  stays m = step (held_past w s named m) refl
    where
      gone : (a b c d : Bool) (i k j : ℕ) → (a && (b && (c && (d || nat_le k i)))) ≡ false → (a && (b && (c && (d || nat_le (max k (j + 1)) i)))) ≡ false
      gone o b c d i k j e = grind (arith, nat_tests)

      kept' : (a b c d : Bool) (i k j : ℕ) → (a && (b && (c && (d || nat_le k i)))) ≡ true
          → (a && (b && (c && (d || nat_le (max k (j + 1)) i)))) ≡ not (nat_le i j && not d)
      kept' o b c d i k j e = grind (arith, nat_tests)

      step : (b : Bool) → held_past w s named m ≡ b → held_past w s (max named (index_of w n + 1)) m ≡ (b && not (is_passed (ssn_of w n) (set_of w m)))
      step true e = cc
          (kept' (is_ordered_on w s m) (is_unread w m) (nat_lt 0 (arrived_of w m)) (is_complete_message w m) (index_of w m) named (index_of w n) e, passed m e)
      step false e = gone (is_ordered_on w s m) (is_unread w m) (nat_lt 0 (arrived_of w m)) (is_complete_message w m) (index_of w m) named (index_of w n) e

  next-named : (if at_or_before16 (next_past w s named % 2 ^ 16) (ssn_of w n) then (ssn_of w n + 1) % 2 ^ 16 else next_past w s named % 2 ^ 16)
      ≡ next_past w s (max named (index_of w n + 1)) % 2 ^ 16
  next-named = grind (arith, nat_tests, next_past-is, ssn_on, at_or_before16-index, next16)

  pub forwarded-one : held_after_ordered_skip (ssn_of w n) (queue_past w s named) ≡ queue_past w s (max named (index_of w n + 1))
  forwarded-one =
      let sets = those-kept (λ set. not (is_passed (ssn_of w n) set)) (set_of w) (set_of w) (held_past w s named)
      (held_past w s (max named (index_of w n + 1))) 0 (length w.messages) (λ k a b. stays k) (λ k a b e. refl) in
      rw (next-named, sets) refl

-- all of them, in the order given
abbrev pub AllNear : LinkRecord → ℕ → ℕ → List ℕ → Type 0
AllNear w s top [] = Unit {0}
AllNear w s top (n ∷ ns) = IsNear w s top n × AllNear w s top ns

abbrev pub named_with : LinkRecord → ℕ → List ℕ → ℕ
named_with w named names = greatest named (map (λ n. index_of w n + 1) names)

pub named_with-ge : (w : LinkRecord) (named : ℕ) (names : List ℕ) → named ≤ named_with w named names
named_with-ge w named [] = omega arith
named_with-ge w named (n ∷ ns) = omega (arith, named_with-ge w (max named (index_of w n + 1)) ns)

pub forwarded-all : (w : LinkRecord) (s named top : ℕ) (names : List ℕ) → Valid w → (stream_of w s).named ≤ named → max (next_of w s) (named_with w named names)
    ≤ top → AllNear w s top names → held_after_ordered_skips (map (ssn_of w) names) (queue_past w s named) ≡ queue_past w s (named_with w named names)
forwarded-all w s named top [] valid from upto near = refl
forwarded-all w s named top (n ∷ ns) valid from upto near =
    let more = max named (index_of w n + 1) in
    ap (held_after_ordered_skips (map (ssn_of w) ns)) (forwarded-one w s named top n valid from (omega (arith, upto, named_with-ge w more ns)) near.0)
    ∙ forwarded-all w s more top ns valid (omega arith) upto near.1
