-- A skip that counts: the complete step.
use Rattle.sctp_model.proofs.Names.{◌≡◌, ℕ, ◌+◌, ◌<◌, ◌≤◌, ◌%◌, ◌^◌, Bool, true, false, List, [], ◌∷◌, length, map, Option, Some, None, refl, ap, ◌∙◌, arith}
use Rattle.sctp_model.proofs.Names.{sym, if◌then◌else◌, ◌==◌, nat_le, max, find, list_any, filter, nat_tests, numbers_where, map-kept-same, LinkRecord}
use Rattle.sctp_model.proofs.Names.{StreamRecord, message_at, message_of, stream_at, stream_of, is_ordered_on, index_of, ssn_of, tsn_of, arrived_at, cumulative}
use Rattle.sctp_model.proofs.Names.{is_complete_message, is_held, next_of, receive_skip, skip_counts, after_leading, at_or_before, ChunkPayloadData, ChunkSet}
use Rattle.sctp_model.proofs.Names.{Reassembly, held_after_ordered_skip, held_after_ordered_skips, held_after_unordered_skip, chunk_at, set_of, complete_set_of}
use Rattle.sctp_model.proofs.Names.{is_unassembled, ordered_sets, complete_sets, unassembled_chunks, IsSpan, Valid, at_or_before-tsn, or-right, and-none}
use Rattle.sctp_model.specs.Changes.{named_by}
use Rattle.sctp_model.specs.refinement.Holds.{reassembly_of}
use Rattle.sctp_util.proofs.More.{after_leading-kept}
use Rattle.sctp_model.proofs.refinement.skipping.Skips
use Rattle.sctp_model.proofs.refinement.skipping.Skips.{held_past, next_past, queue_past, next_past-is, IsNear, AllNear, named_with, forwarded-one}
use Rattle.sctp_model.proofs.refinement.skipping.Skips.{forwarded-all}

abbrev pub with_skip : LinkRecord → ℕ → List ℕ → LinkRecord
with_skip w upto names = record w { skipped = upto + 1; streams = map (named_by w names) w.streams }

pub skip-step : (w : LinkRecord) (upto : ℕ) (names : List ℕ) → cumulative w ≤ upto → receive_skip w upto names ≡ with_skip w upto names
skip-step w upto names counts = let e : skip_counts w upto ≡ true = grind (arith, nat_tests) in rw e refl

abbrev pub reassembly : ℕ → List ChunkSet → List ChunkSet → List ChunkPayloadData → Reassembly
reassembly next ordered unordered unassembled = record { next_ssn = next % 2 ^ 16; ordered = ordered; unordered = unordered; unassembled = unassembled }

-- ## The streams

abbrev pub then_by : (StreamRecord → StreamRecord) → Option StreamRecord → Option StreamRecord
then_by f None = None
then_by f (Some r) = Some (f r)

pub find-map : (f : StreamRecord → StreamRecord) → ((r : StreamRecord) → (f r).stream ≡ r.stream) → (t : ℕ) (rs : List StreamRecord)
    → find (λ r. r.stream == t) (map f rs) ≡ then_by f (find (λ r. r.stream == t) rs)
find-map f keeps t [] = refl
find-map f keeps t (r ∷ rs) = grind (arith, nat_tests, find-map f keeps t rs)

pub find-passes : (t : ℕ) (rs : List StreamRecord) (x : StreamRecord) → find (λ r. r.stream == t) rs ≡ Some x → x.stream ≡ t
find-passes t [] x e = cc
find-passes t (r ∷ rs) x e = grind (arith, nat_tests, find-passes t rs x)

complete-frame : (w : LinkRecord) (upto : ℕ) (names : List ℕ) (t : ℕ) → (stream_of (with_skip w upto names) t).complete ≡ (stream_of w t).complete
complete-frame w upto names t = grind (arith, nat_tests, find-map)

pub named-frame : (w : LinkRecord) (upto : ℕ) (names : List ℕ) (t : ℕ) (r : StreamRecord) → stream_at w t ≡ Some r
    → (stream_of (with_skip w upto names) t).named ≡ named_with w (stream_of w t).named (filter (is_ordered_on w t) names)
named-frame w upto names t r e = grind (arith, nat_tests, find-passes, find-map)

pub complete-skip : (w : LinkRecord) (upto : ℕ) (names : List ℕ) (n : ℕ) → is_complete_message (with_skip w upto names) n ≡ is_complete_message w n
complete-skip w upto names n = cc (complete-frame w upto names (message_at w n).stream)

pub parts : {a b : ℕ} {xs ys us vs : List ChunkSet} {ls ms : List ChunkPayloadData} → a ≡ b → xs ≡ ys → us ≡ vs → ls ≡ ms
    → reassembly a xs us ls ≡ reassembly b ys vs ms
parts e f g h = rw (e, f, g, h) refl

-- ## Near one another, in both states

module _ (w : LinkRecord) (s upto : ℕ) (names : List ℕ) (r : StreamRecord) (valid : Valid w) (lt : upto < length w.slots) (counts : cumulative w ≤ upto)
    (open' : stream_at w s ≡ Some r) (before : IsSpan w s (map (index_of w) (filter (is_ordered_on w s) names)))
    (after' : IsSpan (with_skip w upto names) s (map (index_of w) (filter (is_ordered_on w s) names))) where
  abbrev mine : List ℕ
  mine = filter (is_ordered_on w s) names

  abbrev named : ℕ
  named = named_with w (stream_of w s).named mine

  named-ge : (from : ℕ) (ns : List ℕ) → from ≤ named_with w from ns
  named-ge from ns = Skips.named_with-ge w from ns

  top-is : next_of (with_skip w upto names) s ≡ max (next_of w s) named
  top-is = cc (named-frame w upto names s r open', next_past-is w s named valid (named-ge (stream_of w s).named mine))

  near-one : (n : ℕ) → is_ordered_on w s n ≡ true → list_any (λ z. z == index_of w n) (map (index_of w) mine) ≡ true → IsNear w s (max (next_of w s) named) n
  near-one n on among =
      let b = before.others (index_of w n) among in
      let a = after'.others (index_of w n) among in
      record {
        on = on;
        below = omega (arith, b, before.next, before.short);
        above = omega (arith, a, after'.next, after'.short, top-is);
        held = λ m l h. let x = before.held m l h in (omega (arith, x, b, before.short), omega (arith, x, b, before.short));
      }

  near-all : (ns : List ℕ) → ((y : ℕ) → list_any (λ z. z == y) (map (index_of w) (filter (is_ordered_on w s) ns)) ≡ true
      → list_any (λ z. z == y) (map (index_of w) mine) ≡ true) → AllNear w s (max (next_of w s) named) (filter (is_ordered_on w s) ns)
  near-all [] among = tt
  near-all (n ∷ ns) among = step (is_ordered_on w s n) refl among (λ h. near-all ns h)
    where
      step : (b : Bool) → is_ordered_on w s n ≡ b
          → ((y : ℕ) → list_any (λ z. z == y) (map (index_of w) (if b then n ∷ filter (is_ordered_on w s) ns else filter (is_ordered_on w s) ns)) ≡ true
          → list_any (λ z. z == y) (map (index_of w) mine) ≡ true) → (((y : ℕ) → list_any (λ z. z == y) (map (index_of w) (filter (is_ordered_on w s) ns))
          ≡ true → list_any (λ z. z == y) (map (index_of w) mine) ≡ true) → AllNear w s (max (next_of w s) named) (filter (is_ordered_on w s) ns))
          → AllNear w s (max (next_of w s) named) (if b then n ∷ filter (is_ordered_on w s) ns else filter (is_ordered_on w s) ns)
      step true on among ih = (
        near-one n on (among (index_of w n) (let e : (index_of w n == index_of w n) ≡ true = grind (arith, nat_tests) in rw e refl)),
        ih (λ y h. among y (or-right (index_of w n == y) (list_any (λ z. z == y) (map (index_of w) (filter (is_ordered_on w s) ns))) h)),
      )
      step false on among ih = ih among

  -- ## The unassembled chunks

  unassembled-skip : unassembled_chunks (with_skip w upto names) s ≡ after_leading (λ x. at_or_before x.tsn (tsn_of w upto)) (unassembled_chunks w s)
  unassembled-skip =
      after_leading-kept (λ x. at_or_before x.tsn (tsn_of w upto)) (chunk_at w) (is_unassembled w s) (is_unassembled (with_skip w upto names) s)
      (upto + 1) 0 (length w.slots)
      (λ k a b e. (
        λ l. serial k (omega arith) ∙ (let le : k ≤ upto = omega arith in grind (arith, nat_tests)),
        λ l. serial k (omega arith) ∙ (let le : upto < k = omega arith in grind (arith, nat_tests)),
      ))
      (λ k a b. (λ l. low k l, λ l. high k l))
    where
      serial : (k : ℕ) → k < length w.slots → at_or_before (chunk_at w k).tsn (tsn_of w upto) ≡ nat_le k upto
      serial k l = at_or_before-tsn w.setup.first k upto (omega (arith, lt, valid.few)) (omega (arith, lt, valid.few))

      low : (k : ℕ) → k < upto + 1 → is_unassembled (with_skip w upto names) s k ≡ false
      low k l = let e : nat_le (upto + 1) k ≡ false = grind (arith, nat_tests) in rw e (and-none (arrived_at w k))

      high : (k : ℕ) → upto + 1 ≤ k → is_unassembled (with_skip w upto names) s k ≡ is_unassembled w s k
      high k l =
          let a : nat_le (upto + 1) k ≡ true = grind (arith, nat_tests) in
          let b : nat_le w.skipped k ≡ true = (let c : w.skipped ≤ k = omega (arith, counts) in grind (arith, nat_tests)) in
          rw (a, b, complete-skip w upto names (message_of w k)) refl

  sets-skip : ordered_sets (with_skip w upto names) s ≡ map (set_of w) (numbers_where (held_past w s named) 0 (length w.messages))
  sets-skip =
      map-kept-same (set_of (with_skip w upto names)) (set_of w) (is_held (with_skip w upto names) s) (held_past w s named) 0 (length w.messages)
      (λ k a b. rw (complete-skip w upto names k, named-frame w upto names s r open') refl) (λ k a b e. refl)

  pub skipped : reassembly_of (with_skip w upto names) s ≡ held_after_unordered_skip (tsn_of w upto)
      (held_after_ordered_skips (map (ssn_of w) mine) (reassembly_of w s))
  skipped =
      let each : held_after_ordered_skips (map (ssn_of w) mine) (reassembly_of w s) ≡ queue_past w s named =
      forwarded-all w s (stream_of w s).named (max (next_of w s) named) mine valid (omega arith) (omega arith) (near-all names (λ y h. h)) in
      let next : next_of (with_skip w upto names) s ≡ next_past w s named = ap (λ k. next_past w s k) (named-frame w upto names s r open') in
      let complete_ones : complete_sets (with_skip w upto names) s ≡ complete_sets w s = ap (map (complete_set_of w)) (complete-frame w upto names s) in
      parts next sets-skip complete_ones unassembled-skip ∙ ap (held_after_unordered_skip (tsn_of w upto)) (sym each)

  -- ## One name alone: the one with the greatest index

  forward-tells : (q : Reassembly) → held_after_ordered_skips (map (ssn_of w) mine) (reassembly_of w s) ≡ q
      → reassembly_of (with_skip w upto names) s ≡ held_after_unordered_skip (tsn_of w upto) q
  forward-tells q e = skipped ∙ ap (held_after_unordered_skip (tsn_of w upto)) e

  each-is : held_after_ordered_skips (map (ssn_of w) mine) (reassembly_of w s) ≡ queue_past w s named
  each-is = forwarded-all w s (stream_of w s).named (max (next_of w s) named) mine valid (omega arith) (omega arith) (near-all names (λ y h. h))

  -- none is named
  pub skipped-none : mine ≡ [] → reassembly_of (with_skip w upto names) s ≡ held_after_unordered_skip (tsn_of w upto) (reassembly_of w s)
  skipped-none e = forward-tells (reassembly_of w s) (ap (λ ns. held_after_ordered_skips (map (ssn_of w) ns) (reassembly_of w s)) e)

  -- one after another, they come to the one with the greatest index
  pub once-is : (n : ℕ) → is_ordered_on w s n ≡ true → list_any (λ z. z == index_of w n) (map (index_of w) mine) ≡ true
      → named ≡ max (stream_of w s).named (index_of w n + 1)
      → held_after_ordered_skips (map (ssn_of w) mine) (reassembly_of w s) ≡ held_after_ordered_skip (ssn_of w n) (reassembly_of w s)
  once-is n on among last = grind (arith, nat_tests, each-is, forwarded-one, named-ge, near-one)

  pub skipped-once : (n : ℕ) → is_ordered_on w s n ≡ true → list_any (λ z. z == index_of w n) (map (index_of w) mine) ≡ true
      → named ≡ max (stream_of w s).named (index_of w n + 1)
      → reassembly_of (with_skip w upto names) s ≡ held_after_unordered_skip (tsn_of w upto) (held_after_ordered_skip (ssn_of w n) (reassembly_of w s))
  skipped-once n on among last = forward-tells (held_after_ordered_skip (ssn_of w n) (reassembly_of w s)) (once-is n on among last)
