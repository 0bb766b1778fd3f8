-- Skips that are noted one after another, and then made at once.
use Rattle.std.proofs.Common.{◌≡◌, ℕ, ◌+◌, ◌-◌, ◌%◌, ◌^◌, ◌<◌, ◌≤◌, ◌&&◌, ◌||◌, Bool, true, false, not, if◌then◌else◌, List, [], ◌∷◌, Some, inl, inr}
use Rattle.std.proofs.Common.{refl, ap, ap₂, ◌∙◌, arith}
use Rattle.std.specs.Prelude.{◌⊎◌, nat_lt, min, max}
use Rattle.std.specs.List.{filter}
use Rattle.std.proofs.lemmas.Bool.{cases_lt}
use Rattle.std.proofs.lemmas.Bool.Decides.{nat_tests}
use Rattle.sctp_util.specs.Serial.{distance16, at_or_before16}
use Rattle.sctp_data.specs.ChunkSet.{ChunkSet}
use Rattle.sctp_reassembly.specs.declared.reassembly_queue.ordered_skips.OrderedSkips.{OrderedSkips}
use Rattle.sctp_reassembly.specs.reassembly_queue.Fragments.{is_complete}
use Rattle.sctp_reassembly.specs.reassembly_queue.OrderedSkips.{is_in, is_skipped, held_after_noted_skips, after_noted_skips}
use Rattle.sctp_reassembly.specs.reassembly_queue.ReassemblyQueue.{Reassembly, ReassemblyState, IsCounted, is_passed, set_bytes, after_ordered_skip}
use Rattle.sctp_reassembly.specs.reassembly_queue.ReassemblyQueue.{complete_sets}
use Rattle.sctp_reassembly.specs.reassembly_queue.Skips.{is_discarded, is_abandoned}
use Rattle.sctp_reassembly.proofs.lemmas.reassembly_queue.ByteCounts.{skipped, those_stay, complete_not_passed}
use Rattle.sctp_reassembly.proofs.lemmas.reassembly_queue.ChunkSets.{state_of}

-- ## The stretch

-- the numbers at or before one, and at or before another that lies ahead of it: by how far each lies before them
ahead-sums : (before after more d : ℕ) → before < 2 ^ 16 → d < 2 ^ 15 → more < 2 ^ 16 → after ≡ (before + d) % 2 ^ 16
    → nat_lt after (2 ^ 15 + min (more + d) (2 ^ 16 - 1)) ≡ (nat_lt before (2 ^ 15 + more) || nat_lt after (2 ^ 15))
ahead-sums before after more d b small m e = step (cases_lt before (2 ^ 15 + more)) (cases_lt after (2 ^ 15))
  where
    step : (before < 2 ^ 15 + more) ⊎ (2 ^ 15 + more ≤ before) → (after < 2 ^ 15) ⊎ (2 ^ 15 ≤ after)
        → nat_lt after (2 ^ 15 + min (more + d) (2 ^ 16 - 1)) ≡ (nat_lt before (2 ^ 15 + more) || nat_lt after (2 ^ 15))
    step (inl x) (inl y) = grind (arith, nat_tests)
    step (inl x) (inr y) = grind (arith, nat_tests)
    step (inr x) (inl y) = grind (arith, nat_tests)
    step (inr x) (inr y) = grind (arith, nat_tests)

-- and before another that does not lie ahead
behind-sums : (before after more d : ℕ) → before < 2 ^ 16 → 2 ^ 15 ≤ d → d < 2 ^ 16 → after ≡ (before + d) % 2 ^ 16
    → nat_lt before (2 ^ 15 + max more (2 ^ 16 - d)) ≡ (nat_lt before (2 ^ 15 + more) || nat_lt after (2 ^ 15))
behind-sums before after more d b far m e = step (cases_lt before (2 ^ 15 + more)) (cases_lt after (2 ^ 15))
  where
    step : (before < 2 ^ 15 + more) ⊎ (2 ^ 15 + more ≤ before) → (after < 2 ^ 15) ⊎ (2 ^ 15 ≤ after)
        → nat_lt before (2 ^ 15 + max more (2 ^ 16 - d)) ≡ (nat_lt before (2 ^ 15 + more) || nat_lt after (2 ^ 15))
    step (inl x) (inl y) = grind (arith, nat_tests)
    step (inl x) (inr y) = grind (arith, nat_tests)
    step (inr x) (inl y) = grind (arith, nat_tests)
    step (inr x) (inr y) = grind (arith, nat_tests)

distance-small : (x n : ℕ) → distance16 x n < 2 ^ 16
unfolding distance16
distance-small x n = omega arith

distance-on : (x last n : ℕ) → last < 2 ^ 16 → distance16 x n ≡ (distance16 x last + distance16 last n) % 2 ^ 16
unfolding distance16
distance-on x last n small = omega arith

distance-back : (last n : ℕ) → last < 2 ^ 16 → n < 2 ^ 16 → 2 ^ 15 ≤ distance16 last n → distance16 n last ≡ 2 ^ 16 - distance16 last n
unfolding distance16
distance-back last n a b far = omega arith

pub in-ahead : (last more n x : ℕ) → last < 2 ^ 16 → more < 2 ^ 16 → distance16 last n < 2 ^ 15
    → nat_lt (distance16 x n) (2 ^ 15 + min (more + distance16 last n) (2 ^ 16 - 1)) ≡ (nat_lt (distance16 x last) (2 ^ 15 + more) || at_or_before16 x n)
unfolding at_or_before16
in-ahead last more n x a b near =
    ahead-sums (distance16 x last) (distance16 x n) more (distance16 last n) (distance-small x last) near b (distance-on x last n a)

pub in-behind : (last more n x : ℕ) → last < 2 ^ 16 → n < 2 ^ 16 → 2 ^ 15 ≤ distance16 last n
    → nat_lt (distance16 x last) (2 ^ 15 + max more (distance16 n last)) ≡ (nat_lt (distance16 x last) (2 ^ 15 + more) || at_or_before16 x n)
unfolding at_or_before16
in-behind last more n x a b far = ap (λ k. nat_lt (distance16 x last) (2 ^ 15 + max more k)) (distance-back last n a b far)
    ∙ behind-sums (distance16 x last) (distance16 x n) more (distance16 last n) (distance-small x last) far (distance-small last n) (distance-on x last n a)

-- of one number
pub in-one : (last x : ℕ) → is_in (record { last = last; more = 0 }) x ≡ at_or_before16 x last
unfolding at_or_before16
in-one last x = refl

pub one-abandoned : (last t : ℕ) (set : ChunkSet) → is_discarded (Some (record { last = last; more = 0 })) (Some t) set ≡ is_abandoned last t set
unfolding at_or_before16
one-abandoned last t set = refl

-- ## Sets

module _ (a b p : ChunkSet → Bool) (h : (s : ChunkSet) → p s ≡ (a s || b s)) where
  -- what neither skip takes is what the second leaves of what the first leaves
  left-by-both : (xs : List ChunkSet) → filter (λ s. not (p s)) xs ≡ filter (λ s. not (b s)) (filter (λ s. not (a s)) xs)
  left-by-both [] = refl
  left-by-both (x ∷ xs) = by (a x) (h x) (left-by-both xs)
    where
      kept : List ChunkSet
      kept = filter (λ s. not (a s)) xs

      by : (c : Bool) → p x ≡ (c || b x) → filter (λ s. not (p s)) xs ≡ filter (λ s. not (b s)) kept
          → (if not (p x) then x ∷ filter (λ s. not (p s)) xs else filter (λ s. not (p s)) xs)
          ≡ filter (λ s. not (b s)) (if not c then x ∷ kept else kept)
      by true e ih = ap (λ t. if not t then x ∷ filter (λ s. not (p s)) xs else filter (λ s. not (p s)) xs) e ∙ ih
      by false e ih = ap (λ t. if not t then x ∷ filter (λ s. not (p s)) xs else filter (λ s. not (p s)) xs) e ∙ ap (λ ys. if not (b x) then x ∷ ys else ys) ih

  -- and the bytes of what they take
  pub taken-by-both : (xs : List ChunkSet)
      → set_bytes (filter p xs) ≡ set_bytes (filter a xs) + set_bytes (filter b (filter (λ s. not (a s)) xs))
  taken-by-both xs =
      let all = skipped p xs in
      let first = skipped a xs in
      let second = skipped b (filter (λ s. not (a s)) xs) in
      let left = ap set_bytes (left-by-both xs) in
      omega (arith, all, first, second, left)

module _ (a p : ChunkSet → Bool) (h : (s : ChunkSet) → p s ≡ a s) where
  pub same-those : (xs : List ChunkSet) → filter p xs ≡ filter a xs
  same-those [] = refl
  same-those (x ∷ xs) = ap (λ t. if t then x ∷ filter p xs else filter p xs) (h x) ∙ ap (λ ys. if a x then x ∷ ys else ys) (same-those xs)

-- ## Skips

one-more : (before now incomplete : Bool) → (before || now) && incomplete ≡ (before && incomplete) || (now && incomplete)
one-more true now true = refl
one-more true true false = refl
one-more true false false = refl
one-more false now incomplete = refl

pub noted_more : (skips : OrderedSkips) (noted : OrderedSkips) (last : ℕ) (q : ReassemblyState)
    → skips.next_ssn ≡ (if at_or_before16 noted.next_ssn last then (last + 1) % 2 ^ 16 else noted.next_ssn)
    → ((x : ℕ) → is_in skips.passed x ≡ (is_in noted.passed x || at_or_before16 x last))
    → after_noted_skips skips q ≡ after_ordered_skip last (after_noted_skips noted q)
noted_more skips noted last q next within =
    let a = is_skipped noted.passed in
    let p = is_skipped skips.passed in
    let b = is_passed last in
    let xs = q.held.ordered in
    let h = λ (s : ChunkSet). ap (λ t. t && not (is_complete s.chunks)) (within s.ssn)
    ∙ one-more (is_in noted.passed s.ssn) (at_or_before16 s.ssn last) (not (is_complete s.chunks)) in
    let taken = taken-by-both a b p h xs in
    let bytes : q.bytes - set_bytes (filter p xs) ≡ (q.bytes - set_bytes (filter a xs)) - set_bytes (filter b (filter (λ s. not (a s)) xs)) =
    omega (arith, taken) in
    ap (λ n. state_of q.si n (filter (λ s. not (p s)) xs) q.held.unordered q.held.unassembled (q.bytes - set_bytes (filter p xs)) q.max_message_size q.places)
    next ∙ ap₂ (λ sets n. state_of q.si (if at_or_before16 noted.next_ssn last then (last + 1) % 2 ^ 16
    else noted.next_ssn) sets q.held.unordered q.held.unassembled n q.max_message_size q.places)
    (left-by-both a b p h xs) bytes

pub noted_first : (skips : OrderedSkips) (last : ℕ) (q : ReassemblyState)
    → skips.next_ssn ≡ (if at_or_before16 q.held.next_ssn last then (last + 1) % 2 ^ 16 else q.held.next_ssn)
    → ((x : ℕ) → is_in skips.passed x ≡ at_or_before16 x last)
    → after_noted_skips skips q ≡ after_ordered_skip last q
noted_first skips last q next within =
    let p = is_skipped skips.passed in
    let b = is_passed last in
    let xs = q.held.ordered in
    let h = λ (s : ChunkSet). ap (λ t. t && not (is_complete s.chunks)) (within s.ssn) in
    ap₂ (λ n sets. state_of q.si n sets q.held.unordered q.held.unassembled (q.bytes - set_bytes (filter p xs)) q.max_message_size q.places) next
    (same-those (λ s. not (b s)) (λ s. not (p s)) (λ s. ap not (h s)) xs)
    ∙ ap (λ ys. record (after_ordered_skip last q) { bytes = q.bytes - set_bytes ys }) (same-those b p h xs)

pub noted_counted : (skips : OrderedSkips) (q : ReassemblyState) → IsCounted q → IsCounted (after_noted_skips skips q)
noted_counted skips q h = omega (arith, h, skipped (is_skipped skips.passed) q.held.ordered)

pub noted_complete : (skips : OrderedSkips) (q : Reassembly) → complete_sets (held_after_noted_skips skips q) ≡ complete_sets q
noted_complete skips q = those_stay (λ s. is_complete s.chunks) (λ s. not (is_skipped skips.passed s))
    (λ s e. complete_not_passed (is_in skips.passed s.ssn) (is_complete s.chunks) e) q.ordered
