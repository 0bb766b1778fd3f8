-- The filter of TSNs: an arrival, and a skip.
use Rattle.sctp_model.proofs.Names.{◌≡◌, ℕ, ◌+◌, ◌-◌, ◌<◌, ◌≤◌, ◌%◌, ◌^◌, Bool, true, false, length, map, refl, ap, sym, ◌∙◌, arith, ◌⊎◌, nat_lt, not, ◌&&◌}
use Rattle.sctp_model.proofs.Names.{cases_lt, lt-ltb, le-ltb, nat_tests, filter, numbers_where, unbroken, insert_before, advance_over, seen_of, comes_before}
use Rattle.sctp_model.proofs.Names.{at_or_before, unbroken-passes, unbroken-on, map-kept-inserted, kept-same, kept-skip, tsn_differ, tsn_same, comes_before-tsn}
use Rattle.sctp_model.proofs.Names.{tsn, LinkRecord, tsn_of, arrived_at, cumulative, those-kept, at_or_before-tsn}
use Rattle.sctp_util.specs.Lists.{Seen}
use Rattle.sctp_util.proofs.Passing.{IsRound, advanced-kept}
use Rattle.sctp_model.proofs.refinement.arriving.Arrival
use Rattle.sctp_model.proofs.refinement.arriving.Arrival.{with_arrived}
use Rattle.sctp_model.proofs.receiver.Arrivals.{cumulative-le}

ap2 : {A B C : Type 0} (f : A → B → C) {x y : A} {u v : B} → x ≡ y → u ≡ v → f x u ≡ f y v
ap2 f e h = rw (e, h) refl

-- the TSN of the last of so many slots
abbrev pub tsn_before : ℕ → ℕ → ℕ
tsn_before first k = (first + (2 ^ 32 - 1) + k) % 2 ^ 32

pub is_round : (first low high : ℕ) → high < low + 2 ^ 32 → IsRound (tsn first) (tsn_before first) low high
is_round first low high short = grind (arith, nat_tests, tsn_differ, tsn_same)

abbrev seen_with : LinkRecord → ℕ → ℕ → Seen
seen_with w c count = record { cum = tsn_before w.setup.first c; held = map (tsn w.setup.first) (numbers_where (arrived_at w) c count) }

-- the cumulative count, from any count on up to which all arrived or are skipped
pub cumulative-from : (w : LinkRecord) (c : ℕ) → w.skipped ≤ c → c ≤ length w.slots → ((k : ℕ) → w.skipped ≤ k → k < c → arrived_at w k ≡ true)
    → cumulative w ≡ c + unbroken (arrived_at w) c (length w.slots - c)
cumulative-from w c low high datagram_received =
    let e = unbroken-on (arrived_at w) w.skipped (c - w.skipped) (length w.slots - c) (length w.slots - w.skipped) c (omega arith)
    (omega arith) datagram_received in
    omega (arith, e)

pub filter-arrived : (w : LinkRecord) (p : ℕ) → w.skipped ≤ length w.slots → length w.slots < 2 ^ 31 → p < length w.slots → cumulative w ≤ p
    → arrived_at w p ≡ false → seen_of (with_arrived w p) ≡ advance_over (seen_of w).cum (insert_before comes_before (tsn_of w p) (seen_of w).held)
filter-arrived w p made short lt small new =
    let after = with_arrived w p in
    let c = cumulative w in
    let count = length w.slots - c in
    let u = unbroken (arrived_at after) c count in
    let top = cumulative-le w made in
    let put = map-kept-inserted (tsn w.setup.first) comes_before (arrived_at w)
    (arrived_at after) p c count new (Arrival.arrived-here w p lt) small (omega arith) (λ k a b ne. sym (Arrival.arrived-other w p k ne))
    (λ k a b ne pass. comes_before-tsn w.setup.first p k (omega arith) (omega arith) (λ e. ne (sym e))) in
    let moved = advanced-kept (tsn w.setup.first) (tsn_before w.setup.first) (arrived_at after) c count (is_round w.setup.first c (c + count) (omega arith)) in
    let front : cumulative after ≡ c + unbroken (arrived_at after) c (length after.slots - c) = cumulative-from after c (omega arith)
    (omega (arith, Arrival.count-arrived w p, top))
    (λ k a b. Arrival.arrived-other w p k (λ e. omega arith) ∙ unbroken-passes (arrived_at w) w.skipped (length w.slots - w.skipped) k a (omega arith)) in
    let cum' : cumulative after ≡ c + u = front ∙ ap (λ l. c + unbroken (arrived_at after) c (l - c)) (Arrival.count-arrived w p) in
    let count' : length after.slots - cumulative after ≡ count - u = omega (arith, Arrival.count-arrived w p, cum') in
    cc (ap2 (seen_with after) cum' count', moved, put)

-- ## A skip

abbrev pub skipped_to : LinkRecord → ℕ → LinkRecord
skipped_to w upto = record w { skipped = upto + 1 }

-- what is held past the slot stays, and the filter moves on from there
pub filter-skipped : (w : LinkRecord) (upto : ℕ) → length w.slots < 2 ^ 31 → upto < length w.slots → cumulative w ≤ upto
    → seen_of (skipped_to w upto) ≡ advance_over (tsn_of w upto) (filter (λ t. not (at_or_before t (tsn_of w upto))) (seen_of w).held)
filter-skipped w upto short lt counts =
    let after = skipped_to w upto in
    let f = tsn w.setup.first in
    let from = upto + 1 in
    let count = length w.slots - from in
    let u = unbroken (arrived_at w) from count in
    let c = cumulative w in
    let moved = advanced-kept f (tsn_before w.setup.first) (arrived_at w) from count (is_round w.setup.first from (from + count) (omega arith)) in
    let cum' : cumulative after ≡ from + u = refl in
    let count' : length w.slots - cumulative after ≡ count - u = omega arith in
    let start : tsn_before w.setup.first from ≡ f upto = omega arith in
    let past : ℕ → Bool = λ k. nat_lt upto k && arrived_at w k in
    let stay : map f (numbers_where past c (length w.slots - c)) ≡ filter (λ t. not (at_or_before t (f upto)))
    (map f (numbers_where (arrived_at w) c (length w.slots - c))) = those-kept (λ t. not (at_or_before t (f upto))) f f (arrived_at w) past c
    (length w.slots - c) (λ k a b. after_it k (omega arith) (cases_lt upto k)) (λ k a b e. refl) in
    let cut : numbers_where past c (length w.slots - c) ≡ numbers_where past from (c + (length w.slots - c) - from) =
    kept-skip past c (length w.slots - c) from (omega arith) (omega arith) (λ j a b. low j (omega arith)) in
    let size : c + (length w.slots - c) - from ≡ count = omega arith in
    let same : numbers_where past from count ≡ numbers_where (arrived_at w) from count =
    kept-same past (arrived_at w) from count (λ k a b. high k (omega arith)) in
    cc (ap2 (seen_with after) cum' count', moved, ap2 advance_over start (ap (map f) (sym (cut ∙ ap (numbers_where past from) size ∙ same)) ∙ stay))
  where
    after_it : (k : ℕ) → k < length w.slots → (upto < k) ⊎ (k ≤ upto)
        → (nat_lt upto k && arrived_at w k) ≡ (arrived_at w k && not (at_or_before (tsn w.setup.first k) (tsn w.setup.first upto)))
    after_it k b c = grind (arith, nat_tests, at_or_before-tsn)

    low : (j : ℕ) → j < upto + 1 → (nat_lt upto j && arrived_at w j) ≡ false
    low j l = rw (le-ltb upto j (omega arith)) refl

    high : (k : ℕ) → upto < k → (nat_lt upto k && arrived_at w k) ≡ arrived_at w k
    high k l = rw (lt-ltb upto k l) refl
