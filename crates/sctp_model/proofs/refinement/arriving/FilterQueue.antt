-- The queue that filters TSNs, against the record: what it tells new, where it puts it, and how its front moves.
use Rattle.sctp_model.proofs.Names.{◌≡◌, ℕ, zero, suc, ◌+◌, ◌-◌, ◌<◌, ◌≤◌, ◌^◌, Bool, true, false, List, [], ◌∷◌, length, map, refl, ap, sym, ◌∙◌, inl, inr}
use Rattle.sctp_model.proofs.Names.{arith, ◌⊎◌, ◌==◌, ◌&&◌, not, nat_le, nat_lt, min, list_any, cases_lt, nat_tests, numbers_where, kept-same, kept-short}
use Rattle.sctp_model.proofs.Names.{those-kept, tsn, tsn_differ, tsn_same, ChunkPayloadData, tsns, gap_offsets, LinkRecord, tsn_of, arrived_at, cumulative}
use Rattle.sctp_model.proofs.Names.{is_new, distances, seen_of, and-none, and-true}
use Rattle.sctp_util.specs.Serial.{distance, at_or_before}
use Rattle.sctp_util.proofs.Passing.{any-kept}
use Rattle.sctp_serial.specs.Window
use Rattle.sctp_serial.specs.Window.{is_held}
use Rattle.sctp_outbound.specs.payload_queue.Blocks.{is_offset}
use Rattle.sctp_model.proofs.refinement.arriving.Filter.{tsn_before}
use Rattle.sctp_model.proofs.receiver.Arrivals.{cumulative-le}
use Rattle.sctp_serial.proofs.lemmas.Serials.{held-any}

-- ## Distances from the cumulative TSN

ahead : (first c k : ℕ) → c ≤ k → k < 2 ^ 31 → distance (tsn_before first c) (tsn first k) ≡ k + 1 - c
unfolding distance
ahead first c k le lt = omega arith

behind : (first c k : ℕ) → c < 2 ^ 31 → k < c → distance (tsn first k) (tsn_before first c) ≡ c - 1 - k
unfolding distance
behind first c k lt less = omega arith

beyond : (first c k : ℕ) → c ≤ k → k < 2 ^ 31 → distance (tsn first k) (tsn_before first c) ≡ 2 ^ 32 + c - 1 - k
unfolding distance
beyond first c k le lt = omega arith

-- a slot is at or before the cumulative ones exactly where it is one of them
pub at_or_before-cumulative : (first c k : ℕ) → c < 2 ^ 31 → k < 2 ^ 31 → at_or_before (tsn first k) (tsn_before first c) ≡ nat_lt k c
unfolding at_or_before
at_or_before-cumulative first c k short lt = grind (arith, nat_tests, behind, beyond)

-- ## Windows

module _ (w : LinkRecord) (cs : List ChunkPayloadData) (made : w.skipped ≤ length w.slots) (few : length w.slots < 2 ^ 31)
    (held : tsns cs ≡ (seen_of w).held) where
  abbrev c : ℕ
  c = cumulative w

  top : cumulative w ≤ length w.slots
  top = cumulative-le w made

  -- the queue tells new what the record does
  pub new-is : (p : ℕ) → p < length w.slots → Window.is_new cs (tsn_of w p) (seen_of w).cum ≡ is_new w p
  new-is p lt = step (cases_lt p c)
    where
      before : nat_lt p c ≡ at_or_before (tsn_of w p) (seen_of w).cum
      before = sym (at_or_before-cumulative w.setup.first c p (omega (arith, top)) (omega arith))

      gone : (b : Bool) → (not b && false) ≡ false
      gone true = refl
      gone false = refl

      swapped : (b : Bool) → (not b && true) ≡ not b
      swapped true = refl
      swapped false = refl

      differ : (k : ℕ) → k < length w.slots → (k ≡ p → ⊥) → (k < p) ⊎ (p ≤ k) → (tsn w.setup.first k == tsn w.setup.first p) ≡ false
      differ k lk ne b = grind (arith, nat_tests, tsn_differ)

      step : (p < c) ⊎ (c ≤ p) → (not (is_held cs (tsn_of w p)) && not (at_or_before (tsn_of w p) (seen_of w).cum)) ≡ (nat_le c p && not (arrived_at w p))
      step (inl l) =
          let yes : at_or_before (tsn_of w p) (seen_of w).cum ≡ true = sym before ∙ (grind (arith, nat_tests)) in
          let nay : nat_le c p ≡ false = grind (arith, nat_tests) in
          rw (yes, nay) (gone (is_held cs (tsn_of w p)))
      step (inr g) =
          let nay : at_or_before (tsn_of w p) (seen_of w).cum ≡ false = sym before ∙ (grind (arith, nat_tests)) in
          let yes : nat_le c p ≡ true = grind (arith, nat_tests) in
          let same : is_held cs (tsn_of w p) ≡ arrived_at w p = held-any (tsn_of w p) cs ∙ ap (list_any (λ u. u == tsn_of w p)) held
          ∙ any-kept (tsn w.setup.first) (arrived_at w) p c (length w.slots - c) g (omega arith)
          (λ k a b ne. differ k (omega (arith, top)) ne (cases_lt k p)) (tsn_same w.setup.first p) in
          rw (nay, yes, same) (swapped (arrived_at w p))

  -- ## Gap blocks

  shifted : (p : ℕ → Bool) (b from count : ℕ) → b ≤ from
      → map (λ k. k + 1 - b) (numbers_where p from count) ≡ numbers_where (λ d. p (b + d - 1)) (from + 1 - b) count
  shifted p b from zero le = refl
  shifted p b from (suc count) le = grind (arith, nat_tests, shifted p b (from + 1) count)

  map-twice : {A : Type 0} (f : ℕ → ℕ) (g : A → ℕ) (xs : List A) → map (λ x. f (g x)) xs ≡ map f (map g xs)
  map-twice f g [] = refl
  map-twice f g (x ∷ xs) = ap (λ l. f (g x) ∷ l) (map-twice f g xs)

  map-numbers : (f : ℕ → ℕ) (g : ℕ → ℕ) (xs : List ℕ) → map f (map g xs) ≡ map (λ k. f (g k)) xs
  map-numbers f g [] = refl
  map-numbers f g (x ∷ xs) = ap (λ l. f (g x) ∷ l) (map-numbers f g xs)

  -- the queue's distances are the record's, so the blocks that they make are too
  pub distances-is : gap_offsets (seen_of w).cum cs ≡ distances w
  distances-is =
      let count = length w.slots - c in
      let all : map (λ x. distance (seen_of w).cum x.tsn) cs ≡ map (λ k. distance (seen_of w).cum (tsn w.setup.first k))
      (numbers_where (arrived_at w) c count) = map-twice (distance (seen_of w).cum) (λ x. x.tsn) cs ∙ ap (map (distance (seen_of w).cum)) held
      ∙ map-numbers (distance (seen_of w).cum) (tsn w.setup.first) (numbers_where (arrived_at w) c count) in
      cc (
        all,
        those-kept is_offset (λ k. distance (seen_of w).cum (tsn w.setup.first k)) (λ k. k + 1 - c) (arrived_at w) (λ k. arrived_at w k
            && is_offset (k + 1 - c)) c count (λ k a b. ap (λ d. arrived_at w k && is_offset d) (sym (ahead w.setup.first c k a (omega (arith, top)))))
            (λ k a b e. sym (ahead w.setup.first c k a (omega (arith, top)))),
        shifted (λ k. arrived_at w k && is_offset (k + 1 - c)) c c count (omega arith),
        (let one : c + 1 - c ≡ 1 = omega arith in one),
        cut (cases_lt 65535 count),
      )
    where
      at : (d : ℕ) → 1 ≤ d → (arrived_at w (c + d - 1) && is_offset (c + d - 1 + 1 - c)) ≡ (arrived_at w (c + d - 1) && is_offset d)
      at d le = ap (λ x. arrived_at w (c + d - 1) && is_offset x) (let e : c + d - 1 + 1 - c ≡ d = omega arith in e)

      small : (d : ℕ) → 1 ≤ d → d < 65536 → (arrived_at w (c + d - 1) && is_offset (c + d - 1 + 1 - c)) ≡ arrived_at w (c + d - 1)
      small d le lt = cc (at d le, (let e : is_offset d ≡ true = grind (arith, nat_tests) in e), and-true (arrived_at w (c + d - 1)))

      large : (d : ℕ) → 65536 ≤ d → (arrived_at w (c + d - 1) && is_offset (c + d - 1 + 1 - c)) ≡ false
      large d le = cc (at d (omega arith), (let e : is_offset d ≡ false = grind (arith, nat_tests) in e), and-none (arrived_at w (c + d - 1)))

      cut : (65535 < length w.slots - c) ⊎ (length w.slots - c ≤ 65535) → numbers_where (λ d. arrived_at w (c + d - 1) && is_offset (c + d - 1 + 1 - c)) 1
          (length w.slots - c) ≡ numbers_where (λ d. arrived_at w (c + d - 1)) 1 (min 65535 (length w.slots - c))
      cut (inl l) = cc (
        kept-short (λ d. arrived_at w (c + d - 1) && is_offset (c + d - 1 + 1 - c)) 1 65535 (length w.slots - c - 65535) (length w.slots - c) (omega arith)
            (λ d a b. large d (omega arith)),
        kept-same (λ d. arrived_at w (c + d - 1) && is_offset (c + d - 1 + 1 - c))
            (λ d. arrived_at w (c + d - 1)) 1 65535 (λ d a b. small d (omega arith) (omega arith)),
        (let e : 65535 ≡ min 65535 (length w.slots - c) = omega arith in e),
      )
      cut (inr g) = grind (arith, nat_tests, kept-same)
