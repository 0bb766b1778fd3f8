-- Which chunks a TSN passes.
use Rattle.std.proofs.Common.{◌≡◌, ◌+◌, ◌-◌, ◌^◌, ◌<◌, ◌≤◌, ℕ, zero, suc, true, false, not, if◌then◌else◌, List, [], ◌∷◌, length, get_or}
use Rattle.std.proofs.Common.{inl, inr, refl, ap, subst, arith}
use Rattle.std.specs.List.{remove}
use Rattle.std.proofs.lemmas.Bool.{cases_lt}
use Rattle.std.proofs.lemmas.Bool.Decides.{nat_tests}
use Rattle.sctp_data.specs.declared.chunk.chunk_payload_data.ChunkPayloadData.{ChunkPayloadData}
use Rattle.sctp_util.specs.Serial.{distance, at_or_before}
use Rattle.sctp_util.proofs.Edits.{those-none}
use Rattle.sctp_util.proofs.Distances.{distance_cases, before_is, distance_by_before}
use Rattle.sctp_serial.specs.Window.{IsSerial}
use Rattle.sctp_serial.proofs.lemmas.AscendingEdits.{distance_self}
use Rattle.sctp_outbound.specs.payload_queue.PayloadQueue.{FirstStays, past}

not_within : (a b : ℕ) → at_or_before a b ≡ false → 2 ^ 31 ≤ distance a b
unfolding at_or_before
not_within a b h = grind (arith, nat_tests)

out_of_reach : (a b : ℕ) → 2 ^ 31 ≤ distance a b → at_or_before a b ≡ false
unfolding at_or_before
out_of_reach a b h = grind (arith, nat_tests)

-- a number that is no farther than the TSN lies on the way to it
on_the_way : (x y t : ℕ) → x < 2 ^ 32 → y < 2 ^ 32 → t < 2 ^ 32 → distance x y ≤ distance x t → distance x y + distance y t ≡ distance x t
on_the_way x y t hx hy ht le = elim (distance_cases x y hx hy) [
  | inl p ↦ elim (distance_cases x t hx ht) [
    | inl q ↦ elim (distance_cases y t hy ht) [ inl r ↦ omega arith | inr r ↦ omega arith ]
    | inr q ↦ elim (distance_cases y t hy ht) [ inl r ↦ omega arith | inr r ↦ omega arith ]
  ]
  | inr p ↦ elim (distance_cases x t hx ht) [
    | inl q ↦ elim (distance_cases y t hy ht) [ inl r ↦ omega arith | inr r ↦ omega arith ]
    | inr q ↦ elim (distance_cases y t hy ht) [ inl r ↦ omega arith | inr r ↦ omega arith ]
  ]
]

module _ (xs : List ChunkPayloadData) (serial : IsSerial xs) (d : ChunkPayloadData) where
  -- a later chunk lies less than half a circle after an earlier one
  ahead : (i k : ℕ) → i ≤ k → k < length xs → distance (get_or xs i d).tsn (get_or xs k d).tsn < 2 ^ 31
  ahead i k le short = elim (cases_lt i k) [
    | inl later ↦ (before_is (get_or xs i d).tsn (get_or xs k d).tsn (serial.ascending i k d later short)).1
    | inr same ↦ subst (λ j. distance (get_or xs i d).tsn (get_or xs j d).tsn < 2 ^ 31) {x = i} (omega arith)
        (let none = distance_self (get_or xs i d).tsn (serial.in_range i d (omega arith)) in omega arith)
  ]

  -- and no farther than a still later one
  no_farther : (i k l : ℕ) → i ≤ k → k ≤ l → l < length xs → distance (get_or xs i d).tsn (get_or xs k d).tsn ≤ distance (get_or xs i d).tsn (get_or xs l d).tsn
  no_farther i k l le more short = elim (cases_lt i k) [
    | inl later ↦ elim (cases_lt k l) [
      | inl last ↦
          let p = before_is (get_or xs i d).tsn (get_or xs k d).tsn (serial.ascending i k d later (omega arith)) in
          let q = before_is (get_or xs i d).tsn (get_or xs l d).tsn (serial.ascending i l d (omega arith) short) in
          let lt = distance_by_before (get_or xs i d).tsn (get_or xs k d).tsn (get_or xs l d).tsn (serial.in_range i d (omega arith))
          (serial.in_range k d (omega arith)) (serial.in_range l d short)
          p.0 (omega (arith, p)) q.0 (omega (arith, q)) (serial.ascending k l d last short) in
          omega (arith, lt)
      | inr same ↦
          subst (λ j. distance (get_or xs i d).tsn (get_or xs k d).tsn ≤ distance (get_or xs i d).tsn (get_or xs j d).tsn) {x = k} (omega arith) (omega arith)
    ]
    | inr same ↦ subst (λ j. distance (get_or xs i d).tsn (get_or xs j d).tsn ≤ distance (get_or xs i d).tsn (get_or xs l d).tsn) {x = i} (omega arith)
        (let none = distance_self (get_or xs i d).tsn (serial.in_range i d (omega arith)) in omega arith)
  ]

module _ (tsn : ℕ) (xs : List ChunkPayloadData) (fits : tsn < 2 ^ 32) (serial : IsSerial xs) where
  -- where neither a chunk nor the last is passed, none from the one to the other is
  pub none_passed : (i : ℕ) (d : ChunkPayloadData) → i < length xs → at_or_before (get_or xs i d).tsn tsn ≡ false
      → at_or_before (get_or xs (length xs - 1) d).tsn tsn ≡ false → (k : ℕ) → i ≤ k → k < length xs → at_or_before (get_or xs k d).tsn tsn ≡ false
  none_passed i d lt first last k le short =
      let x = (get_or xs i d).tsn in
      let y = (get_or xs k d).tsn in
      let z = (get_or xs (length xs - 1) d).tsn in
      let hx = serial.in_range i d lt in
      let near = ahead xs serial d i (length xs - 1) (omega arith) (omega arith) in
      let order = no_farther xs serial d i k (length xs - 1) le (omega arith) (omega arith) in
      let far = not_within x tsn first in
      let zs = on_the_way x z tsn hx (serial.in_range (length xs - 1) d (omega arith)) fits (omega (arith, near, far)) in
      let ys = on_the_way x y tsn hx (serial.in_range k d short) fits (omega (arith, near, far, order)) in
      let farther = not_within z tsn last in
      out_of_reach y tsn (omega (arith, zs, ys, order, farther))

  -- so all stay
  pub all_stay : 0 < length xs → ((d : ChunkPayloadData) → at_or_before (get_or xs 0 d).tsn tsn ≡ false)
      → ((d : ChunkPayloadData) → at_or_before (get_or xs (length xs - 1) d).tsn tsn ≡ false) → past tsn xs ≡ xs
  all_stay some first last = those-none (λ (c : ChunkPayloadData). at_or_before c.tsn tsn) xs
      (λ k d short. none_passed 0 d some (first d) (last d) k (omega arith) short)

-- one that is passed is not among the rest
pub without_passed : (tsn : ℕ) (xs : List ChunkPayloadData) (i : ℕ) (d : ChunkPayloadData) → i < length xs → at_or_before (get_or xs i d).tsn tsn ≡ true
    → past tsn (remove xs i) ≡ past tsn xs
without_passed tsn [] i d lt h = absurd (omega arith)
without_passed tsn (x ∷ xs) zero d lt h = rw h refl
without_passed tsn (x ∷ xs) (suc i) d lt h =
    ap (λ ys. if not (at_or_before x.tsn tsn) then x ∷ ys else ys) (without_passed tsn xs i d (omega arith) h)

-- the first stays where a later one goes
pub same_first : (xs : List ChunkPayloadData) (i : ℕ) (d : ChunkPayloadData) → 0 < i → get_or (remove xs i) 0 d ≡ get_or xs 0 d
same_first xs zero d lt = absurd (omega arith)
same_first [] (suc i) d lt = refl
same_first (x ∷ xs) (suc i) d lt = refl

-- where there is no other, all stay
pub one_stays : (tsn : ℕ) (xs : List ChunkPayloadData) → length xs ≤ 1 → FirstStays tsn xs → past tsn xs ≡ xs
one_stays tsn [] le h = refl
one_stays tsn (x ∷ []) le h = rw (h (omega arith) x) refl
one_stays tsn (x ∷ y ∷ ys) le h = absurd (omega arith)
