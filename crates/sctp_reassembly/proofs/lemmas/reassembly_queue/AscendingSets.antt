-- Fragments whose TSNs ascend are complete where their ends are those of a complete set.
use Rattle.std.proofs.Common.{◌≡◌, ℕ, zero, suc, ◌+◌, ◌-◌, ◌%◌, ◌^◌, ◌<◌, ◌≤◌, ◌==◌, ◌&&◌, true, List, [], ◌∷◌, length, map, get_or, ap, subst, ◌∙◌, inl, inr}
use Rattle.std.proofs.Common.{arith}
use Rattle.std.proofs.lemmas.Bool.Decides.{nat_tests}
use Rattle.std.proofs.lemmas.List.{get_or_default}
use Rattle.sctp_data.specs.declared.chunk.chunk_payload_data.ChunkPayloadData.{ChunkPayloadData}
use Rattle.sctp_util.specs.Serial.{distance}
use Rattle.sctp_util.proofs.Distances.{distance_cases}
use Rattle.sctp_serial.specs.Ascending.{IsAscending}
use Rattle.sctp_serial.specs.DataChunks.{following_tsn}
use Rattle.sctp_serial.proofs.lemmas.AscendingEdits.{Ascends, ascends, half, farther}
use Rattle.sctp_reassembly.specs.reassembly_queue.Fragments.{completes, is_complete}

-- each TSN follows the one before it, and the last ends
completes_by : (x : ChunkPayloadData) (ys : List ChunkPayloadData) (d : ChunkPayloadData)
    → ((k : ℕ) → k < length ys → (get_or (x ∷ ys) (suc k) d).tsn ≡ following_tsn (get_or (x ∷ ys) k d).tsn)
    → (get_or (x ∷ ys) (length ys) d).ending_fragment ≡ true → completes x ys ≡ true
completes_by x [] d r e = e
completes_by x (y ∷ ys) d r e =
    let s : y.tsn ≡ following_tsn x.tsn = r 0 (omega arith) in
    let next : (y.tsn == following_tsn x.tsn) ≡ true = grind (arith, nat_tests) in
    ap (λ b. b && completes y ys) next ∙ completes_by y ys d (λ k lt. r (suc k) (omega arith)) e

-- numbers at the distances k and k + 1 from another follow one another
next_to : (f a b k : ℕ) → f < 2 ^ 32 → a < 2 ^ 32 → b < 2 ^ 32 → distance f a ≡ k → distance f b ≡ k + 1 → b ≡ following_tsn a
next_to f a b k hf ha hb ea eb = elim (distance_cases f a hf ha) [
  | inl p ↦ elim (distance_cases f b hf hb) [ inl q ↦ omega arith | inr q ↦ omega arith ]
  | inr p ↦ elim (distance_cases f b hf hb) [ inl q ↦ omega arith | inr q ↦ omega arith ]
]

-- a number so many places further lies at that distance
far_is : (f l n : ℕ) → f < 2 ^ 32 → l < 2 ^ 32 → n < 2 ^ 31 → l ≡ (f + n % 2 ^ 32) % 2 ^ 32 → distance f l ≡ n
far_is f l n hf hl hn e = elim (distance_cases f l hf hl) [ inl p ↦ omega arith | inr p ↦ omega arith ]

module _ (xs : List ChunkPayloadData) (d : ChunkPayloadData) (s : Ascends (λ (c : ChunkPayloadData). c.tsn) xs) (some : 0 < length xs) where
  is_first : (e : ChunkPayloadData) → (get_or xs 0 e).tsn ≡ (get_or xs 0 d).tsn
  is_first e = ap (λ (x : ChunkPayloadData). x.tsn) (get_or_default xs 0 e d some)

  up : (i j : ℕ) → i < j → j < length xs → distance (get_or xs 0 d).tsn (get_or xs i d).tsn < distance (get_or xs 0 d).tsn (get_or xs j d).tsn
  up i j lt short = farther (λ (c : ChunkPayloadData). c.tsn) xs s (get_or xs 0 d).tsn is_first some i j d lt short

  near : (k : ℕ) → k < length xs → distance (get_or xs 0 d).tsn (get_or xs k d).tsn < 2 ^ 31
  near k lt = half (λ (c : ChunkPayloadData). c.tsn) xs s (get_or xs 0 d).tsn is_first some k d lt

  -- each lies at least as far as there are in front of it
  at_least : (k : ℕ) → k < length xs → k ≤ distance (get_or xs 0 d).tsn (get_or xs k d).tsn
  at_least zero lt = omega arith
  at_least (suc k) lt =
      let more = up k (suc k) (omega arith) lt in
      let below = at_least k (omega arith) in
      omega arith

  at_most : (j k : ℕ) → k + j < length xs → distance (get_or xs 0 d).tsn (get_or xs k d).tsn + j ≤ distance (get_or xs 0 d).tsn (get_or xs (k + j) d).tsn
  at_most zero k lt =
      subst (λ i. distance (get_or xs 0 d).tsn (get_or xs k d).tsn + 0 ≤ distance (get_or xs 0 d).tsn (get_or xs i d).tsn) {x = k} (omega arith) (omega arith)
  at_most (suc j) k lt =
      let more = up (k + j) (k + suc j) (omega arith) lt in
      let below = at_most j k (omega arith) in
      omega arith

  module _ (last : (get_or xs (length xs - 1) d).tsn ≡ ((get_or xs 0 d).tsn + (length xs - 1) % 2 ^ 32) % 2 ^ 32) where
    -- none is missing, so each lies exactly so far
    exact : (k : ℕ) → k < length xs → distance (get_or xs 0 d).tsn (get_or xs k d).tsn ≡ k
    exact k lt =
        let n = length xs - 1 in
        let short = near n (omega arith) in
        let long = at_least n (omega arith) in
        let end = far_is (get_or xs 0 d).tsn (get_or xs n d).tsn n (s.small 0 d some) (s.small n d (omega arith)) (omega arith) last in
        let low = at_least k lt in
        let high = subst (λ i. distance (get_or xs 0 d).tsn (get_or xs k d).tsn + (n - k)
        ≤ distance (get_or xs 0 d).tsn (get_or xs i d).tsn) {x = k + (n - k)} {y = n} (omega arith) (at_most (n - k) k (omega arith)) in
        omega arith

    follows : (k : ℕ) → suc k < length xs → (get_or xs (suc k) d).tsn ≡ following_tsn (get_or xs k d).tsn
    follows k lt = next_to (get_or xs 0 d).tsn (get_or xs k d).tsn (get_or xs (suc k) d).tsn k (s.small 0 d some) (s.small k d (omega arith))
        (s.small (suc k) d lt) (exact k (omega arith)) (let e = exact (suc k) lt in omega arith)

pub ascending_complete : (xs : List ChunkPayloadData) (d : ChunkPayloadData) → IsAscending (map (λ (c : ChunkPayloadData). c.tsn) xs) → 0 < length xs
    → (get_or xs 0 d).beginning_fragment ≡ true → (get_or xs (length xs - 1) d).ending_fragment ≡ true
    → (get_or xs (length xs - 1) d).tsn ≡ ((get_or xs 0 d).tsn + (length xs - 1) % 2 ^ 32) % 2 ^ 32 → is_complete xs ≡ true
ascending_complete [] d a some begins ends last = absurd (omega arith)
ascending_complete (x ∷ xs) d a some begins ends last =
    let s = ascends (λ (c : ChunkPayloadData). c.tsn) (x ∷ xs) a in
    let at : suc (length xs) - 1 ≡ length xs = omega arith in
    ap (λ b. b && completes x xs) begins
    ∙ completes_by x xs d (λ k lt. follows (x ∷ xs) d s some last k (omega arith)) (subst (λ i. (get_or (x ∷ xs) i d).ending_fragment ≡ true) at ends)
