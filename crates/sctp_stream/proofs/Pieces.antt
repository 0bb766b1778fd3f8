-- A list cut into pieces of one size.
use Rattle.std.proofs.Common.{◌≡◌, ℕ, zero, suc, ◌+◌, ◌-◌, ◌*◌, ◌/◌, ◌%◌, ◌<◌, ◌≤◌, ◌==◌, min, List, [], ◌∷◌, length, get_or, take, drop, length-drop, refl}
use Rattle.std.proofs.Common.{sym, ap, ◌∙◌, inl, inr, arith}
use Rattle.std.proofs.Math.Nat.{suc-mul}
use Rattle.std.proofs.lemmas.Nat.{div-add-mod', mod_below}
use Rattle.std.proofs.lemmas.Bool.{cases_lt}
use Rattle.std.proofs.lemmas.Bool.Decides.{nat_tests}
use Rattle.std.proofs.lemmas.List.{drop-drop, take_all}
use Rattle.sctp_util.specs.Lists.{pieces}
use Rattle.sctp_util.proofs.More.{same_test}

-- where the list goes on, there is a piece
pub piece_below : (most size : ℕ) (xs : List ℕ) (i : ℕ) → length xs ≤ most → 0 < size → i * size < length xs → i < length (pieces most size xs)
piece_below zero size xs i le pos lt = absurd (omega arith)
piece_below (suc most) size [] i le pos lt = absurd (omega arith)
piece_below (suc most) size (x ∷ xs) zero le pos lt = omega arith
piece_below (suc most) size (x ∷ xs) (suc i) le pos lt =
    let len = length-drop size (x ∷ xs) in
    let next = suc-mul i size in
    let rec = piece_below most size (drop size (x ∷ xs)) i (omega arith) pos (omega arith) in
    omega arith

-- where it has ended, there is none
pub piece_none : (most size : ℕ) (xs : List ℕ) (i : ℕ) → length xs ≤ most → 0 < size → length xs ≤ i * size → length (pieces most size xs) ≤ i
piece_none zero size xs i le pos end = omega arith
piece_none (suc most) size [] i le pos end = omega arith
piece_none (suc most) size (x ∷ xs) zero le pos end = absurd (omega arith)
piece_none (suc most) size (x ∷ xs) (suc i) le pos end =
    let len = length-drop size (x ∷ xs) in
    let next = suc-mul i size in
    let rec = piece_none most size (drop size (x ∷ xs)) i (omega arith) pos (omega arith) in
    omega arith

-- the piece itself
pub piece_at : (most size : ℕ) (xs : List ℕ) (i : ℕ) → length xs ≤ most → 0 < size → i * size < length xs
    → get_or (pieces most size xs) i [] ≡ take size (drop (i * size) xs)
piece_at zero size xs i le pos lt = absurd (omega arith)
piece_at (suc most) size [] i le pos lt = absurd (omega arith)
piece_at (suc most) size (x ∷ xs) zero le pos lt = ap (λ k. take size (drop k (x ∷ xs))) {x = 0} {y = zero * size} (omega arith)
piece_at (suc most) size (x ∷ xs) (suc i) le pos lt =
    let len = length-drop size (x ∷ xs) in
    let next = suc-mul i size in
    piece_at most size (drop size (x ∷ xs)) i (omega arith) pos (omega arith)
    ∙ ap (take size) (drop-drop (i * size) size (x ∷ xs))
    ∙ ap (λ k. take size (drop k (x ∷ xs))) {x = size + i * size} {y = suc i * size} (omega arith)

module _ (size : ℕ) (xs : List ℕ) (k at : ℕ) (pos : 0 < size) (place : at ≡ k * size) (lt : at < length xs) where
  no_count : (j : ℕ) → j * size ≡ 0 → j ≡ 0
  no_count zero e = refl
  no_count (suc j) e = let next = suc-mul j size in absurd (omega arith)

  -- the first piece stands at the beginning
  pub begins : (at == 0) ≡ (k == 0)
  begins = same_test (at == 0) (k == 0)
      (λ t. let zero_at : at ≡ 0 = grind (arith, nat_tests) in let zero_k = no_count k (sym place ∙ zero_at) in grind (arith, nat_tests))
      (λ t. let zero_k : k ≡ 0 = grind (arith, nat_tests) in let zero_at : at ≡ 0 = place ∙ ap (λ j. j * size) zero_k ∙ omega arith in grind (arith, nat_tests))

  beyond : {n : ℕ} → suc k < n → k + 1 ≡ n → ⊥
  beyond lt' e = omega arith

  -- the last one reaches the end
  pub ends : (end : ℕ) → end ≡ at + min size (length xs - at) → (end == length xs) ≡ (k + 1 == length (pieces (length xs) size xs))
  ends end e =
      let next = suc-mul k size in
      let here = piece_below (length xs) size xs k (omega arith) pos (omega arith) in
      same_test (end == length xs) (k + 1 == length (pieces (length xs) size xs))
      (λ t. let same : end ≡ length xs = grind (arith, nat_tests) in
      let none = piece_none (length xs) size xs (suc k) (omega arith) pos (omega arith) in
      grind (arith, nat_tests))
      (λ t. let same : k + 1 ≡ length (pieces (length xs) size xs) = grind (arith, nat_tests) in
      let over : length xs ≤ suc k * size = elim (cases_lt (suc k * size)
      (length xs)) [ inl more ↦ absurd (beyond (piece_below (length xs) size xs (suc k) (omega arith) pos more) same) | inr le ↦ le ] in
      grind (arith, nat_tests))

  -- the bytes up to the next place
  pub slice_is : (n : ℕ) → n ≡ min size (length xs - at) → take n (drop at xs) ≡ get_or (pieces (length xs) size xs) k []
  slice_is n e =
      let len = length-drop at xs in
      elim (cases_lt (length xs - at) size) [
        | inl short ↦ take_all n (drop at xs) (omega arith) ∙ sym (take_all size (drop at xs) (omega arith))
        | inr long ↦ ap (λ i. take i (drop at xs)) {x = n} {y = size} (omega arith)
      ]
      ∙ ap (λ i. take size (drop i xs)) place
      ∙ sym (piece_at (length xs) size xs k (omega arith) pos (omega arith))

-- the count of pieces, from the size of the list
count_is : (size : ℕ) (xs : List ℕ) (k : ℕ) → 0 < size → length xs ≤ k * size → ((j : ℕ) → k ≡ suc j → j * size < length xs)
    → k ≡ length (pieces (length xs) size xs)
count_is size xs zero pos end more = let none = piece_none (length xs) size xs 0 (omega arith) pos end in omega arith
count_is size xs (suc j) pos end more =
    let none = piece_none (length xs) size xs (suc j) (omega arith) pos end in
    let some = piece_below (length xs) size xs j (omega arith) pos (more j refl) in
    omega arith

pub count_whole : (len size : ℕ) (xs : List ℕ) → 0 < size → len ≡ length xs → len % size ≡ 0 → len / size ≡ length (pieces (length xs) size xs)
count_whole len size xs pos e even =
    let whole = div-add-mod' len size in
    count_is size xs (len / size) pos (omega arith)
    (λ j is. let next = suc-mul j size in let last : len / size * size ≡ suc j * size = ap (λ k. k * size) is in omega arith)

pub count_more : (len size : ℕ) (xs : List ℕ) → 0 < size → len ≡ length xs → (len % size ≡ 0 → ⊥) → len / size + 1 ≡ length (pieces (length xs) size xs)
count_more len size xs pos e odd =
    let whole = div-add-mod' len size in
    let short = mod_below len size pos in
    let next = suc-mul (len / size) size in
    let one : len / size + 1 ≡ suc (len / size) = omega arith in
    one ∙ count_is size xs (suc (len / size)) pos (omega arith)
    (λ j is. let same : len / size ≡ j = omega arith in let last : len / size * size ≡ j * size = ap (λ k. k * size) same in omega arith)
