-- The lengths of pieces.
use Rattle.std.proofs.Common.{◌≡◌, ℕ, zero, suc, ◌+◌, ◌<◌, ◌≤◌, List, [], ◌∷◌, length, get_or, take, drop, refl, ap, arith, add-one, length-append}
use Rattle.sctp_util.specs.Kept.{numbers_where, always, total_over}
use Rattle.sctp_util.specs.Lists.{pieces}
use Rattle.sctp_util.proofs.Lines.{take-drop}
use Rattle.sctp_util.proofs.Totals.{total-kept_same}
use Rattle.sctp_util.proofs.Totals.{total-shift}

-- the lengths of lists, added
abbrev pub lengths : List (List ℕ) → ℕ
lengths [] = 0
lengths (x ∷ xs) = length x + lengths xs

pub lengths-pieces : (most size : ℕ) (bytes : List ℕ) → 0 < size → length bytes ≤ most → lengths (pieces most size bytes) ≡ length bytes
lengths-pieces zero size [] s le = refl
lengths-pieces zero size (x ∷ xs) s le = absurd (omega arith)
lengths-pieces (suc most) size [] s le = refl
lengths-pieces (suc most) zero (x ∷ xs) s le = absurd (omega arith)
lengths-pieces (suc most) (suc size) (x ∷ xs) s le =
    let cut = ap length (take-drop (suc size) (x ∷ xs)) in
    let whole = length-append (take (suc size) (x ∷ xs)) (drop (suc size) (x ∷ xs)) in
    let less : length (drop (suc size) (x ∷ xs)) ≤ most = shorter size xs most (omega arith) in
    omega (arith, lengths-pieces most (suc size) (drop (suc size) (x ∷ xs)) s less, cut, whole)
  where
    shorter : (i : ℕ) (xs : List ℕ) (most : ℕ) → length xs ≤ most → length (drop i xs) ≤ most
    shorter zero [] most le = le
    shorter zero (y ∷ ys) most le = le
    shorter (suc i) [] most le = le
    shorter (suc i) (y ∷ ys) most le = shorter i ys most (omega arith)

pub total-lengths : (xs : List (List ℕ)) → total_over (λ i. length (get_or xs i [])) (numbers_where always 0 (length xs)) ≡ lengths xs
total-lengths [] = refl
total-lengths (x ∷ xs) =
    let shift = total-shift (λ i. length (get_or (x ∷ xs) i [])) 0 (length xs) in
    let later = total-kept_same (λ i. length (get_or (x ∷ xs) (i + 1) [])) (λ i. length (get_or xs i [])) always 0 (length xs)
    (λ k a b. ap (λ j. length (get_or (x ∷ xs) j [])) (add-one k)) in
    omega (arith, shift, later, total-lengths xs)
