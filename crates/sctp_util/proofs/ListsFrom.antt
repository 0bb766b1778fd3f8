-- Lists of lists, from a place on.
use Rattle.std.proofs.Common.{◌≡◌, ℕ, zero, suc, ◌+◌, ◌<◌, ◌≤◌, List, [], ◌∷◌, ◌++◌, length, length-append, get_or, set, take, drop, refl, sym, ap, ◌∙◌}
use Rattle.std.proofs.Common.{append_assoc, arith}
use Rattle.std.specs.List.{concat}
use Rattle.std.proofs.lemmas.List.{drop_more, take-append-drop, nil_from_length}

-- a later part is no longer
shorter : (xss : List (List ℕ)) (i : ℕ) → length (concat (drop i xss)) ≤ length (concat xss)
shorter [] i = omega (arith, ap (λ (yss : List (List ℕ)). length (concat yss)) (drop_nil i))
  where
    drop_nil : (k : ℕ) → drop k (let e : List (List ℕ) = [] in e) ≡ []
    drop_nil zero = refl
    drop_nil (suc k) = refl
shorter (xs ∷ xss) zero = omega arith
shorter (xs ∷ xss) (suc i) = omega (arith, shorter xss i, length-append xs (concat xss))

-- from a place on where only empty lists stand before the changed one
pub concat-set : (xss : List (List ℕ)) (from place : ℕ) (v : List ℕ) → from ≤ place → place < length xss → concat (drop place xss) ≡ concat (drop from xss)
    → concat (drop from (set xss place v)) ≡ v ++ concat (drop (suc place) xss)
concat-set [] from place v le lt e = absurd (omega arith)
concat-set (xs ∷ xss) zero zero v le lt e = refl
concat-set (xs ∷ xss) zero (suc place) v le lt e =
    let len = ap length e in
    let whole = length-append xs (concat xss) in
    let rest = shorter xss place in
    let none : xs ≡ [] = nil_from_length xs (omega arith) in
    ap (λ ys. ys ++ concat (set xss place v)) none ∙ concat-set xss 0 place v (omega arith) (omega arith) (e ∙ ap (λ ys. ys ++ concat xss) none)
concat-set (xs ∷ xss) (suc from) zero v le lt e = absurd (omega arith)
concat-set (xs ∷ xss) (suc from) (suc place) v le lt e = concat-set xss from place v (omega arith) (omega arith) e

-- what stands behind stays
pub drop-set : (xss : List (List ℕ)) (place : ℕ) (v : List ℕ) → drop (suc place) (set xss place v) ≡ drop (suc place) xss
drop-set [] place v = refl
drop-set (xs ∷ xss) zero v = refl
drop-set (xs ∷ xss) (suc place) v = drop-set xss place v

module _ (xss : List (List ℕ)) (from place : ℕ) (le : from ≤ place) (lt : place < length xss) (skipped : concat (drop place xss) ≡ concat (drop from xss)) where
  -- after a whole list was taken
  pub left_whole : concat (drop from (set xss place [])) ≡ concat (drop (place + 1) (set xss place []))
  left_whole = concat-set xss from place [] le lt skipped ∙ ap concat (sym (drop-set xss place []))
      ∙ ap (λ i. concat (drop i (set xss place []))) {x = suc place} {y = place + 1} (omega arith)

  -- after a part was
  pub left_part : (v : List ℕ) → concat (drop from (set xss place v)) ≡ concat (drop place (set xss place v))
  left_part v = concat-set xss from place v le lt skipped ∙ sym (concat-set xss place place v (omega arith) lt refl)

  pub joins_part : (n : ℕ) (piece rest d : List ℕ) → piece ≡ take n (get_or xss place d) → rest ≡ drop n (get_or xss place d)
      → piece ++ concat (drop place (set xss place rest)) ≡ concat (drop from xss)
  joins_part n piece rest d p r =
      let x = get_or xss place d in
      let tail = concat (drop (suc place) xss) in
      ap (λ ys. piece ++ ys) (concat-set xss place place rest (omega arith) lt refl)
      ∙ sym (append_assoc piece rest tail)
      ∙ ap (λ ys. ys ++ tail) (ap (λ ys. ys ++ rest) p ∙ ap (λ ys. take n x ++ ys) r ∙ take-append-drop n x)
      ∙ ap (λ i. x ++ concat (drop i xss)) {x = suc place} {y = place + 1} (omega arith)
      ∙ ap concat (sym (drop_more xss place d lt))
      ∙ skipped
