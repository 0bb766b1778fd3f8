-- A list is walked through.
use Rattle.std.proofs.Common.{◌≡◌, ℕ, ◌+◌, ◌<◌, List, ◌∷◌, length, drop, get_or, arith, sym, ap, ◌∙◌, add-zero}
use Rattle.std.proofs.lemmas.List.{length-drop, get_or-drop, drop_more}

-- what is first of the rest of a list stands at its place, and the others are the rest behind it
pub head_of : {X : Type 0} (xs : List X) (i : ℕ) (x : X) (rest : List X) → x ∷ rest ≡ drop i xs
    → (i < length xs) × ((d : X) → get_or xs i d ≡ x) × (rest ≡ drop (i + 1) xs)
head_of {X} xs i x rest e =
    let long : i < length xs = omega (arith, ap length e ∙ length-drop i xs) in (
      long,
      λ d. sym (ap (λ (l : List X). get_or l 0 d) e ∙ get_or-drop i xs 0 d ∙ ap (λ (n : ℕ). get_or xs n d) (add-zero i)),
      ap (drop 1) (e ∙ drop_more xs i x long),
    )
