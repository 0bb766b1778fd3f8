-- Walks that change each element of a list, or of its tail.
use Rattle.sctp_model.proofs.Names.{◌≡◌, ◌<◌, ◌≤◌, ◌+◌, ◌-◌, ℕ, List, ◌++◌, length, get_or, take, drop, map, refl, sym, ap, ◌∙◌, arith, length-append}
use Rattle.sctp_model.proofs.Names.{length-drop, nat_tests}
use Rattle.std.proofs.Common.{set}
use Rattle.std.proofs.lemmas.List.{get_or_default, get_or-append_right, set-append_right, length-take-le, take-append-drop, append-nil, take_all}
use Rattle.std.proofs.lemmas.List.{drop_all}
use Rattle.std.proofs.lemmas.List.Edits.{map_over_more}

module _ {X : Type 0} (f : X → X) where
  -- one place of a walk that changes each element
  pub mapped_step : (xs ys : List X) (i : ℕ) (r : X) → i < length xs → length ys ≡ length xs → ys ≡ map f (take i xs) ++ drop i xs
      → set ys i (f (get_or ys i r)) ≡ map f (take (i + 1) xs) ++ drop (i + 1) xs
  mapped_step xs ys i r lt same so_far = map_over_more f xs ys i (get_or ys i r) lt so_far (get_or_default ys i r (get_or ys i r) (omega (arith, lt, same)))

  -- the first elements stay, those up to a place are changed, those from it on are not yet
  abbrev pub changed_to : ℕ → ℕ → List X → List X
  changed_to first i xs = take first xs ++ (map f (take (i - first) (drop first xs)) ++ drop (i - first) (drop first xs))

  pub changed_none : (xs : List X) (first : ℕ) → xs ≡ changed_to first first xs
  changed_none xs first = let none : first - first ≡ 0 = omega arith in rw none (sym (take-append-drop first xs))

  pub changed_all : (xs : List X) (first i : ℕ) → length xs ≤ i → changed_to first i xs ≡ take first xs ++ map f (drop first xs)
  changed_all xs first i long = grind (arith, nat_tests, length-drop, take_all, drop_all, append-nil)

  pub changed_more : (xs ys : List X) (first i : ℕ) (r : X) → first ≤ i → i < length xs → length ys ≡ length xs → ys ≡ changed_to first i xs
      → set ys i (f (get_or ys i r)) ≡ changed_to first (i + 1) xs
  changed_more xs ys first i r le lt same so_far =
      let zs : List X = map f (take (i - first) (drop first xs)) ++ drop (i - first) (drop first xs) in
      let n = length-drop first xs in
      let short : length (take first xs) ≡ first = length-take-le first xs (omega (arith, le, lt)) in
      let next : i + 1 - first ≡ i - first + 1 = omega (arith, le) in
      let all : length ys ≡ length (take first xs) + length zs = ap length so_far ∙ length-append (take first xs) zs in
      let one : set ys i (f (get_or ys i r)) ≡ take first xs ++ set zs (i - first) (f (get_or zs (i - first) r)) = rw (
        so_far,
        set-append_right (take first xs) zs first i (f (get_or (take first xs ++ zs) i r)) short le,
        get_or-append_right (take first xs) zs first i r short le,
      ) refl in
      let here : i - first < length (drop first xs) = omega (arith, le, lt, n) in
      one ∙ ap (λ us. take first xs ++ us) (mapped_step (drop first xs) zs (i - first) r here (omega (arith, n, all, short, same)) refl) ∙ rw next refl
