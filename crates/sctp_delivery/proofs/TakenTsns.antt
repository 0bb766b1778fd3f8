-- A TSN that arrived at a filter stays one that came.
use Rattle.sctp_delivery.proofs.Names.{common_steps, ◌≡◌, ℕ, ◌+◌, ◌<◌, ◌≤◌, ◌%◌, ◌^◌, Bool, true, false, List, [], ◌∷◌, refl, ap, sym, ◌∙◌, inl, inr, arith}
use Rattle.sctp_delivery.proofs.Names.{if◌then◌else◌, ◌==◌, ◌||◌, ◌⊎◌, filter, list_any, nat_tests, advance_over, insert_before, Seen, at_or_before, or-left}
use Rattle.sctp_delivery.proofs.Names.{or-right, or-split, same-is, tsn}
use Rattle.std.specs.Prelude.{not}
use Rattle.sctp_delivery.proofs.Every.{Every}
use Rattle.sctp_delivery.proofs.TsnPlaces.{IsGiven, next-place, upto-yes, upto-is}

-- at or before the cumulative TSN, or one of those beyond
abbrev pub come : ℕ → ℕ → List ℕ → Bool
come t cumulative beyond = at_or_before t cumulative || list_any (λ u. u == t) beyond

pub any-inserted : {A : Type 0} (q : A → Bool) (b : A → A → Bool) (x : A) (xs : List A) → (q x || list_any q xs) ≡ true → list_any q
    (insert_before b x xs) ≡ true
any-inserted q b x [] e = e
any-inserted q b x (y ∷ ys) e = by (b x y) (λ f. any-inserted q b x ys f) (or-split (q x) (list_any q (y ∷ ys)) e)
  where
    by : (k : Bool) → ((q x || list_any q ys) ≡ true → list_any q (insert_before b x ys) ≡ true) → (q x ≡ true) ⊎ (list_any q (y ∷ ys) ≡ true) → list_any q
        (if k then x ∷ y ∷ ys else y ∷ insert_before b x ys) ≡ true
    by h0 h1 h2 = grind (arith, nat_tests, common_steps)

any-passing : (q : ℕ → Bool) (t : ℕ) (ts : List ℕ) → q t ≡ true → list_any (λ u. u == t) ts ≡ true → list_any (λ u. u == t) (filter q ts) ≡ true
any-passing q t [] h e = e
any-passing q t (x ∷ xs) h e = by (q x) refl (λ f. any-passing q t xs h f) (or-split (x == t) (list_any (λ u. u == t) xs) e)
  where
    by : (k : Bool) → q x ≡ k → (list_any (λ u. u == t) xs ≡ true → list_any (λ u. u == t) (filter q xs) ≡ true) → ((x == t) ≡ true) ⊎
        (list_any (λ u. u == t) xs ≡ true) → list_any (λ u. u == t) (if k then x ∷ filter q xs else filter q xs) ≡ true
    by h0 h1 h2 h3 = grind (arith, nat_tests, common_steps)

-- one that came by an earlier cumulative TSN came by a later one
upto-later : (p n a b : ℕ) (t : ℕ) → n < 2 ^ 31 → a ≤ b → b ≤ n → IsGiven p n t → at_or_before t (tsn p a) ≡ true → at_or_before t (tsn p b) ≡ true
upto-later p n a b t few le within g e = grind (arith, nat_tests, common_steps, upto-is, upto-yes)

pub advance-keeps : (p n c place : ℕ) (ts : List ℕ) → n < 2 ^ 31 → place ≤ n → c ≡ tsn p place → Every (IsGiven p n) ts → (t : ℕ) → IsGiven p n t
    → come t c ts ≡ true → come t (advance_over c ts).cum (advance_over c ts).held ≡ true
advance-keeps p n c place [] few le is each t g h = h
advance-keeps p n c place (x ∷ xs) few le is each t g h = by (x == (c + 1) % 2 ^ 32) refl (λ l i f. advance-keeps p n x (place + 1) xs few l i each.1 t g f)
  where
    by : (b : Bool) → (x == (c + 1) % 2 ^ 32) ≡ b → (place + 1 ≤ n → x ≡ tsn p (place + 1) → come t x xs ≡ true → come t (advance_over x xs).cum
        (advance_over x xs).held ≡ true) → (let s : Seen = if b then advance_over x xs else
        (let r : Seen = record { cum = c; held = x ∷ xs } in r) in come t s.cum s.held ≡ true)
    by false e ih = h
    by true e ih =
        let g' = each.0 in
        let next : x ≡ tsn p (place + 1) = same-is x ((c + 1) % 2 ^ 32) e ∙ ap (λ u. (u + 1) % 2 ^ 32) is ∙ next-place p place in
        let one : g'.place ≡ place + 1 = omega (arith, few, le, g'.is, next) in
        let l : place + 1 ≤ n = omega (arith, one) in
        let here : (x == t) ≡ true → at_or_before t x ≡ true = λ a. ap (at_or_before t) (same-is x t a)
        ∙ upto-yes p g.place g.place g.is g.is (omega (arith, few)) (omega (arith, few)) (omega arith) in
        ih l next (elim (or-split (at_or_before t c) (list_any (λ u. u == t) (x ∷ xs)) h) [
          | inl a ↦ or-left (at_or_before t x) (list_any (λ u. u == t) xs)
              (ap (at_or_before t) next ∙ upto-later p n place (place + 1) t few (omega arith) l g (ap (at_or_before t) (sym is) ∙ a))
          | inr a ↦ elim (or-split (x == t) (list_any (λ u. u == t) xs) a) [
            | inl b ↦ or-left (at_or_before t x) (list_any (λ u. u == t) xs) (here b)
            | inr b ↦ or-right (at_or_before t x) (list_any (λ u. u == t) xs) b
          ]
        ])

-- a TSN comes
pub insert-keeps : (b : ℕ → ℕ → Bool) (x c : ℕ) (ts : List ℕ) (t : ℕ) → come t c ts ≡ true → come t c (insert_before b x ts) ≡ true
insert-keeps b x c ts t h = grind (arith, nat_tests, common_steps, or-split, or-left, or-right, any-inserted)

-- all up to a later one counts as come
pub skip-keeps : (p n a b : ℕ) (ts : List ℕ) (t : ℕ) → n < 2 ^ 31 → a ≤ b → b ≤ n → IsGiven p n t → come t (tsn p a) ts ≡ true → come t (tsn p b)
    (filter (λ u. not (at_or_before u (tsn p b))) ts) ≡ true
skip-keeps p n a b ts t few le within g h = elim (or-split (at_or_before t (tsn p a)) (list_any (λ u. u == t) ts) h) [
  | inl e ↦ or-left (at_or_before t (tsn p b)) (list_any (λ u. u == t) (filter (λ u. not (at_or_before u (tsn p b))) ts))
      (upto-later p n a b t few le within g e)
  | inr e ↦ by (at_or_before t (tsn p b)) refl e
]
  where
    by : (k : Bool) → at_or_before t (tsn p b) ≡ k → list_any (λ u. u == t) ts ≡ true →
        (k || list_any (λ u. u == t) (filter (λ u. not (at_or_before u (tsn p b))) ts)) ≡ true
    by true f e = refl
    by false f e = any-passing (λ u. not (at_or_before u (tsn p b))) t ts (ap not f) e
