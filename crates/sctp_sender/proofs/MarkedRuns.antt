-- A walk over a run of chunks that changes some of them.
use Rattle.sctp_sender.proofs.Names.{◌≡◌, ℕ, zero, suc, ◌+◌, ◌<◌, ◌≤◌, ◌%◌, ◌^◌, Bool, true, false, List, [], ◌∷◌, ◌++◌, length, length-append, take, drop, ◌-◌}
use Rattle.sctp_sender.proofs.Names.{get_or, set, slice_get, Some, refl, ap, sym, ◌∙◌, arith, if◌then◌else◌, find, length-map, length-take-le, take-append-drop}
use Rattle.sctp_sender.proofs.Names.{get_or-drop, filter, slice_get-get_or, change_where, change_where-only, those-more, length-change_where, ChunkPayloadData}
use Rattle.sctp_sender.proofs.Names.{has_tsn, tsns, tsns_from}
use Rattle.std.proofs.lemmas.List.{get_or-append_right}
use Rattle.sctp_util.proofs.Edits.{changed_step, unchanged_step}
use Rattle.sctp_sender.proofs.Runs.{IsRunFrom, found-at, only-at, changed-run}

tsns-append : (xs ys : List ChunkPayloadData) → tsns (xs ++ ys) ≡ tsns xs ++ tsns ys
tsns-append [] ys = refl
tsns-append (x ∷ xs) ys = ap (λ ts. x.tsn ∷ ts) (tsns-append xs ys)

tsns-length : (xs ys : List ChunkPayloadData) → tsns xs ≡ tsns ys → length xs ≡ length ys
tsns-length xs ys e = sym (length-map xs (λ c. c.tsn)) ∙ ap length e ∙ length-map ys (λ c. c.tsn)

-- a change of the first so many that keeps TSNs
pub part-run : (p : ChunkPayloadData → Bool) (f : ChunkPayloadData → ChunkPayloadData) → ((c : ChunkPayloadData) → (f c).tsn ≡ c.tsn)
    → (cs : List ChunkPayloadData) (i : ℕ) → tsns (change_where p f (take i cs) ++ drop i cs) ≡ tsns cs
part-run p f keeps cs i =
    tsns-append (change_where p f (take i cs)) (drop i cs) ∙ ap (λ ts. ts ++ tsns (drop i cs)) (changed-run p f keeps (take i cs))
    ∙ sym (tsns-append (take i cs) (drop i cs)) ∙ ap tsns (take-append-drop i cs)

module _ (p : ChunkPayloadData → Bool) (f : ChunkPayloadData → ChunkPayloadData) (keeps : (c : ChunkPayloadData) → (f c).tsn ≡ c.tsn)
    (cs ys : List ChunkPayloadData) (first i : ℕ)
    (small : first < 2 ^ 32) (run : IsRunFrom first cs) (few : length cs < 2 ^ 31) (lt : i < length cs)
    (so_far : ys ≡ change_where p f (take i cs) ++ drop i cs) where
  same : tsns ys ≡ tsns cs
  same = ap tsns so_far ∙ part-run p f keeps cs i

  count : length ys ≡ length cs
  count = tsns-length ys cs same

  its-run : IsRunFrom first ys
  its-run = same ∙ run ∙ ap (tsns_from first) (sym count)

  -- the chunk at the place is found by its TSN
  pub found : (d : ChunkPayloadData) → find (has_tsn ((first + i) % 2 ^ 32)) ys ≡ Some (get_or ys i d)
  found d = found-at ys first i d small its-run (omega (arith, few, count)) (omega (arith, lt, count))

  pub there : (d : ChunkPayloadData) → slice_get ys i ≡ Some (get_or ys i d)
  there d = slice_get-get_or ys i d (omega (arith, lt, count))

  pub found-there : (x : ChunkPayloadData) → slice_get ys i ≡ Some x → find (has_tsn ((first + i) % 2 ^ 32)) ys ≡ Some x
  found-there x is = found x ∙ sym (there x) ∙ is

  module _ (x : ChunkPayloadData) (is : find (has_tsn ((first + i) % 2 ^ 32)) ys ≡ Some x) where
    read : x ≡ get_or ys i x
    read = let e = found x in cc

    pub unmarked : p x ≡ false → ys ≡ change_where p f (take (i + 1) cs) ++ drop (i + 1) cs
    unmarked h = unchanged_step p f cs ys i x lt so_far read h

    -- changed by a change that makes of the chunk what f makes
    pub marked-as : (g : ChunkPayloadData → ChunkPayloadData) → g x ≡ f x → p x ≡ true
        → change_where (has_tsn ((first + i) % 2 ^ 32)) g ys ≡ change_where p f (take (i + 1) cs) ++ drop (i + 1) cs
    marked-as g e h =
        change_where-only (has_tsn ((first + i) % 2 ^ 32)) g ys i x (only-at ys first i small its-run (omega (arith, few, count)) (omega (arith, lt, count)))
        ∙ ap (λ c. set ys i (g c)) (sym read) ∙ ap (set ys i) e ∙ changed_step p f cs ys i x lt so_far read h

    -- the walk has not come to it
    pub old : x ≡ get_or cs i x
    old =
        let short : length (change_where p f (take i cs)) ≡ i = length-change_where p f (take i cs) ∙ length-take-le i cs (omega (arith, lt)) in
        let none : i + (i - i) ≡ i = omega arith in
        read ∙ ap (λ zs. get_or zs i x) so_far ∙ get_or-append_right (change_where p f (take i cs)) (drop i cs) i i x short (omega arith)
        ∙ get_or-drop i cs (i - i) x ∙ ap (λ k. get_or cs k x) none

    pub answered-of : (r : ChunkPayloadData → Bool) → filter r (take (i + 1) cs) ≡ filter r (take i cs) ++ (if r x then x ∷ [] else [])
    answered-of r = those-more r cs i x lt ∙ ap (λ y. filter r (take i cs) ++ (if r y then y ∷ [] else [])) (sym old)

    pub counted-of : (r : ChunkPayloadData → Bool) (b : Bool) → r x ≡ b
        → length (filter r (take (i + 1) cs)) ≡ length (filter r (take i cs)) + (if b then 1 else 0)
    counted-of r b e = ap length (answered-of r ∙ ap (λ k. filter r (take i cs) ++ (if k then x ∷ [] else [])) e) ∙ by b
      where
        by : (k : Bool) → length (filter r (take i cs) ++ (if k then x ∷ [] else [])) ≡ length (filter r (take i cs)) + (if k then 1 else 0)
        by true = length-append (filter r (take i cs)) (x ∷ [])
        by false = length-append (filter r (take i cs)) []

-- where none passes between two places, as much is changed up to either
pub part-same : {X : Type 0} (p : X → Bool) (f : X → X) (xs : List X) (i j : ℕ) → i ≤ j
    → ((k : ℕ) (d : X) → i ≤ k → k < j → k < length xs → p (get_or xs k d) ≡ false)
    → change_where p f (take j xs) ++ drop j xs ≡ change_where p f (take i xs) ++ drop i xs
part-same p f xs zero zero le h = refl
part-same p f xs (suc i) zero le h = absurd (omega (arith, le))
part-same p f [] zero (suc j) le h = refl
part-same p f [] (suc i) (suc j) le h = refl
part-same p f (x ∷ xs) zero (suc j) le h =
    ap (λ b. (if b then f x else x) ∷ change_where p f (take j xs) ++ drop j xs) (h 0 x (omega arith) (omega arith) (omega arith))
    ∙ ap (λ ys. x ∷ ys) (part-same p f xs zero j (omega arith)
    (λ k d low high in'. h (suc k) d (omega arith) (omega (arith, high)) (omega (arith, in'))))
part-same p f (x ∷ xs) (suc i) (suc j) le h = ap (λ ys. (if p x then f x else x) ∷ ys)
    (part-same p f xs i j (omega (arith, le)) (λ k d low high in'. h (suc k) d (omega (arith, low)) (omega (arith, high)) (omega (arith, in'))))
