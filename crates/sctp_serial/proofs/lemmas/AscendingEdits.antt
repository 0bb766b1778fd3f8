-- Numbers in serial order: where one goes, by how far it lies from the first, and edits that keep the order.
use Rattle.std.proofs.Common.{◌≡◌, ◌≢◌, ℕ, zero, suc, ◌+◌, ◌-◌, ◌*◌, ◌^◌, ◌<◌, ◌≤◌, ◌⊎◌, ◌==◌, Bool, true, false, IsTrue, List, [], ◌∷◌, length, map, get_or}
use Rattle.std.proofs.Common.{drop, refl, sym, ap, subst, ◌∙◌, inl, inr, mod-eq_of_lt, arith}
use native.Mathlib.Nat.{mod-eq-sub-mod}
use Rattle.std.specs.List.{All, AllPairs, insert, list_any, remove, position_or_len, filter}
use Rattle.std.specs.List.Sorted.{IsNonDecreasingBy, IsPartitionPoint}
use Rattle.std.proofs.lemmas.Bool.{cases_lt, cases_eq, false≢true}
use Rattle.std.proofs.lemmas.Bool.Decides.{nat_tests}
use Rattle.std.proofs.lemmas.List.{get_or-map, get_or_default, get_or-drop, length-map, length-drop}
use Rattle.std.proofs.lemmas.List.Elements.{All-drop, All-filter}
use Rattle.std.proofs.lemmas.List.Quantifiers.{all_pairs_remove}
use Rattle.std.proofs.lemmas.List.Kept.{AllPairs-filter}
use Rattle.std.proofs.lemmas.List.Edits.{length-insert, get_or-insert_below, get_or-insert_at, get_or-insert_above, length-remove, get_or-remove_below}
use Rattle.std.proofs.lemmas.List.Edits.{get_or-remove_above}
use Rattle.std.proofs.lemmas.List.Folds.{list_any_none}
use Rattle.std.proofs.lemmas.List.Sums.{position_or_len_is}
use Rattle.sctp_util.specs.Lists.{insert_before}
use Rattle.sctp_util.specs.Serial.{distance, comes_before, distance16, comes_before16}
use Rattle.sctp_util.proofs.Edits.{pairs_insert, those-filter}
use Rattle.sctp_util.proofs.More.{fails}
use Rattle.sctp_util.proofs.Distances.{distance_cases, before_is, comes_before_from, not_before_from, before_irrefl}
use Rattle.sctp_serial.specs.Ascending.{IsAscending, IsOrder, IsInsertion, upper_half}
use Rattle.sctp_serial.proofs.lemmas.ListEdits.{an_element, inserted-position, same_position}

-- ## Distances

pub distance_self : (a : ℕ) → a < 2 ^ 32 → distance a a ≡ 0
distance_self a h = elim (distance_cases a a h h) [ inl p ↦ omega arith | inr p ↦ absurd (omega arith) ]

module _ (f n e : ℕ) (hf : f < 2 ^ 32) (hn : n < 2 ^ 32) (he : e < 2 ^ 32) where
  -- distances add up, where their sum is less than the circle
  pub distance_sum : distance f n + distance n e < 2 ^ 32 → distance f n + distance n e ≡ distance f e
  distance_sum lt = elim (distance_cases f n hf hn) [
    | inl p ↦ elim (distance_cases n e hn he) [
      | inl q ↦ elim (distance_cases f e hf he) [ inl r ↦ omega arith | inr r ↦ omega arith ]
      | inr q ↦ elim (distance_cases f e hf he) [ inl r ↦ omega arith | inr r ↦ omega arith ]
    ]
    | inr p ↦ elim (distance_cases n e hn he) [
      | inl q ↦ elim (distance_cases f e hf he) [ inl r ↦ omega arith | inr r ↦ omega arith ]
      | inr q ↦ elim (distance_cases f e hf he) [ inl r ↦ omega arith | inr r ↦ omega arith ]
    ]
  ]

  -- and also where the one lies no farther than the other
  pub distance_rest : distance f n ≤ distance f e → distance f n + distance n e ≡ distance f e
  distance_rest le = elim (distance_cases f n hf hn) [
    | inl p ↦ elim (distance_cases n e hn he) [
      | inl q ↦ elim (distance_cases f e hf he) [ inl r ↦ omega arith | inr r ↦ omega arith ]
      | inr q ↦ elim (distance_cases f e hf he) [ inl r ↦ omega arith | inr r ↦ omega arith ]
    ]
    | inr p ↦ elim (distance_cases n e hn he) [
      | inl q ↦ elim (distance_cases f e hf he) [ inl r ↦ omega arith | inr r ↦ omega arith ]
      | inr q ↦ elim (distance_cases f e hf he) [ inl r ↦ omega arith | inr r ↦ omega arith ]
    ]
  ]

  -- what is left of the circle
  pub distance_back : distance f e < distance f n → distance f n + distance n e ≡ distance f e + 2 ^ 32
  distance_back lt = elim (distance_cases f n hf hn) [
    | inl p ↦ elim (distance_cases n e hn he) [
      | inl q ↦ elim (distance_cases f e hf he) [ inl r ↦ omega arith | inr r ↦ omega arith ]
      | inr q ↦ elim (distance_cases f e hf he) [ inl r ↦ omega arith | inr r ↦ omega arith ]
    ]
    | inr p ↦ elim (distance_cases n e hn he) [
      | inl q ↦ elim (distance_cases f e hf he) [ inl r ↦ omega arith | inr r ↦ omega arith ]
      | inr q ↦ elim (distance_cases f e hf he) [ inl r ↦ omega arith | inr r ↦ omega arith ]
    ]
  ]

  -- numbers at one distance are one
  pub same_distance : distance f n ≡ distance f e → n ≡ e
  same_distance h = elim (distance_cases f n hf hn) [
    | inl p ↦ elim (distance_cases f e hf he) [ inl q ↦ omega arith | inr q ↦ omega arith ]
    | inr p ↦ elim (distance_cases f e hf he) [ inl q ↦ omega arith | inr q ↦ omega arith ]
  ]

  -- among numbers less than half a circle from the first, each comes before the farther ones alone
  pub before_farther : distance f n < distance f e → distance f e < 2 ^ 31 → comes_before n e ≡ true
  before_farther lt half = let sum = distance_rest (omega arith) in comes_before_from n e (omega arith) (omega arith)

  pub not_before_nearer : distance f e ≤ distance f n → distance f n < 2 ^ 31 → comes_before n e ≡ false
  not_before_nearer le half = elim (cases_lt (distance f e) (distance f n)) [
    | inl lt ↦ let sum = distance_back lt in not_before_from n e (omega arith)
    | inr ge ↦ subst (λ t. comes_before n t ≡ false) (same_distance (omega arith)) (before_irrefl n hn)
  ]

-- more than half a circle behind is before
pub before_half : (first n : ℕ) → first < 2 ^ 32 → n < 2 ^ 32 → 2 ^ 31 < distance first n → comes_before n first ≡ true
before_half first n hf hn far =
    let self = distance_self first hf in
    let round = distance_back first n first hf hn hf (omega arith) in
    let short : distance first n < 2 ^ 32 = elim (distance_cases first n hf hn) [ inl p ↦ omega arith | inr p ↦ omega arith ] in
    comes_before_from n first (omega arith) (omega arith)

-- ## Numbers of 16 bits

distance16_cases : (a b : ℕ) → a < 2 ^ 16 → b < 2 ^ 16 → ((a ≤ b) × (distance16 a b + a ≡ b)) ⊎ ((b < a) × (distance16 a b + a ≡ b + 2 ^ 16))
unfolding distance16
distance16_cases a b ha hb = elim (cases_lt b a) [
  | inl low ↦ inr (low, let e : distance16 a b ≡ b + (2 ^ 16 - a) = mod-eq_of_lt (omega arith) in omega arith)
  | inr high ↦ inl (high, let e : distance16 a b ≡ b + (2 ^ 16 - a) - 2 ^ 16 = mod-eq-sub-mod (omega arith) ∙ mod-eq_of_lt (omega arith) in omega arith)
]

pub upper_half_is : (a : ℕ) → upper_half a ≡ a * 2 ^ 16
unfolding upper_half
upper_half_is a = refl

pub upper_half_small : (a : ℕ) → a < 2 ^ 16 → upper_half a < 2 ^ 32
upper_half_small a h = omega (arith, upper_half_is a)

pub small_upper_half : (a : ℕ) → upper_half a < 2 ^ 32 → a < 2 ^ 16
small_upper_half a h = omega (arith, upper_half_is a)

pub same_upper_half : (a b : ℕ) → (upper_half a == upper_half b) ≡ (a == b)
same_upper_half a b = let x = upper_half_is a in let y = upper_half_is b in grind (arith, nat_tests)

-- distances grow with the numbers
pub distance_upper_half : (a b : ℕ) → a < 2 ^ 16 → b < 2 ^ 16 → distance (upper_half a) (upper_half b) ≡ distance16 a b * 2 ^ 16
distance_upper_half a b ha hb =
    let x = upper_half_is a in
    let y = upper_half_is b in
    elim (distance_cases (upper_half a) (upper_half b) (upper_half_small a ha) (upper_half_small b hb)) [
      | inl p ↦ elim (distance16_cases a b ha hb) [ inl q ↦ omega arith | inr q ↦ omega arith ]
      | inr p ↦ elim (distance16_cases a b ha hb) [ inl q ↦ omega arith | inr q ↦ omega arith ]
    ]

pub before_upper_half : (a b : ℕ) → a < 2 ^ 16 → b < 2 ^ 16 → comes_before (upper_half a) (upper_half b) ≡ comes_before16 a b
unfolding comes_before comes_before16
before_upper_half a b ha hb = let x = distance_upper_half a b ha hb in grind (arith, nat_tests)

pub before_upper_half_of : (n a e : ℕ) → n < 2 ^ 16 → upper_half a ≡ upper_half n → upper_half e < 2 ^ 32
    → comes_before16 a e ≡ comes_before (upper_half n) (upper_half e)
before_upper_half_of n a e h same small =
    let x = upper_half_is a in
    let y = upper_half_is n in
    let one : a ≡ n = omega arith in
    ap (λ t. comes_before16 t e) one ∙ sym (before_upper_half n e h (small_upper_half e small))

-- ## Elements by their numbers

module _ {X : Type 0} (num : X → ℕ) where
  -- the numbers of the elements ascend
  pub record Ascends (xs : List X) : Type 0 where
    pub small : All (λ x. num x < 2 ^ 32) xs
    pub rises : AllPairs (λ x y. IsTrue (comes_before (num x) (num y))) xs

  pub ascends : (xs : List X) → IsAscending (map num xs) → Ascends xs
  ascends xs a =
      let len = length-map xs num in
      record {
        small = λ k d lt. subst (λ t. t < 2 ^ 32) (get_or-map num xs k d 0 lt) (a.in_range k 0 (omega arith));
        rises = λ i j d lt short. subst (λ t. IsTrue (comes_before t (num (get_or xs j d)))) (get_or-map num xs i d 0 (omega arith))
            (subst (λ t. IsTrue (comes_before (get_or (map num xs) i 0) t)) (get_or-map num xs j d 0 short) (a.ascending i j 0 lt (omega arith)));
      }

  pub ascending : (xs : List X) → Ascends xs → IsAscending (map num xs)
  ascending xs s =
      let len = length-map xs num in
      record {
        in_range = λ k d lt. let x = an_element xs k (omega arith) in
            subst (λ t. t < 2 ^ 32) (sym (get_or-map num xs k x d (omega arith))) (s.small k x (omega arith));
        ascending = λ i j d lt short. let x = an_element xs j (omega arith) in
            subst (λ t. IsTrue (comes_before t (get_or (map num xs) j d))) (sym (get_or-map num xs i x d (omega arith)))
            (subst (λ t. IsTrue (comes_before (num (get_or xs i x)) t)) (sym (get_or-map num xs j x d (omega arith))) (s.rises i j x lt (omega arith)));
      }

  -- the number of an element that was read
  pub number_read : (xs : List X) (i : ℕ) (x : X) → i < length xs → x ≡ get_or xs i x → (d : X) → num (get_or xs i d) ≡ num x
  number_read xs i x lt read d = ap num (get_or_default xs i d x lt ∙ sym read)

  -- the place of a number: no element in front of it lies farther from the first, and all from it on do
  pub record IsPlaceByDistance (xs : List X) (first n place : ℕ) : Type 0 where
    pub in_range : place ≤ length xs
    pub near : (k : ℕ) (d : X) → k < place → distance first (num (get_or xs k d)) ≤ distance first n
    pub far : (k : ℕ) (d : X) → place ≤ k → k < length xs → distance first n < distance first (num (get_or xs k d))

  insert_small : (xs : List X) (place : ℕ) (y : X) → place ≤ length xs → num y < 2 ^ 32 → All (λ x. num x < 2 ^ 32) xs
      → All (λ x. num x < 2 ^ 32) (insert xs place y)
  insert_small xs place y le small h k d short = let n = length-insert xs place y le in elim (cases_lt k place) [
    | inl low ↦ subst (λ x. num x < 2 ^ 32) (sym (get_or-insert_below xs place y d k low le)) (h k d (omega arith))
    | inr high ↦ elim (cases_eq k place) [
      | inl here ↦
          subst (λ j. num (get_or (insert xs place y) j d) < 2 ^ 32) (sym here) (subst (λ x. num x < 2 ^ 32) (sym (get_or-insert_at xs place y d le)) small)
      | inr above ↦ subst (λ j. num (get_or (insert xs place y) j d) < 2 ^ 32) {x = k - 1 + 1} (omega arith)
          (subst (λ x. num x < 2 ^ 32) (sym (get_or-insert_above xs place y d (k - 1) (omega arith) le)) (h (k - 1) d (omega arith)))
    ]
  ]

-- ## Where a number goes

module _ {X : Type 0} (num : X → ℕ) (xs : List X) (s : Ascends num xs) (first : ℕ) (is_first : (d : X) → num (get_or xs 0 d) ≡ first)
    (some : 0 < length xs) where
  one : X
  one = an_element xs 0 some

  pub first_small : first < 2 ^ 32
  first_small = subst (λ t. t < 2 ^ 32) (is_first one) (s.small 0 one some)

  pub half : (k : ℕ) (d : X) → k < length xs → distance first (num (get_or xs k d)) < 2 ^ 31
  half zero d lt = subst (λ t. distance first t < 2 ^ 31) (sym (is_first d)) (omega (arith, distance_self first first_small))
  half (suc k) d lt = (before_is first (num (get_or xs (suc k) d))
      (subst (λ t. IsTrue (comes_before t (num (get_or xs (suc k) d)))) (is_first d) (s.rises 0 (suc k) d (omega arith) lt))).1

  -- each lies farther than those in front of it
  pub farther : (i j : ℕ) (d : X) → i < j → j < length xs → distance first (num (get_or xs i d)) < distance first (num (get_or xs j d))
  farther i j d lt short =
      let a = num (get_or xs i d) in
      let b = num (get_or xs j d) in
      let near = half i d (omega arith) in
      let step = before_is a b (s.rises i j d lt short) in
      let sum = distance_sum first a b first_small (s.small i d (omega arith)) (s.small j d short) (omega arith) in
      omega arith

  -- so they can be searched by halves
  pub sorted : IsNonDecreasingBy (λ x. distance first (num x)) xs
  sorted i j d le short = elim (cases_lt i j) [
    | inl lt ↦ let up = farther i j d lt short in omega arith
    | inr ge ↦ subst (λ k. distance first (num (get_or xs i d)) ≤ distance first (num (get_or xs k d))) {x = i} (omega arith) (omega arith)
  ]

  pub place_from_split : (n place : ℕ) → place ≤ length xs → IsPartitionPoint (λ x. distance first (num x) ≤ distance first n)
      (λ x. distance first n < distance first (num x)) xs place → IsPlaceByDistance num xs first n place
  place_from_split n place le p = record { in_range = le; near = λ k d lt. p.0 k d (omega arith) lt; far = p.1 }

  -- the first at least is in front of it
  pub place_positive : (n place : ℕ) → IsPlaceByDistance num xs first n place → 0 < place
  place_positive n zero p = let at : distance first (num (get_or xs 0 one)) ≡ 0 = ap (distance first) (is_first one) ∙ distance_self first first_small in
      let up = p.far 0 one (omega arith) some in absurd (omega arith)
  place_positive n (suc place) p = omega arith

  -- what lies no nearer than the last goes behind it
  pub place_behind : (n : ℕ) (last : X) → last ≡ get_or xs (length xs - 1) last → distance first (num last) ≤ distance first n
      → IsPlaceByDistance num xs first n (length xs)
  place_behind n last read le = record {
    in_range = omega arith;
    near = λ k d lt.
        let end : distance first (num (get_or xs (length xs - 1) d)) ≡ distance first (num last) = ap (distance first)
        (number_read num xs (length xs - 1) last (omega arith) read d) in
        elim (cases_lt k (length xs - 1)) [
          | inl inner ↦ let up = farther k (length xs - 1) d inner (omega arith) in omega arith
          | inr at ↦ subst (λ i. distance first (num (get_or xs i d)) ≤ distance first n) {x = length xs - 1} (omega arith) (omega arith)
        ];
    far = λ k d le lt. absurd (omega arith);
  }

  module _ (n place : ℕ) (small : n < 2 ^ 32) (near : distance first n < 2 ^ 31) (p : IsPlaceByDistance num xs first n place) where
    -- the first element that the number comes before
    pub next_place : position_or_len (λ x. comes_before n (num x)) xs ≡ place
    next_place = position_or_len_is (λ x. comes_before n (num x)) xs place one p.in_range
        (λ k lt. not_before_nearer first n (num (get_or xs k one)) first_small small (s.small k one (omega (arith, p.in_range))) (p.near k one lt) near)
        (λ lt.
        before_farther first n (num (get_or xs place one)) first_small small (s.small place one lt) (p.far place one (omega arith) lt) (half place one lt))

    -- one that has the number stands right in front of it
    in_front : (k : ℕ) (d : X) → k < length xs → num (get_or xs k d) ≡ n → k + 1 ≡ place
    in_front k d lt same = elim (cases_lt k place) [
      | inl low ↦ elim (cases_lt (k + 1) place) [
        | inl inner ↦
            let up = farther k (k + 1) d (omega arith) (omega (arith, p.in_range)) in
            let le = p.near (k + 1) d inner in
            let at = ap (distance first) same in
            absurd (omega arith)
        | inr next ↦ omega arith
      ]
      | inr high ↦ let up = p.far k d high lt in let at = ap (distance first) same in absurd (omega arith)
    ]

    pub found_place : (d : X) → 0 < place → num (get_or xs (place - 1) d) ≡ n → position_or_len (λ x. num x == n) xs ≡ place - 1
    found_place d pos same = position_or_len_is (λ x. num x == n) xs (place - 1) d (omega (arith, p.in_range))
        (λ k lt. fails (num (get_or xs k d) == n) (λ h. let e : num (get_or xs k d) ≡ n = grind (arith, nat_tests) in
        let at = in_front k d (omega (arith, p.in_range)) e in absurd (omega arith)))
        (λ lt. grind (arith, nat_tests))

    pub none_has : ((d : X) → 0 < place → num (get_or xs (place - 1) d) ≢ n) → All (λ x. (num x == n) ≡ false) xs
    none_has differs k d lt = fails (num (get_or xs k d) == n) (λ h.
        let e : num (get_or xs k d) ≡ n = grind (arith, nat_tests) in
        let at = in_front k d lt e in
        differs d (omega arith) (ap (λ i. num (get_or xs i d)) {x = place - 1} {y = k} (omega arith) ∙ e))

    in_order : All (λ x. (num x == n) ≡ false) xs → (k : ℕ) (d : X) → k < place → IsTrue (comes_before (num (get_or xs k d)) n)
    in_order absent k d lt =
        let e = num (get_or xs k d) in
        let other = absent k d (omega (arith, p.in_range)) in
        let here : e < 2 ^ 32 = s.small k d (omega (arith, p.in_range)) in
        let le = p.near k d lt in
        let ne : distance first e ≢ distance first n =
        (λ h. let one_number = same_distance first e n first_small here small h in false≢true (sym other ∙ grind (arith, nat_tests))) in
        before_farther first e n first_small here small (omega arith) near

    pub keeps_between : All (λ x. (num x == n) ≡ false) xs → (y : X) → num y ≡ n → Ascends num (insert xs place y)
    keeps_between absent y same = record {
      small = insert_small num xs place y p.in_range (subst (λ t. t < 2 ^ 32) (sym same) small) s.small;
      rises = pairs_insert (λ a b. IsTrue (comes_before (num a) (num b))) xs place y p.in_range s.rises
          (λ k d lt. subst (λ t. IsTrue (comes_before (num (get_or xs k d)) t)) (sym same) (in_order absent k d lt))
          (λ k d le lt. subst (λ t. IsTrue (comes_before t (num (get_or xs k d)))) (sym same)
          (before_farther first n (num (get_or xs k d)) first_small small (s.small k d lt) (p.far k d le lt) (half k d lt)));
    }

  -- a number before the first
  module _ (n : ℕ) (small : n < 2 ^ 32) (before : comes_before n first ≡ true) where
    pub front_place : position_or_len (λ x. comes_before n (num x)) xs ≡ 0
    front_place = position_or_len_is (λ x. comes_before n (num x)) xs 0 one (omega arith) (λ k lt. absurd (omega arith))
        (λ lt. subst (λ t. comes_before n t ≡ true) (sym (is_first one)) before)

    pub none_has_front : All (λ x. (num x == n) ≡ false) xs
    none_has_front k d lt = fails (num (get_or xs k d) == n) (λ h.
        let e : num (get_or xs k d) ≡ n = grind (arith, nat_tests) in
        let at = ap (distance first) e in
        let near = half k d lt in
        let back = before_is n first before in
        let round = distance_sum first n first first_small small first_small in
        let self = distance_self first first_small in
        absurd (omega (arith, round)))

    before_each : (last : X) → last ≡ get_or xs (length xs - 1) last → distance n (num last) < 2 ^ 31 → (k : ℕ) (d : X) → k < length xs
        → IsTrue (comes_before n (num (get_or xs k d)))
    before_each last read near k d lt =
        let e = num (get_or xs k d) in
        let l = num last in
        let back = before_is n first before in
        let end : num (get_or xs (length xs - 1) d) ≡ l = number_read num xs (length xs - 1) last (omega arith) read d in
        let last_half : distance first l < 2 ^ 31 = subst (λ t. distance first t < 2 ^ 31) end (half (length xs - 1) d (omega arith)) in
        let small_last : l < 2 ^ 32 = subst (λ t. t < 2 ^ 32) end (s.small (length xs - 1) d (omega arith)) in
        let behind = place_behind l last read (omega arith) in
        let no_farther : distance first e ≤ distance first l = behind.near k d lt in
        let to_last = distance_sum n first l small first_small small_last (omega arith) in
        let to_here = distance_sum n first e small first_small (s.small k d lt) (omega arith) in
        comes_before_from n e (omega arith) (omega arith)

    pub keeps_front : (last : X) → last ≡ get_or xs (length xs - 1) last → distance n (num last) < 2 ^ 31 → (y : X) → num y ≡ n → Ascends num (insert xs 0 y)
    keeps_front last read near y same = record {
      small = insert_small num xs 0 y (omega arith) (subst (λ t. t < 2 ^ 32) (sym same) small) s.small;
      rises = pairs_insert (λ a b. IsTrue (comes_before (num a) (num b))) xs 0 y (omega arith) s.rises (λ k d lt. absurd (omega arith))
          (λ k d le lt. subst (λ t. IsTrue (comes_before t (num (get_or xs k d)))) (sym same) (before_each last read near k d lt));
    }

-- ## Edits that keep the order

module _ {X : Type 0} (num : X → ℕ) where
  pub ascends_one : (x : X) → num x < 2 ^ 32 → Ascends num (x ∷ [])
  ascends_one x small = record { small = one_small; rises = λ i j d lt short. absurd (omega arith) }
    where
      one_small : All (λ y. num y < 2 ^ 32) (x ∷ [])
      one_small zero d lt = small
      one_small (suc k) d lt = absurd (omega arith)

  pub ascends_drop : (n : ℕ) (xs : List X) → Ascends num xs → Ascends num (drop n xs)
  ascends_drop n xs s = record {
    small = All-drop (λ x. num x < 2 ^ 32) n xs s.small;
    rises = λ i j d lt short.
        let len = length-drop n xs in
        subst (λ y. IsTrue (comes_before (num y) (num (get_or (drop n xs) j d)))) (sym (get_or-drop n xs i d)) (subst (λ y.
        IsTrue (comes_before (num (get_or xs (n + i) d)) (num y))) (sym (get_or-drop n xs j d)) (s.rises (n + i) (n + j) d (omega arith) (omega arith)));
  }

  pub ascends_those : (p : X → Bool) (xs : List X) → Ascends num xs → Ascends num (filter p xs)
  ascends_those p xs s = subst (Ascends num) (sym (those-filter p xs)) (record {
    small = All-filter p (λ x. num x < 2 ^ 32) xs s.small;
    rises = AllPairs-filter (λ x y. IsTrue (comes_before (num x) (num y))) p xs s.rises;
  })

  pub ascends_remove : (xs : List X) (n : ℕ) → n < length xs → Ascends num xs → Ascends num (remove xs n)
  ascends_remove xs n lt s = record {
    small = λ k d short. let len = length-remove xs n lt in elim (cases_lt k n) [
      | inl low ↦ subst (λ x. num x < 2 ^ 32) (sym (get_or-remove_below xs n d k low lt)) (s.small k d (omega arith))
      | inr high ↦ subst (λ x. num x < 2 ^ 32) (sym (get_or-remove_above xs n d k high lt)) (s.small (k + 1) d (omega arith))
    ];
    rises = all_pairs_remove (λ x y. IsTrue (comes_before (num x) (num y))) xs n lt s.rises;
  }

  -- what the mark says where it is on
  pub order_on : (flag : Bool) (xs : List X) → flag ≡ true → IsOrder flag (map num xs) → Ascends num xs
  order_on flag xs on o = ascends num xs (subst (λ b. IsOrder b (map num xs)) on o)

-- ## A look at each

-- the elements in front of the place lie ever farther from the first number, and none farther than this
pub record IsRising {X : Type 0} (num : X → ℕ) (xs : List X) (first far place : ℕ) : Type 0 where
  pub small : (k : ℕ) (d : X) → k < place → num (get_or xs k d) < 2 ^ 32
  pub near : (k : ℕ) (d : X) → k < place → distance first (num (get_or xs k d)) ≤ far
  pub farther : (i j : ℕ) (d : X) → i < j → j < place → distance first (num (get_or xs i d)) < distance first (num (get_or xs j d))

module _ {X : Type 0} (num : X → ℕ) (xs : List X) (first : ℕ) (small : first < 2 ^ 32) where
  pub rising_one : (x : X) → x ≡ get_or xs 0 x → num x ≡ first → 0 < length xs → IsRising num xs first 0 1
  rising_one x read same some =
      let at : (d : X) → num (get_or xs 0 d) ≡ first = (λ d. number_read num xs 0 x some read d ∙ same) in
      record {
        small = λ k d lt. subst (λ i. num (get_or xs i d) < 2 ^ 32) {x = 0} (omega arith) (subst (λ t. t < 2 ^ 32) (sym (at d)) small);
        near = λ k d lt. subst (λ i. distance first (num (get_or xs i d)) ≤ 0) {x = 0} (omega arith)
            (subst (λ t. distance first t ≤ 0) (sym (at d)) (omega (arith, distance_self first small)));
        farther = λ i j d lt short. absurd (omega arith);
      }

  pub rising_more : (far place : ℕ) (x : X) → place < length xs → x ≡ get_or xs place x → num x < 2 ^ 32 → far < distance first (num x)
      → IsRising num xs first far place → IsRising num xs first (distance first (num x)) (place + 1)
  rising_more far place x within read fits up r =
      let at : (d : X) → num (get_or xs place d) ≡ num x = (λ d. number_read num xs place x within read d) in
      record {
        small = λ k d lt. elim (cases_lt k place) [
          | inl low ↦ r.small k d low
          | inr here ↦ subst (λ i. num (get_or xs i d) < 2 ^ 32) {x = place} (omega arith) (subst (λ t. t < 2 ^ 32) (sym (at d)) fits)
        ];
        near = λ k d lt. elim (cases_lt k place) [
          | inl low ↦ let le = r.near k d low in omega arith
          | inr here ↦ subst (λ i. distance first (num (get_or xs i d)) ≤ distance first (num x)) {x = place} (omega arith)
              (subst (λ t. distance first t ≤ distance first (num x)) (sym (at d)) (omega arith))
        ];
        farther = λ i j d lt short. elim (cases_lt j place) [
          | inl low ↦ r.farther i j d lt low
          | inr here ↦ subst (λ k. distance first (num (get_or xs i d)) < distance first (num (get_or xs k d))) {x = place} (omega arith)
              (subst (λ t. distance first (num (get_or xs i d)) < distance first t) (sym (at d)) (let le = r.near i d (omega arith) in omega arith))
        ];
      }

  pub rising_all : (far : ℕ) → far < 2 ^ 31 → IsRising num xs first far (length xs) → Ascends num xs
  rising_all far half r = record {
    small = r.small;
    rises = λ i j d lt short. let le = r.near j d short in before_farther first (num (get_or xs i d)) (num (get_or xs j d)) small (r.small i d (omega arith))
        (r.small j d short) (r.farther i j d lt short) (omega arith);
  }

-- ## Insertions

-- the mark says no more than what holds
pub order_if : (flag : Bool) (ns : List ℕ) → (flag ≡ true → IsAscending ns) → IsOrder flag ns
order_if true ns f = f refl
order_if false ns f = tt

-- has tests for the number, and before compares an element that has it with those of the list
module _ {X : Type 0} (has : X → Bool) (num : X → ℕ) (before : X → X → Bool) (n : ℕ) (small : n < 2 ^ 32) (tests : (x : X) → has x ≡ (num x == n))
    (compares : (x e : X) → num x ≡ n → num e < 2 ^ 32 → before x e ≡ comes_before n (num e)) where
  number : (x : X) → IsTrue (has x) → num x ≡ n
  number x h = let e = sym (tests x) ∙ h in grind (arith, nat_tests)

  pub insertion_first : IsInsertion has num before [] 0 true
  insertion_first = record {
    absent = refl;
    in_range = omega arith;
    goes = λ x h. refl;
    order = λ x h. ascending num (x ∷ []) (ascends_one num x (subst (λ t. t < 2 ^ 32) (sym (number x h)) small));
  }

  module _ (xs : List X) (s : Ascends num xs) (first : ℕ) (is_first : (d : X) → num (get_or xs 0 d) ≡ first) (some : 0 < length xs) where
    put : (x : X) → num x ≡ n → (place : ℕ) → position_or_len (λ e. comes_before n (num e)) xs ≡ place → insert xs place x ≡ insert_before before x xs
    put x same place at =
        let agree = same_position (before x) (λ e. comes_before n (num e)) xs (λ k d lt. compares x (get_or xs k d) same (s.small k d lt)) in
        ap (λ i. insert xs i x) (sym (agree ∙ at)) ∙ sym (inserted-position before x xs)

    none : All (λ x. (num x == n) ≡ false) xs → list_any has xs ≡ false
    none absent = list_any_none has xs (λ k d lt. tests (get_or xs k d) ∙ absent k d lt)

    -- no nearer than the first, by less than half a circle
    pub insertion_between : (place : ℕ) → distance first n < 2 ^ 31 → IsPlaceByDistance num xs first n place
        → ((d : X) → 0 < place → num (get_or xs (place - 1) d) ≢ n) → IsInsertion has num before xs place true
    insertion_between place near p differs =
        let absent = none_has num xs s first is_first some n place small near p differs in
        record {
          absent = none absent;
          in_range = p.in_range;
          goes = λ x h. put x (number x h) place (next_place num xs s first is_first some n place small near p);
          order = λ x h. ascending num (insert xs place x) (keeps_between num xs s first is_first some n place small near p absent x (number x h));
        }

    -- before the first
    pub insertion_in_front : (flag : Bool) (last : X) → last ≡ get_or xs (length xs - 1) last → comes_before n first ≡ true
        → (flag ≡ true → distance n (num last) < 2 ^ 31) → IsInsertion has num before xs 0 flag
    insertion_in_front flag last read front near =
        let absent = none_has_front num xs s first is_first some n small front in
        record {
          absent = none absent;
          in_range = omega arith;
          goes = λ x h. put x (number x h) 0 (front_place num xs s first is_first some n small front);
          order = λ x h. order_if flag (map num (insert xs 0 x))
              (λ on. ascending num (insert xs 0 x) (keeps_front num xs s first is_first some n small front last read (near on) x (number x h)));
        }

    -- where it is there
    pub there : (d : X) (place : ℕ) → distance first n < 2 ^ 31 → IsPlaceByDistance num xs first n place → 0 < place → num (get_or xs (place - 1) d) ≡ n
        → position_or_len has xs ≡ place - 1
    there d place near p pos same = same_position has (λ x. num x == n) xs (λ k e lt. tests (get_or xs k e))
        ∙ found_place num xs s first is_first some n place small near p d pos same
