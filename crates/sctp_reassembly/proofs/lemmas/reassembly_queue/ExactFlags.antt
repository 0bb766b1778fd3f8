-- Numbers that do not ascend, and edits that keep it so.
use Rattle.std.proofs.Common.{◌≡◌, ℕ, ◌+◌, ◌-◌, ◌^◌, ◌<◌, ◌≤◌, ◌==◌, Bool, true, false, IsTrue, List, length, map, get_or, refl, sym, ap, subst, ◌∙◌, arith}
use Rattle.std.specs.List.{All, insert, position_or_len}
use Rattle.std.proofs.lemmas.Bool.Decides.{nat_tests}
use Rattle.std.proofs.lemmas.List.Edits.{length-insert, get_or-insert_at, get_or-insert_above, get_or-insert_below}
use Rattle.sctp_util.specs.Serial.{distance, comes_before}
use Rattle.std.proofs.lemmas.List.Folds.{list_any_none}
use Rattle.std.proofs.lemmas.List.Sums.{position_or_len_is}
use Rattle.sctp_util.proofs.More.{fails}
use Rattle.sctp_util.proofs.Distances.{before_is, not_before_from}
use Rattle.sctp_serial.specs.Ascending.{IsAscending, IsOrder, IsInsertion}
use Rattle.sctp_serial.proofs.lemmas.ListEdits.{remove-insert, an_element, inserted-position, same_position}
use Rattle.sctp_serial.proofs.lemmas.AscendingEdits.{Ascends, ascends, ascending, ascends_remove, half, farther, first_small, distance_back}
use Rattle.sctp_reassembly.specs.reassembly_queue.Orders.{IsOffOnlyOutOfOrder}

-- a mark that is on says nothing here
pub off_if : (flag : Bool) (ns : List ℕ) → (flag ≡ false → IsAscending ns → ⊥) → IsOffOnlyOutOfOrder flag ns
off_if true ns f = tt
off_if false ns f = f refl

pub off_on : (flag : Bool) (ns : List ℕ) → flag ≡ false → IsOffOnlyOutOfOrder flag ns → IsAscending ns → ⊥
off_on flag ns off h = subst (λ b. IsOffOnlyOutOfOrder b ns) off h

-- where it is off though they ascend, there is none
pub flag_on : (flag : Bool) (ns : List ℕ) → IsOffOnlyOutOfOrder flag ns → IsAscending ns → flag ≡ true
flag_on true ns h a = refl
flag_on false ns h a = absurd (h a)

pub ascending_on : (flag : Bool) (ns : List ℕ) → flag ≡ true → IsOrder flag ns → IsAscending ns
ascending_on flag ns on h = subst (λ b. IsOrder b ns) on h

module _ {X : Type 0} (num : X → ℕ) where
  -- without an element that was put in the others ascend
  pub out_of_order_insert : (xs : List X) (i : ℕ) (x : X) → i ≤ length xs → (IsAscending (map num xs) → ⊥) → IsAscending (map num (insert xs i x)) → ⊥
  out_of_order_insert xs i x le not_yet a =
      let n = length-insert xs i x le in
      not_yet (ascending num xs
      (subst (Ascends num) (remove-insert xs i x le) (ascends_remove num (insert xs i x) i (omega arith) (ascends num (insert xs i x) a))))

  -- two numbers of which the first is not before the second
  pub not_ascending : (xs : List X) (i j : ℕ) (d : X) → i < j → j < length xs → 2 ^ 31 ≤ distance (num (get_or xs i d)) (num (get_or xs j d))
      → IsAscending (map num xs) → ⊥
  not_ascending xs i j d lt short far a = let b = before_is _ _ ((ascends num xs a).rises i j d lt short) in absurd (omega (arith, b.1))

  -- one in front of others, too far from the last
  pub too_far_in_front : (xs : List X) (x last : X) → 0 < length xs → last ≡ get_or xs (length xs - 1) last → 2 ^ 31 ≤ distance (num x) (num last)
      → IsAscending (map num (insert xs 0 x)) → ⊥
  too_far_in_front xs x last some read far =
      let n = length-insert xs 0 x (omega arith) in
      let front : get_or (insert xs 0 x) 0 last ≡ x = get_or-insert_at xs 0 x last (omega arith) in
      let end : get_or (insert xs 0 x) (length xs - 1 + 1) last ≡ last = get_or-insert_above xs 0 x last (length xs - 1) (omega arith) (omega arith)
      ∙ sym read in
      not_ascending (insert xs 0 x) 0 (length xs - 1 + 1) last (omega arith) (omega arith)
      (subst (λ y. 2 ^ 31 ≤ distance (num y) (num (get_or (insert xs 0 x) (length xs - 1 + 1) last))) (sym front)
      (subst (λ y. 2 ^ 31 ≤ distance (num x) (num y)) (sym end) far))

  -- one behind others, half a circle from the first
  pub too_far_behind : (xs : List X) (x first : X) → 0 < length xs → first ≡ get_or xs 0 first → 2 ^ 31 ≤ distance (num first) (num x)
      → IsAscending (map num (insert xs (length xs) x)) → ⊥
  too_far_behind xs x first some read far =
      let n = length-insert xs (length xs) x (omega arith) in
      let front : get_or (insert xs (length xs) x) 0 first ≡ first = get_or-insert_below xs (length xs) x first 0 some (omega arith) ∙ sym read in
      let end : get_or (insert xs (length xs) x) (length xs) first ≡ x = get_or-insert_at xs (length xs) x first (omega arith) in
      not_ascending (insert xs (length xs) x) 0 (length xs) first some (omega arith)
      (subst (λ y. 2 ^ 31 ≤ distance (num y) (num (get_or (insert xs (length xs) x) (length xs) first))) (sym front)
      (subst (λ y. 2 ^ 31 ≤ distance (num first) (num y)) (sym end) far))

  -- a step that does not lead farther from the first, or leads half a circle from it
  pub step_out_of_order : (xs : List X) (first : ℕ) → ((d : X) → num (get_or xs 0 d) ≡ first) → (place far : ℕ) (x : X) → 0 < place → place < length xs
      → x ≡ get_or xs place x → ((d : X) → distance first (num (get_or xs (place - 1) d)) ≡ far)
      → (far < distance first (num x) → 2 ^ 31 ≤ distance first (num x)) → IsAscending (map num xs) → ⊥
  step_out_of_order xs first is_first place far x pos lt read last out a =
      let s = ascends num xs a in
      let some : 0 < length xs = omega arith in
      let up = farther num xs s first is_first some (place - 1) place x (omega arith) lt in
      let near = half num xs s first is_first some place x lt in
      let before = last x in
      let here : distance first (num (get_or xs place x)) ≡ distance first (num x) = ap (λ y. distance first (num y)) (sym read) in
      let far_out = out (omega arith) in
      absurd (omega arith)

-- ## A number half a circle from the first

module _ {X : Type 0} (has : X → Bool) (num : X → ℕ) (before : X → X → Bool) (n : ℕ) (small : n < 2 ^ 32) (tests : (x : X) → has x ≡ (num x == n))
    (compares : (x e : X) → num x ≡ n → num e < 2 ^ 32 → before x e ≡ comes_before n (num e)) (xs : List X) (s : Ascends num xs) (first : ℕ)
    (is_first : (d : X) → num (get_or xs 0 d) ≡ first) (some : 0 < length xs) (opposite : distance first n ≡ 2 ^ 31) where
  number : (x : X) → IsTrue (has x) → num x ≡ n
  number x h = let e = sym (tests x) ∙ h in grind (arith, nat_tests)

  absent_opposite : All (λ x. (num x == n) ≡ false) xs
  absent_opposite k d lt = fails (num (get_or xs k d) == n) (λ h.
      let e : num (get_or xs k d) ≡ n = grind (arith, nat_tests) in
      let at = ap (distance first) e in
      let near = half num xs s first is_first some k d lt in
      absurd (omega arith))

  not_before : (k : ℕ) (d : X) → k < length xs → comes_before n (num (get_or xs k d)) ≡ false
  not_before k d lt =
      let e = num (get_or xs k d) in
      let near = half num xs s first is_first some k d lt in
      let round = distance_back first n e (first_small num xs s first is_first some) small (s.small k d lt) (omega arith) in
      not_before_from n e (omega arith)

  end_place : position_or_len (λ x. comes_before n (num x)) xs ≡ length xs
  end_place = position_or_len_is (λ x. comes_before n (num x)) xs (length xs) (an_element xs 0 some) (omega arith)
      (λ k lt. not_before k (an_element xs 0 some) lt) (λ lt. absurd (omega arith))

  -- it comes before none
  pub insertion_opposite : IsInsertion has num before xs (length xs) false
  insertion_opposite = record {
    absent = list_any_none has xs (λ k d lt. tests (get_or xs k d) ∙ absent_opposite k d lt);
    in_range = omega arith;
    goes = λ x h.
        let agree = same_position (before x) (λ e. comes_before n (num e)) xs (λ k d lt. compares x (get_or xs k d) (number x h) (s.small k d lt)) in
        ap (λ i. insert xs i x) (sym (agree ∙ end_place)) ∙ sym (inserted-position before x xs);
    order = λ x h. tt;
  }
