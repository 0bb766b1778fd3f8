-- Chunks in serial order: where a number goes, and when they stay so.
use Rattle.std.proofs.Common.{◌≡◌, ◌≢◌, ℕ, zero, suc, ◌+◌, ◌-◌, ◌^◌, ◌<◌, ◌≤◌, Bool, true, false, not, IsTrue, List, [], ◌∷◌, ◌++◌, length, get_or, take, drop}
use Rattle.std.proofs.Common.{get_or-drop, length-drop, length-take-le, ◌∙◌, inl, inr, refl, sym, ap, subst, arith}
use Rattle.std.specs.List.{list_any, position_or_len, insert}
use Rattle.std.proofs.Math.ListN.{take-append-drop}
use Rattle.std.proofs.lemmas.Bool.{cases_lt, cases_eq, false≢true}
use Rattle.std.proofs.lemmas.Bool.Decides.{nat_tests}
use Rattle.std.proofs.lemmas.List.{get_or_default, drop_more}
use Rattle.std.proofs.lemmas.List.Edits.{length-insert, get_or-insert_below, get_or-insert_at, get_or-insert_above}
use Rattle.std.proofs.lemmas.List.Folds.{list_any_none}
use Rattle.std.proofs.lemmas.List.Sums.{position_or_len_is, fails_before_first, passes_at_first, prefix_len-le-length}
use Rattle.sctp_data.specs.declared.chunk.chunk_payload_data.ChunkPayloadData.{ChunkPayloadData}
use Rattle.sctp_util.specs.Serial.{distance, comes_before}
use Rattle.sctp_util.proofs.Edits.{pairs_insert}
use Rattle.sctp_util.proofs.More.{fails}
use Rattle.sctp_util.proofs.Distances.{distance_cases, before_is, comes_before_from, before_irrefl}
use Rattle.sctp_serial.specs.DataChunks.{has_tsn, following_tsn, preceding_tsn}
use Rattle.sctp_reassembly.specs.reassembly_queue.Loose.{IsOrderFlag, place_among}
use Rattle.sctp_serial.specs.Window.{IsSerial}
use Rattle.sctp_serial.proofs.lemmas.AscendingEdits.{distance_self, distance_sum, distance_rest, distance_back, same_distance}
use Rattle.sctp_serial.proofs.lemmas.ListEdits.{an_element, remove-insert, remove_seam}
use Rattle.sctp_serial.proofs.lemmas.Serials.{serial_remove}

-- ## Numbers

-- a way that leads past f is longer by the way from f
distance_part : (n f a : ℕ) → n < 2 ^ 32 → f < 2 ^ 32 → a < 2 ^ 32 → distance f a ≤ distance n a → distance n f + distance f a ≡ distance n a
distance_part n f a hn hf ha le = elim (cases_lt (distance n a) (distance n f)) [
  | inl less ↦
      let back = distance_back n f a hn hf ha less in
      elim (distance_cases n f hn hf) [ inl p ↦ absurd (omega arith) | inr p ↦ absurd (omega arith) ]
  | inr more ↦ distance_rest n f a hn hf ha more
]

-- the numbers beside one
pub before_one : (n : ℕ) → n < 2 ^ 32 → distance (preceding_tsn n) n ≡ 1
unfolding distance
before_one n h = omega arith

pub after_one : (n : ℕ) → n < 2 ^ 32 → distance n (following_tsn n) ≡ 1
unfolding distance
after_one n h = omega arith

-- from a first number on: what comes after the nearest and the first comes after those between
on_front : (f x p n : ℕ) → f < 2 ^ 32 → x < 2 ^ 32 → p < 2 ^ 32 → n < 2 ^ 32 → distance f x < 2 ^ 31 → distance f p < 2 ^ 31 → IsTrue (comes_before x p)
    → IsTrue (comes_before p n) → IsTrue (comes_before f n) → comes_before x n ≡ true
on_front f x p n hf hx hp hn dfx dfp xp pn fn =
    let a = before_is x p xp in
    let b = before_is p n pn in
    let c = before_is f n fn in
    let fp = distance_sum f x p hf hx hp (omega (arith, dfx, a)) in
    let to_n = distance_sum f p n hf hp hn (omega (arith, dfp, b)) in
    let xn = distance_sum x p n hx hp hn (omega (arith, a, b)) in
    comes_before_from x n (omega (arith, a)) (omega (arith, c))

-- up to a last number: what comes before the nearest and the last comes before those between
on_back : (n q x l : ℕ) → n < 2 ^ 32 → q < 2 ^ 32 → x < 2 ^ 32 → l < 2 ^ 32 → distance x l < 2 ^ 31 → distance q l < 2 ^ 31 → IsTrue (comes_before q x)
    → IsTrue (comes_before n q) → IsTrue (comes_before n l) → comes_before n x ≡ true
on_back n q x l hn hq hx hl dxl dql qx nq nl =
    let a = before_is q x qx in
    let b = before_is n q nq in
    let c = before_is n l nl in
    let ql = distance_sum q x l hq hx hl (omega (arith, dxl, a)) in
    let to_l = distance_sum n q l hn hq hl (omega (arith, dql, b)) in
    let nx = distance_sum n q x hn hq hx (omega (arith, a, b)) in
    comes_before_from n x (omega (arith, b)) (omega (arith, c))

-- a number that does not come before the first, but before one behind it, comes before what lies behind that one
pub on_after : (n f a b : ℕ) → n < 2 ^ 32 → f < 2 ^ 32 → a < 2 ^ 32 → b < 2 ^ 32 → comes_before n f ≡ false → IsTrue (comes_before f a)
    → IsTrue (comes_before f b) → IsTrue (comes_before a b) → IsTrue (comes_before n a) → comes_before n b ≡ true
on_after n f a b hn hf ha hb not_first fa fb ab na =
    let d_fa = before_is f a fa in
    let d_fb = before_is f b fb in
    let d_ab = before_is a b ab in
    let d_na = before_is n a na in
    let nb = distance_sum n a b hn ha hb (omega (arith, d_na, d_ab)) in
    let to_b = distance_sum f a b hf ha hb (omega (arith, d_fa, d_ab)) in
    elim (cases_lt (distance n b) (2 ^ 31)) [
      | inl near ↦ comes_before_from n b (omega (arith, d_na)) near
      | inr far ↦
          let part = distance_part n f a hn hf ha (omega (arith, d_fb)) in
          absurd (false≢true (sym not_first ∙ comes_before_from n f (omega (arith, d_fb)) (omega (arith, d_na))))
    ]

-- ## Places

-- what is left of a search for the first that a number comes before
pub record Cut (xs : List ChunkPayloadData) (n low high : ℕ) : Type 0 where
  pub ordered : low ≤ high
  pub in_range : high ≤ length xs
  pub below : (k : ℕ) (d : ChunkPayloadData) → k < low → comes_before n (get_or xs k d).tsn ≡ false
  pub above : (k : ℕ) (d : ChunkPayloadData) → high ≤ k → k < length xs → comes_before n (get_or xs k d).tsn ≡ true

pub cut_none : (xs : List ChunkPayloadData) (n : ℕ) → Cut xs n 0 (length xs)
cut_none xs n = record {
  ordered = omega arith;
  in_range = omega arith;
  below = λ k d lt. absurd (omega arith);
  above = λ k d le lt. absurd (omega arith);
}

-- nothing is left
pub cut_place : (xs : List ChunkPayloadData) (n place : ℕ) → 0 < length xs → Cut xs n place place → place ≡ position_or_len (λ e. comes_before n e.tsn) xs
cut_place xs n place some cut =
    let d = an_element xs 0 some in
    sym (position_or_len_is (λ e. comes_before n e.tsn) xs place d cut.in_range (λ k lt. cut.below k d lt) (λ lt. cut.above place d (omega arith) lt))

module _ (xs : List ChunkPayloadData) (s : IsSerial xs) (n : ℕ) (small : n < 2 ^ 32) where
  -- once the number comes before one, it comes before all behind
  pub stepped : ((d : ChunkPayloadData) → comes_before n (get_or xs 0 d).tsn ≡ false) → (i j : ℕ) (d : ChunkPayloadData) → i < j → j < length xs
      → IsTrue (comes_before n (get_or xs i d).tsn) → comes_before n (get_or xs j d).tsn ≡ true
  stepped not_first i j d lt short h = elim (cases_eq i 0) [
    | inl first ↦ absurd (false≢true (sym (not_first d) ∙ subst (λ k. IsTrue (comes_before n (get_or xs k d).tsn)) first h))
    | inr later ↦ on_after n (get_or xs 0 d).tsn (get_or xs i d).tsn (get_or xs j d).tsn small (s.in_range 0 d (omega arith)) (s.in_range i d (omega arith))
        (s.in_range j d short) (not_first d) (s.ascending 0 i d (omega arith) (omega arith)) (s.ascending 0 j d (omega arith) short)
        (s.ascending i j d lt short) h
  ]

  module _ (not_first : (d : ChunkPayloadData) → comes_before n (get_or xs 0 d).tsn ≡ false) (low high middle : ℕ) (cut : Cut xs n low high)
      (chunk : ChunkPayloadData) (at_least : low ≤ middle) (beyond : middle < high) (read : chunk ≡ get_or xs middle chunk) where
    here : (d : ChunkPayloadData) → (get_or xs middle d).tsn ≡ chunk.tsn
    here d = ap (λ (c : ChunkPayloadData). c.tsn) (get_or_default xs middle d chunk (omega (arith, cut.in_range)) ∙ sym read)

    pub cut_left : IsTrue (comes_before n chunk.tsn) → Cut xs n low middle
    cut_left h = record {
      ordered = at_least;
      in_range = omega (arith, cut.in_range);
      below = cut.below;
      above = λ k d le lt. elim (cases_eq k middle) [
        | inl same ↦ ap (λ i. comes_before n (get_or xs i d).tsn) same ∙ ap (comes_before n) (here d) ∙ h
        | inr apart ↦ stepped not_first middle k d (omega arith) lt (ap (comes_before n) (here d) ∙ h)
      ];
    }

    pub cut_right : comes_before n chunk.tsn ≡ false → Cut xs n (middle + 1) high
    cut_right h = record {
      ordered = omega arith;
      in_range = cut.in_range;
      below = λ k d lt. elim (cases_eq k middle) [
        | inl same ↦ ap (λ i. comes_before n (get_or xs i d).tsn) same ∙ ap (comes_before n) (here d) ∙ h
        | inr apart ↦ fails (comes_before n (get_or xs k d).tsn)
            (λ is. false≢true (sym h ∙ sym (ap (comes_before n) (here d)) ∙ stepped not_first k middle d (omega arith) (omega (arith, cut.in_range)) is))
      ];
      above = cut.above;
    }

  -- what does not come before both ends goes to the end
  pub place_at_end : (first last : ChunkPayloadData) → 0 < length xs → first ≡ get_or xs 0 first → comes_before n first.tsn ≡ false
      → last ≡ get_or xs (length xs - 1) last → comes_before n last.tsn ≡ false → length xs ≡ position_or_len (λ e. comes_before n e.tsn) xs
  place_at_end first last some read_first not_first read not_last =
      let front = λ (d : ChunkPayloadData). ap (λ (c : ChunkPayloadData). comes_before n c.tsn) (get_or_default xs 0 d first some ∙ sym read_first)
      ∙ not_first in
      cut_place xs n (length xs) some (subst (λ i. Cut xs n i (length xs)) {x = length xs - 1 + 1} (omega arith)
      (cut_right front 0 (length xs) (length xs - 1) (cut_none xs n) last (omega arith) (omega arith) read not_last))

  -- what stands behind where the number goes lies within half a circle after it, or has it for the half
  module _ (place : ℕ) (at : place ≡ place_among n xs) where
    pub in_front : (k : ℕ) (d : ChunkPayloadData) → k < place → comes_before n (get_or xs k d).tsn ≡ false
    in_front k d lt = fails_before_first (λ e. comes_before n e.tsn) xs k d (omega arith)

    there : (d : ChunkPayloadData) → place < length xs → comes_before n (get_or xs place d).tsn ≡ true
    there d lt = subst (λ i. comes_before n (get_or xs i d).tsn ≡ true) (sym at) (passes_at_first (λ e. comes_before n e.tsn) xs d (omega arith))

    module _ (m : ℕ) (small_m : m < 2 ^ 32) (one : distance m n ≡ 1) where
      -- the number before it stands in front of there
      pub is_front : (k : ℕ) (d : ChunkPayloadData) → k < length xs → (get_or xs k d).tsn ≡ m → k < place
      is_front k d lt same = elim (cases_lt k place) [
        | inl low ↦ low
        | inr high ↦
            let whole = distance_back m n m small_m small small_m (omega (arith, distance_self m small_m)) in
            let self_m = distance_self m small_m in
            let near = before_is n (get_or xs place d).tsn (there d (omega arith)) in
            elim (cases_eq k place) [
              | inl here ↦ let e : (get_or xs place d).tsn ≡ m = subst (λ i. (get_or xs i d).tsn ≡ m) here same in
                  let f : distance n (get_or xs place d).tsn ≡ distance n m = ap (distance n) e in absurd (omega arith)
              | inr later ↦
                  let up = before_is (get_or xs place d).tsn (get_or xs k d).tsn (s.ascending place k d (omega arith) lt) in
                  let e : distance (get_or xs place d).tsn (get_or xs k d).tsn ≡ distance (get_or xs place d).tsn m =
                  ap (distance (get_or xs place d).tsn) same in
                  let sum = distance_sum n (get_or xs place d).tsn m small (s.in_range place d (omega arith)) small_m (omega arith) in
                  absurd (omega arith)
            ]
      ]

      -- and between it and there at most the number itself
      between : (k j : ℕ) (d : ChunkPayloadData) → k < length xs → (get_or xs k d).tsn ≡ m → k < j → j < place → j < length xs → n ≡ (get_or xs j d).tsn
      between k j d lt same up low short =
          let x = (get_or xs j d).tsn in
          let far = before_is m x (subst (λ t. IsTrue (comes_before t x)) same (s.ascending k j d up short)) in
          let rest = distance_rest m n x small_m small (s.in_range j d short) (omega arith) in
          let zero_far = distance_self n small in
          elim (cases_lt 0 (distance n x)) [
            | inl pos ↦ absurd (false≢true (sym (in_front j d low) ∙ comes_before_from n x pos (omega arith)))
            | inr none ↦ same_distance n n x small small (s.in_range j d short) (omega arith)
          ]

      pub absent_before : ((d : ChunkPayloadData) → 0 < place → (get_or xs (place - 1) d).tsn ≢ m)
          → ((d : ChunkPayloadData) → 1 < place → (get_or xs (place - 1) d).tsn ≡ n → (get_or xs (place - 2) d).tsn ≢ m) → list_any (has_tsn m) xs ≡ false
      absent_before nearest second =
          list_any_none (has_tsn m) xs (λ k d lt. fails (has_tsn m (get_or xs k d)) (λ is.
          let same : (get_or xs k d).tsn ≡ m = grind (arith, nat_tests) in
          let low = is_front k d lt same in
          let within : place ≤ length xs = subst (λ i. i ≤ length xs) (sym at) (prefix_len-le-length (λ e. not (comes_before n e.tsn)) xs) in
          elim (cases_eq (k + 1) place) [
            | inl next ↦ nearest d (omega arith) (subst (λ i. (get_or xs i d).tsn ≡ m) {x = k} (omega arith) same)
            | inr apart ↦
                let e = between k (k + 1) d lt same (omega arith) (omega arith) (omega arith) in
                elim (cases_eq (k + 2) place) [
                  | inl second_next ↦ second d (omega arith) (subst (λ i. (get_or xs i d).tsn ≡ n) {x = k + 1} (omega arith) (sym e))
                      (subst (λ i. (get_or xs i d).tsn ≡ m) {x = k} (omega arith) same)
                  | inr farther ↦
                      let f = between k (k + 2) d lt same (omega arith) (omega arith) (omega arith) in
                      false≢true (sym (before_irrefl n small) ∙ subst (λ t. IsTrue (comes_before n t)) (sym f)
                      (subst (λ t. IsTrue (comes_before t (get_or xs (k + 2) d).tsn)) (sym e) (s.ascending (k + 1) (k + 2) d (omega arith) (omega arith))))
                ]
          ]))

    -- the number after it stands there
    pub absent_after : (m : ℕ) → m < 2 ^ 32 → distance n m ≡ 1 → ((d : ChunkPayloadData) → place < length xs → (get_or xs place d).tsn ≢ m)
        → list_any (has_tsn m) xs ≡ false
    absent_after m small_m one other =
        list_any_none (has_tsn m) xs (λ k d lt. fails (has_tsn m (get_or xs k d)) (λ is.
        let same : (get_or xs k d).tsn ≡ m = grind (arith, nat_tests) in
        elim (cases_lt k place) [
          | inl low ↦ false≢true (sym (in_front k d low) ∙ subst (λ t. comes_before n t ≡ true) (sym same) (comes_before_from n m (omega arith) (omega arith)))
          | inr high ↦ elim (cases_eq k place) [
            | inl here ↦ other d (omega arith) (subst (λ i. (get_or xs i d).tsn ≡ m) here same)
            | inr later ↦
                let x = (get_or xs place d).tsn in
                let near = before_is n x (there d (omega arith)) in
                let up = before_is x m (subst (λ t. IsTrue (comes_before x t)) same (s.ascending place k d (omega arith) lt)) in
                let sum = distance_sum n x m small (s.in_range place d (omega arith)) small_m (omega arith) in
                absurd (omega arith)
          ]
        ]))

  -- where the number stands, none behind has it
  pub absent_behind : (k : ℕ) (d : ChunkPayloadData) → k < length xs → (get_or xs k d).tsn ≡ n → list_any (has_tsn n) (drop (suc k) xs) ≡ false
  absent_behind k d lt same =
      let len = length-drop (suc k) xs in
      list_any_none (has_tsn n) (drop (suc k) xs) (λ j e short. fails (has_tsn n (get_or (drop (suc k) xs) j e)) (λ is.
      let again : (get_or (drop (suc k) xs) j e).tsn ≡ n = grind (arith, nat_tests) in
      let there : (get_or xs (suc k + j) e).tsn ≡ n = ap (λ (c : ChunkPayloadData). c.tsn) (sym (get_or-drop (suc k) xs j e)) ∙ again in
      let here_e : (get_or xs k e).tsn ≡ n = ap (λ (c : ChunkPayloadData). c.tsn) (get_or_default xs k e d lt) ∙ same in
      let up : IsTrue (comes_before (get_or xs k e).tsn (get_or xs (suc k + j) e).tsn) = s.ascending k (suc k + j) e (omega arith) (omega arith) in
      false≢true (sym (before_irrefl n small)
      ∙ subst (λ t. IsTrue (comes_before t n)) here_e (subst (λ t. IsTrue (comes_before (get_or xs k e).tsn t)) there up))))

-- ## What keeps the order

-- a number at a place, after what is in front of it and before what is behind
pub serial_insert_at : (xs : List ChunkPayloadData) (place : ℕ) (x : ChunkPayloadData) → place ≤ length xs → x.tsn < 2 ^ 32 → IsSerial xs
    → ((k : ℕ) (d : ChunkPayloadData) → k < place → IsTrue (comes_before (get_or xs k d).tsn x.tsn))
    → ((k : ℕ) (d : ChunkPayloadData) → place ≤ k → k < length xs → IsTrue (comes_before x.tsn (get_or xs k d).tsn)) → IsSerial (insert xs place x)
serial_insert_at xs place x le small s before after = record {
  in_range = λ k d short. let n = length-insert xs place x le in elim (cases_lt k place) [
    | inl low ↦ subst (λ (c : ChunkPayloadData). c.tsn < 2 ^ 32) (sym (get_or-insert_below xs place x d k low le)) (s.in_range k d (omega arith))
    | inr high ↦ elim (cases_eq k place) [
      | inl same ↦
          subst (λ (c : ChunkPayloadData). c.tsn < 2 ^ 32) (sym (ap (λ i. get_or (insert xs place x) i d) same ∙ get_or-insert_at xs place x d le)) small
      | inr apart ↦ subst (λ i. (get_or (insert xs place x) i d).tsn < 2 ^ 32) {x = k - 1 + 1} (omega arith) (subst (λ (c : ChunkPayloadData). c.tsn < 2 ^ 32)
          (sym (get_or-insert_above xs place x d (k - 1) (omega arith) le)) (s.in_range (k - 1) d (omega arith)))
    ]
  ];
  ascending = pairs_insert (λ a b. IsTrue (comes_before a.tsn b.tsn)) xs place x le s.ascending before after;
}

-- whatever is put in, the others then stood in order, and it between them
module _ (xs : List ChunkPayloadData) (place : ℕ) (x : ChunkPayloadData) (le : place ≤ length xs) (s : IsSerial (insert xs place x)) where
  pub serial_without : IsSerial xs
  serial_without = subst IsSerial (remove-insert xs place x le) (serial_remove (insert xs place x) place (omega (arith, length-insert xs place x le)) s)

  pub was_behind : (k : ℕ) (d : ChunkPayloadData) → k < place → IsTrue (comes_before (get_or xs k d).tsn x.tsn)
  was_behind k d lt =
      let n = length-insert xs place x le in
      subst (λ (c : ChunkPayloadData). IsTrue (comes_before c.tsn x.tsn)) (get_or-insert_below xs place x d k lt le)
      (subst (λ (c : ChunkPayloadData). IsTrue (comes_before (get_or (insert xs place x) k d).tsn c.tsn)) (get_or-insert_at xs place x d le)
      (s.ascending k place d lt (omega arith)))

  pub was_ahead : (k : ℕ) (d : ChunkPayloadData) → place ≤ k → k < length xs → IsTrue (comes_before x.tsn (get_or xs k d).tsn)
  was_ahead k d ge lt =
      let n = length-insert xs place x le in
      subst (λ (c : ChunkPayloadData). IsTrue (comes_before x.tsn c.tsn)) (get_or-insert_above xs place x d k ge le)
      (subst (λ (c : ChunkPayloadData). IsTrue (comes_before c.tsn (get_or (insert xs place x) (k + 1) d).tsn)) (get_or-insert_at xs place x d le)
      (s.ascending place (k + 1) d (omega arith) (omega arith)))

pub flag_is_on : (flag : Bool) (xs : List ChunkPayloadData) → flag ≡ true → IsOrderFlag flag xs → IsSerial xs
flag_is_on flag xs on h = subst (λ b. IsOrderFlag b xs) on h

pub flag_is_off : (flag : Bool) (xs : List ChunkPayloadData) → flag ≡ false → IsOrderFlag flag xs → IsSerial xs → ⊥
flag_is_off flag xs off h = subst (λ b. IsOrderFlag b xs) off h

pub serial_on : (flag : Bool) (xs : List ChunkPayloadData) → IsOrderFlag flag xs → IsSerial xs → flag ≡ true
serial_on true xs h serial = refl
serial_on false xs h serial = absurd (h serial)

pub flag_of : (flag : Bool) (xs : List ChunkPayloadData) → (flag ≡ true → IsSerial xs) → (flag ≡ false → IsSerial xs → ⊥) → IsOrderFlag flag xs
flag_of true xs on off = on refl
flag_of false xs on off = off refl

-- what stands in front of a number, seen from the first and the nearest
pub all_behind : (xs : List ChunkPayloadData) → IsSerial xs → (n place : ℕ) (first nearest : ChunkPayloadData) → n < 2 ^ 32 → 0 < place → place ≤ length xs
    → first ≡ get_or xs 0 first → nearest ≡ get_or xs (place - 1) nearest → IsTrue (comes_before nearest.tsn n) → IsTrue (comes_before first.tsn n)
    → (k : ℕ) (d : ChunkPayloadData) → k < place → IsTrue (comes_before (get_or xs k d).tsn n)
all_behind xs s n place first nearest small some le read_first read near from_first k d lt =
    let near_d : IsTrue (comes_before (get_or xs (place - 1) d).tsn n) = subst (λ (c : ChunkPayloadData). IsTrue (comes_before c.tsn n))
    (read ∙ get_or_default xs (place - 1) nearest d (omega arith)) near in
    let first_d : IsTrue (comes_before (get_or xs 0 d).tsn n) = subst (λ (c : ChunkPayloadData). IsTrue (comes_before c.tsn n))
    (read_first ∙ get_or_default xs 0 first d (omega arith)) from_first in
    elim (cases_eq k (place - 1)) [
      | inl same ↦ subst (λ i. IsTrue (comes_before (get_or xs i d).tsn n)) (sym same) near_d
      | inr apart ↦ on_front (get_or xs 0 d).tsn (get_or xs k d).tsn (get_or xs (place - 1) d).tsn n (s.in_range 0 d (omega arith))
          (s.in_range k d (omega arith)) (s.in_range (place - 1) d (omega arith)) small
          (near_first xs s k d (omega arith)) (near_first xs s (place - 1) d (omega arith))
          (s.ascending k (place - 1) d (omega arith) (omega arith)) near_d first_d
    ]
  where
    near_first : (xs : List ChunkPayloadData) → IsSerial xs → (k : ℕ) (d : ChunkPayloadData) → k < length xs
        → distance (get_or xs 0 d).tsn (get_or xs k d).tsn < 2 ^ 31
    near_first xs s k d lt = elim (cases_eq k 0) [
      | inl zero_k ↦ subst (λ i. distance (get_or xs 0 d).tsn (get_or xs i d).tsn < 2 ^ 31) (sym zero_k)
          (omega (arith, distance_self (get_or xs 0 d).tsn (s.in_range 0 d (omega arith))))
      | inr later ↦ (before_is (get_or xs 0 d).tsn (get_or xs k d).tsn (s.ascending 0 k d (omega arith) lt)).1
    ]

-- and what stands behind it, seen from the last and the nearest
pub all_ahead : (xs : List ChunkPayloadData) → IsSerial xs → (n place : ℕ) (nearest last : ChunkPayloadData) → n < 2 ^ 32 → place < length xs
    → nearest ≡ get_or xs place nearest → last ≡ get_or xs (length xs - 1) last → IsTrue (comes_before n nearest.tsn) → IsTrue (comes_before n last.tsn)
    → (k : ℕ) (d : ChunkPayloadData) → place ≤ k → k < length xs → IsTrue (comes_before n (get_or xs k d).tsn)
all_ahead xs s n place nearest last small within read read_last near to_last k d ge lt =
    let near_d : IsTrue (comes_before n (get_or xs place d).tsn) = subst (λ (c : ChunkPayloadData). IsTrue (comes_before n c.tsn))
    (read ∙ get_or_default xs place nearest d within) near in
    let last_d : IsTrue (comes_before n (get_or xs (length xs - 1) d).tsn) = subst (λ (c : ChunkPayloadData). IsTrue (comes_before n c.tsn))
    (read_last ∙ get_or_default xs (length xs - 1) last d (omega arith)) to_last in
    elim (cases_eq k place) [
      | inl same ↦ subst (λ i. IsTrue (comes_before n (get_or xs i d).tsn)) (sym same) near_d
      | inr apart ↦ on_back n (get_or xs place d).tsn (get_or xs k d).tsn (get_or xs (length xs - 1) d).tsn small (s.in_range place d within)
          (s.in_range k d lt) (s.in_range (length xs - 1) d (omega arith))
          (near_last k d lt) (near_last place d within) (s.ascending place k d (omega arith) lt) near_d last_d
    ]
  where
    near_last : (k : ℕ) (d : ChunkPayloadData) → k < length xs → distance (get_or xs k d).tsn (get_or xs (length xs - 1) d).tsn < 2 ^ 31
    near_last k d lt = elim (cases_eq k (length xs - 1)) [
      | inl same ↦ subst (λ i. distance (get_or xs i d).tsn (get_or xs (length xs - 1) d).tsn < 2 ^ 31) (sym same)
          (omega (arith, distance_self (get_or xs (length xs - 1) d).tsn (s.in_range (length xs - 1) d (omega arith))))
      | inr earlier ↦ (before_is (get_or xs k d).tsn (get_or xs (length xs - 1) d).tsn (s.ascending k (length xs - 1) d (omega arith) (omega arith))).1
    ]

-- without neighbours that are taken out
pub serial_cut : (xs : List ChunkPayloadData) (first count : ℕ) → first + count ≤ length xs → IsSerial xs → IsSerial (take first xs ++ drop (first + count) xs)
serial_cut xs first zero le s =
    subst IsSerial (sym (ap (λ i. take first xs ++ drop i xs) {x = first + 0} {y = first} (omega arith) ∙ take-append-drop first xs)) s
serial_cut xs first (suc count) le s =
    let d = an_element xs first (omega arith) in
    let front = length-take-le first xs (omega arith) in
    let ys = drop (first + count + 1) xs in
    let split : take first xs ++ drop (first + count) xs ≡ take first xs ++ get_or xs (first + count) d ∷ ys = ap (λ zs. take first xs ++ zs)
    (drop_more xs (first + count) d (omega arith)) in
    let before = subst IsSerial split (serial_cut xs first count (omega arith) s) in
    let out = serial_remove (take first xs ++ get_or xs (first + count) d ∷ ys) first
    (omega (arith, front, length-seam (take first xs) (get_or xs (first + count) d) ys)) before in
    subst IsSerial (remove_seam (take first xs) (get_or xs (first + count) d) ys first front
    ∙ ap (λ i. take first xs ++ drop i xs) {x = first + count + 1} {y = first + suc count} (omega arith)) out
  where
    length-seam : (ys : List ChunkPayloadData) (a : ChunkPayloadData) (zs : List ChunkPayloadData) → length ys < length (ys ++ a ∷ zs)
    length-seam [] a zs = omega arith
    length-seam (x ∷ ys) a zs = omega (arith, length-seam ys a zs)

pub serial_drop : (xs : List ChunkPayloadData) (count : ℕ) → count ≤ length xs → IsSerial xs → IsSerial (drop count xs)
serial_drop xs count le s = subst (λ i. IsSerial (drop i xs)) {x = 0 + count} (omega arith) (serial_cut xs 0 count (omega arith) s)

-- what is looked through in a row
pub record SerialUpto (xs : List ChunkPayloadData) (place : ℕ) : Type 0 where
  pub in_range : (k : ℕ) (d : ChunkPayloadData) → k < place → (get_or xs k d).tsn < 2 ^ 32
  pub ascending : (i j : ℕ) (d : ChunkPayloadData) → i < j → j < place → IsTrue (comes_before (get_or xs i d).tsn (get_or xs j d).tsn)

module _ (xs : List ChunkPayloadData) (place f l n : ℕ) (some : 0 < place) (small : n < 2 ^ 32) (at_first : (d : ChunkPayloadData) → (get_or xs 0 d).tsn ≡ f)
    (at_last : (d : ChunkPayloadData) → (get_or xs (place - 1) d).tsn ≡ l) (here : (d : ChunkPayloadData) → (get_or xs place d).tsn ≡ n)
    (s : SerialUpto xs place) (ln : IsTrue (comes_before l n)) (fn : IsTrue (comes_before f n)) where
  near_first : (k : ℕ) (d : ChunkPayloadData) → k < place → distance f (get_or xs k d).tsn < 2 ^ 31
  near_first k d lt = subst (λ t. distance t (get_or xs k d).tsn < 2 ^ 31) (at_first d) (elim (cases_eq k 0) [
    | inl zero_k ↦ subst (λ i. distance (get_or xs 0 d).tsn (get_or xs i d).tsn < 2 ^ 31) (sym zero_k)
        (omega (arith, distance_self (get_or xs 0 d).tsn (s.in_range 0 d some)))
    | inr later ↦ (before_is (get_or xs 0 d).tsn (get_or xs k d).tsn (s.ascending 0 k d (omega arith) lt)).1
  ])

  behind_all : (i : ℕ) (d : ChunkPayloadData) → i < place → IsTrue (comes_before (get_or xs i d).tsn n)
  behind_all i d lt = elim (cases_eq i (place - 1)) [
    | inl same ↦ subst (λ t. IsTrue (comes_before t n)) (sym (ap (λ k. (get_or xs k d).tsn) same ∙ at_last d)) ln
    | inr apart ↦ on_front f (get_or xs i d).tsn l n (subst (λ t. t < 2 ^ 32) (at_first d) (s.in_range 0 d some)) (s.in_range i d lt)
        (subst (λ t. t < 2 ^ 32) (at_last d) (s.in_range (place - 1) d (omega arith))) small
        (near_first i d lt) (subst (λ t. distance f t < 2 ^ 31) (at_last d) (near_first (place - 1) d (omega arith)))
        (subst (λ t. IsTrue (comes_before (get_or xs i d).tsn t)) (at_last d) (s.ascending i (place - 1) d (omega arith) (omega arith))) ln fn
  ]

  pub upto_more : SerialUpto xs (place + 1)
  upto_more = record {
    in_range = λ k d lt. elim (cases_eq k place) [
      | inl same ↦ subst (λ t. t < 2 ^ 32) (sym (ap (λ i. (get_or xs i d).tsn) same ∙ here d)) small
      | inr apart ↦ s.in_range k d (omega arith)
    ];
    ascending = λ i j d lt short. elim (cases_eq j place) [
      | inl same ↦ subst (λ t. IsTrue (comes_before (get_or xs i d).tsn t)) (sym (ap (λ k. (get_or xs k d).tsn) same ∙ here d)) (behind_all i d (omega arith))
      | inr apart ↦ s.ascending i j d lt (omega arith)
    ];
  }

-- ## What is read

pub number_at : (xs : List ChunkPayloadData) (i : ℕ) (x y : ChunkPayloadData) → i < length xs → x ≡ get_or xs i x → y ≡ x → (d : ChunkPayloadData)
    → (get_or xs i d).tsn ≡ y.tsn
number_at xs i x y lt read e d = ap (λ (c : ChunkPayloadData). c.tsn) (get_or_default xs i d x lt ∙ sym read ∙ sym e)

pub read_on : (xs : List ChunkPayloadData) (i : ℕ) (x y : ChunkPayloadData) → x ≡ get_or xs i x → y ≡ x → y ≡ get_or xs i y
read_on xs i x y read e = subst (λ z. z ≡ get_or xs i z) (sym e) read

pub place_upto : (n : ℕ) (xs : List ChunkPayloadData) (place : ℕ) → place ≡ place_among n xs → place ≤ length xs
place_upto n xs place at = subst (λ i. i ≤ length xs) (sym at) (prefix_len-le-length (λ e. not (comes_before n e.tsn)) xs)

-- what is read at a place has another number
pub other_at : (xs : List ChunkPayloadData) (i m : ℕ) (x : ChunkPayloadData) → i < length xs → x ≡ get_or xs i x → x.tsn ≢ m → (d : ChunkPayloadData)
    → (get_or xs i d).tsn ≢ m
other_at xs i m x lt read differs d same = differs (ap (λ (c : ChunkPayloadData). c.tsn) (read ∙ get_or_default xs i x d lt) ∙ same)
