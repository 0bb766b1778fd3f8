-- Chunks in serial order: each TSN is held once, and edits keep the order.
use Rattle.std.proofs.Common.{◌≡◌, ◌≢◌, ℕ, ◌+◌, ◌^◌, ◌-◌, ◌<◌, Bool, true, false, ◌||◌, not, if◌then◌else◌, IsTrue, List, [], ◌∷◌, length, length-set, get_or}
use Rattle.std.proofs.Common.{set, Some, None, refl, ◌∙◌, sym, ap, subst, inl, inr, arith}
use Rattle.std.specs.Prelude.{◌==◌, is_some}
use Rattle.std.specs.List.{All, list_any, find, insert, remove, slice_get, position_or_len}
use Rattle.std.proofs.lemmas.Bool.{cases_lt, cases_eq, false≢true}
use Rattle.std.proofs.lemmas.Bool.Decides.{nat_tests}
use Rattle.std.proofs.lemmas.Grind.{common_steps}
use Rattle.std.proofs.lemmas.List.{get_or_default}
use Rattle.std.proofs.lemmas.List.Quantifiers.{all_pairs_remove}
use Rattle.std.proofs.lemmas.List.Sums.{prefix_len_is}
use Rattle.std.proofs.lemmas.List.Folds.{find_at}
use Rattle.std.proofs.lemmas.List.Edits.{length-insert, get_or-insert_below, get_or-insert_at, get_or-insert_above, length-remove, get_or-remove_below}
use Rattle.std.proofs.lemmas.List.Edits.{get_or-remove_above}
use Rattle.std.proofs.lemmas.Option.{slice_get-get_or}
use Rattle.sctp_data.specs.declared.chunk.chunk_payload_data.ChunkPayloadData.{ChunkPayloadData}
use Rattle.sctp_util.specs.Lists.{insert_before}
use Rattle.sctp_util.specs.Serial.{comes_before}
use Rattle.sctp_util.proofs.Edits.{OnlyAt, find-none, inserted-at, pairs_insert}
use Rattle.sctp_util.proofs.Distances.{before_asym, before_irrefl}
use Rattle.sctp_serial.specs.Window.{IsSerial, IsHeldAt, IsPlaceFor, SpansOneWindow, is_held}
use Rattle.sctp_serial.specs.DataChunks.{has_tsn, chunk_before, tsns}

pub held-any : (t : ℕ) (cs : List ChunkPayloadData) → is_held cs t ≡ list_any (λ u. u == t) (tsns cs)
held-any t [] = refl
held-any t (c ∷ cs) = step (c.tsn == t) (held-any t cs)
  where
    step : (b : Bool) → is_some (find (has_tsn t) cs) ≡ list_any (λ u. u == t) (tsns cs)
        → is_some (if b then Some c else find (has_tsn t) cs) ≡ (b || list_any (λ u. u == t) (tsns cs))
    step true ih = refl
    step false ih = ih

-- an earlier chunk has another number
pub differs_before : (chunks : List ChunkPayloadData) → IsSerial chunks → (i j : ℕ) (d : ChunkPayloadData) → i < j → j < length chunks
    → (get_or chunks i d).tsn ≢ (get_or chunks j d).tsn
differs_before chunks serial i j d lt short same =
    absurd (false≢true (sym (before_irrefl (get_or chunks j d).tsn (serial.in_range j d short))
    ∙ subst (λ t. IsTrue (comes_before t (get_or chunks j d).tsn)) same (serial.ascending i j d lt short)))

module _ (chunks : List ChunkPayloadData) (tsn : ℕ) where
  -- where it is held is the first place that has the number
  pub first_place : IsSerial chunks → (place : ℕ) (chunk : ChunkPayloadData) → IsHeldAt chunks tsn place chunk → position_or_len (has_tsn tsn) chunks ≡ place
  first_place serial place chunk at =
      prefix_len_is (λ c. not (has_tsn tsn c)) chunks place chunk (omega (arith, at.in_range))
      (λ k lt. let differs = differs_before chunks serial k place chunk lt at.in_range in grind (arith, nat_tests, at.value, at.number, differs))
      (λ lt. grind (arith, nat_tests, at.value, at.number))

  pub find_held : IsSerial chunks → (place : ℕ) (chunk : ChunkPayloadData) → IsHeldAt chunks tsn place chunk → find (has_tsn tsn) chunks ≡ Some chunk
  find_held serial place chunk at =
      find_at (has_tsn tsn) chunks ∙ ap (slice_get chunks) (first_place serial place chunk at) ∙ slice_get-get_or chunks place chunk at.in_range
      ∙ ap Some at.value

pub not_found : (chunks : List ChunkPayloadData) (tsn : ℕ) → All (λ c. c.tsn ≢ tsn) chunks → find (has_tsn tsn) chunks ≡ None
not_found chunks tsn h = find-none (has_tsn tsn) chunks (λ k d lt. let differs = h k d lt in grind (arith, nat_tests))

pub fails_from_absent : (chunks : List ChunkPayloadData) (tsn : ℕ) → All (λ c. c.tsn ≢ tsn) chunks → All (λ c. has_tsn tsn c ≡ false) chunks
fails_from_absent chunks tsn h k d lt = let differs = h k d lt in grind (arith, nat_tests)

-- the place that a search gives is where an insertion goes
pub inserted-place : (chunks : List ChunkPayloadData) (x : ChunkPayloadData) (place : ℕ) → x.tsn < 2 ^ 32 → IsSerial chunks → IsPlaceFor chunks x.tsn place
    → SpansOneWindow chunks x.tsn → insert_before chunk_before x chunks ≡ insert chunks place x
inserted-place chunks x place small serial p w =
    inserted-at chunk_before x chunks place p.in_range
    (λ k d lt. before_asym (get_or chunks k d).tsn x.tsn (serial.in_range k d (omega (arith, p.in_range))) small (p.before w k d lt))
    (λ d lt. p.after w place d (omega arith) lt)

-- what is read at the place is the chunk there
pub read_is : (chunks : List ChunkPayloadData) (tsn place : ℕ) (chunk : ChunkPayloadData) → IsHeldAt chunks tsn place chunk → {y : ChunkPayloadData}
    → y ≡ get_or chunks place y → chunk ≡ y
read_is chunks tsn place chunk at {y} e = sym at.value ∙ get_or_default chunks place chunk y at.in_range ∙ sym e

-- the order is one of the numbers alone
pub serial_same : (xs ys : List ChunkPayloadData) → length ys ≡ length xs
    → ((k : ℕ) (d : ChunkPayloadData) → k < length xs → (get_or ys k d).tsn ≡ (get_or xs k d).tsn) → IsSerial xs → IsSerial ys
serial_same xs ys n same serial = record {
  in_range = λ k d lt. subst (λ t. t < 2 ^ 32) (sym (same k d (omega arith))) (serial.in_range k d (omega arith));
  ascending = λ i j d lt short. subst (λ t. IsTrue (comes_before t (get_or ys j d).tsn)) (sym (same i d (omega arith)))
      (subst (λ t. IsTrue (comes_before (get_or xs i d).tsn t)) (sym (same j d (omega arith))) (serial.ascending i j d lt (omega arith)));
}

module _ (xs : List ChunkPayloadData) (tsn place : ℕ) (chunk : ChunkPayloadData) (s : IsSerial xs) (held : IsHeldAt xs tsn place chunk) where
  -- no other place has the number
  pub only_here : OnlyAt (has_tsn tsn) xs place
  only_here = record {
    in_range = held.in_range;
    here = λ d. let e = get_or_default xs place d chunk held.in_range in grind (arith, nat_tests, held.value, held.number);
    elsewhere = λ k d lt differs. elim (cases_lt k place) [
      | inl low ↦ let e = get_or_default xs place d chunk held.in_range in let apart = differs_before xs s k place d low held.in_range in
          grind (arith, nat_tests, held.value, held.number)
      | inr high ↦ let e = get_or_default xs place d chunk held.in_range in let apart = differs_before xs s place k d (omega arith) lt in
          grind (arith, nat_tests, held.value, held.number)
    ];
  }

pub serial_remove : (xs : List ChunkPayloadData) (place : ℕ) → place < length xs → IsSerial xs → IsSerial (remove xs place)
serial_remove xs place lt s = record {
  in_range = λ k d short. let n = length-remove xs place lt in elim (cases_lt k place) [
    | inl low ↦ subst (λ (c : ChunkPayloadData). c.tsn < 2 ^ 32) (sym (get_or-remove_below xs place d k low lt)) (s.in_range k d (omega arith))
    | inr high ↦ subst (λ (c : ChunkPayloadData). c.tsn < 2 ^ 32) (sym (get_or-remove_above xs place d k high lt)) (s.in_range (k + 1) d (omega arith))
  ];
  ascending = all_pairs_remove (λ a b. IsTrue (comes_before a.tsn b.tsn)) xs place lt s.ascending;
}

pub serial_insert : (xs : List ChunkPayloadData) (place : ℕ) (chunk : ChunkPayloadData) → chunk.tsn < 2 ^ 32 → IsPlaceFor xs chunk.tsn place
    → SpansOneWindow xs chunk.tsn → IsSerial xs → IsSerial (insert xs place chunk)
serial_insert xs place chunk small p w s = record {
  in_range = λ k d short. let n = length-insert xs place chunk p.in_range in elim (cases_lt k place) [
    | inl low ↦ subst (λ (c : ChunkPayloadData). c.tsn < 2 ^ 32) (sym (get_or-insert_below xs place chunk d k low p.in_range))
        (s.in_range k d (omega (arith, p.in_range)))
    | inr high ↦ elim (cases_eq k place) [
      | inl here ↦ subst (λ j. (get_or (insert xs place chunk) j d).tsn < 2 ^ 32) (sym here)
          (subst (λ (c : ChunkPayloadData). c.tsn < 2 ^ 32) (sym (get_or-insert_at xs place chunk d p.in_range)) small)
      | inr above ↦ subst (λ j. (get_or (insert xs place chunk) j d).tsn < 2 ^ 32) {x = k - 1 + 1} (omega arith) (subst (λ (c : ChunkPayloadData). c.tsn
          < 2 ^ 32) (sym (get_or-insert_above xs place chunk d (k - 1) (omega arith) p.in_range)) (s.in_range (k - 1) d (omega arith)))
    ]
  ];
  ascending = pairs_insert (λ a b. IsTrue (comes_before a.tsn b.tsn)) xs place chunk p.in_range s.ascending (p.before w) (p.after w);
}

-- a write that keeps the number
pub serial_set : (xs : List ChunkPayloadData) (place : ℕ) (y : ChunkPayloadData) → place < length xs
    → ((d : ChunkPayloadData) → y.tsn ≡ (get_or xs place d).tsn) → IsSerial xs → IsSerial (set xs place y)
serial_set xs place y lt same s = serial_same xs (set xs place y) (length-set xs place y) (λ k d short. elim (cases_eq k place) [
  | inl here ↦ grind (arith, common_steps, same d)
  | inr apart ↦ grind (arith, common_steps)
]) s

pub serial_set_of : (f : ChunkPayloadData → ChunkPayloadData) → ((x : ChunkPayloadData) → (f x).tsn ≡ x.tsn)
    → (xs : List ChunkPayloadData) (place : ℕ) (e : ChunkPayloadData) → place < length xs → IsSerial xs → IsSerial (set xs place (f (get_or xs place e)))
serial_set_of f keeps xs place e lt s =
    serial_set xs place (f (get_or xs place e)) lt (λ d. keeps (get_or xs place e) ∙ ap (λ (c : ChunkPayloadData). c.tsn) (get_or_default xs place e d lt)) s
