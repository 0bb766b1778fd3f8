-- In serial order no run arises where another was taken out.
use Rattle.std.proofs.Common.{◌≡◌, ℕ, ◌+◌, ◌-◌, ◌<◌, ◌≤◌, Bool, true, false, ◌&&◌, List, length, get_or, take, drop, remove, ◌++◌, length-append, length-drop}
use Rattle.std.proofs.Common.{length-take-le, sym, ap, ◌∙◌, inl, inr, arith}
use Rattle.std.proofs.lemmas.Bool.{cases_lt}
use Rattle.std.proofs.lemmas.List.{get_or-drop, get_or-take, get_or_append_left}
use Rattle.std.proofs.Math.Seq.{get_or-append_right}
use Rattle.sctp_data.specs.declared.chunk.chunk_payload_data.ChunkPayloadData.{ChunkPayloadData}
use Rattle.sctp_util.specs.Serial.{distance}
use Rattle.sctp_util.proofs.Distances.{before_is}
use Rattle.sctp_reassembly.specs.reassembly_queue.Loose.{IsFlag, IsOrderFlag}
use Rattle.sctp_serial.specs.Runs.{IsRun, HasNoRun}
use Rattle.sctp_serial.specs.Window.{IsSerial}
use Rattle.sctp_serial.proofs.lemmas.AscendingEdits.{distance_sum}
use Rattle.sctp_serial.proofs.lemmas.ListEdits.{an_element}
use Rattle.sctp_reassembly.proofs.lemmas.reassembly_queue.UnassembledRuns.{all_around}
use Rattle.sctp_reassembly.proofs.lemmas.reassembly_queue.SerialPlaces.{after_one}
use Rattle.sctp_serial.specs.DataChunks.{following_tsn}

module _ (xs : List ChunkPayloadData) (first count : ℕ) (within : first + count ≤ length xs) where
  abbrev rest : List ChunkPayloadData
  rest = take first xs ++ drop (first + count) xs

  front_long : length (take first xs) ≡ first
  front_long = length-take-le first xs (omega arith)

  rest_long : length rest + count ≡ length xs
  rest_long = omega (arith, length-append (take first xs) (drop (first + count) xs), front_long, length-drop (first + count) xs)

  low : (k : ℕ) (d : ChunkPayloadData) → k < first → get_or rest k d ≡ get_or xs k d
  low k d lt = get_or_append_left (take first xs) (drop (first + count) xs) d k (omega (arith, front_long)) ∙ get_or-take first xs k d lt

  high : (j k : ℕ) (d : ChunkPayloadData) → first ≤ k → j ≡ k + count → get_or rest k d ≡ get_or xs j d
  high j k d le e =
      get_or-append_right (take first xs) (drop (first + count) xs) k d (omega (arith, front_long))
      ∙ get_or-drop (first + count) xs (k - length (take first xs)) d
      ∙ ap (λ i. get_or xs i d) (omega (arith, front_long))

  -- a run of what is left is one of the whole list, unless it goes over the seam
  run_low : (f n : ℕ) → IsRun rest f n → f + n ≤ first → IsRun xs f n
  run_low f n r short = record {
    some = r.some;
    in_range = omega arith;
    begins = λ d. ap (λ (c : ChunkPayloadData). c.beginning_fragment) (sym (low f d (omega (arith, r.some)))) ∙ r.begins d;
    no_other = λ k d lt in_run. ap (λ (c : ChunkPayloadData). c.beginning_fragment) (sym (low k d (omega arith))) ∙ r.no_other k d lt in_run;
    rising = λ k d ge lt. ap (λ (c : ChunkPayloadData). c.tsn) (sym (low (k + 1) d (omega arith))) ∙ r.rising k d ge lt
        ∙ ap (λ (c : ChunkPayloadData). following_tsn c.tsn) (low k d (omega arith));
    ends = λ d. ap (λ (c : ChunkPayloadData). c.ending_fragment) (sym (low (f + n - 1) d (omega (arith, r.some)))) ∙ r.ends d;
  }

  run_high : (f n : ℕ) → IsRun rest f n → first ≤ f → IsRun xs (f + count) n
  run_high f n r from = record {
    some = r.some;
    in_range = omega (arith, r.in_range, rest_long);
    begins = λ d. ap (λ (c : ChunkPayloadData). c.beginning_fragment) (sym (high (f + count) f d from (omega arith))) ∙ r.begins d;
    no_other = λ k d lt in_run. ap (λ (c : ChunkPayloadData). c.beginning_fragment) (sym (high k (k - count) d (omega arith) (omega arith)))
        ∙ r.no_other (k - count) d (omega arith) (omega arith);
    rising = λ k d ge lt. ap (λ (c : ChunkPayloadData). c.tsn) (sym (high (k + 1) (k - count + 1) d (omega arith) (omega arith)))
        ∙ r.rising (k - count) d (omega arith) (omega arith)
        ∙ ap (λ (c : ChunkPayloadData). following_tsn c.tsn) (high k (k - count) d (omega arith) (omega arith));
    ends = λ d. ap (λ (c : ChunkPayloadData). c.ending_fragment) (sym (high (f + count + n - 1) (f + n - 1) d (omega (arith, r.some)) (omega (arith, r.some))))
        ∙ r.ends d;
  }

  -- and none goes over it
  no_seam : IsSerial xs → 0 < count → (f n : ℕ) → IsRun rest f n → f < first → first < f + n → ⊥
  no_seam serial some f n r before reaches =
      let d = an_element xs first (omega arith) in
      let long : first + count < length xs = omega (arith, r.in_range, rest_long) in
      let x = (get_or xs (first - 1) d).tsn in
      let q = (get_or xs first d).tsn in
      let y = (get_or xs (first + count) d).tsn in
      let e : y ≡ following_tsn x =
      ap (λ (c : ChunkPayloadData). c.tsn) (sym (high (first + count) (first - 1 + 1) d (omega arith) (omega arith)))
      ∙ r.rising (first - 1) d (omega arith) (omega arith)
      ∙ ap (λ (c : ChunkPayloadData). following_tsn c.tsn) (low (first - 1) d (omega arith)) in
      let small = serial.in_range (first - 1) d (omega arith) in
      let one = ap (distance x) e ∙ after_one x small in
      let to_q = before_is x q (serial.ascending (first - 1) first d (omega arith) (omega arith)) in
      let from_q = before_is q y (serial.ascending first (first + count) d (omega arith) long) in
      let sum = distance_sum x q y small (serial.in_range first d (omega arith)) (serial.in_range (first + count) d long) (omega arith) in
      omega arith

  -- so where each run held a place that was taken out, none is left
  none_left : IsSerial xs → 0 < count → (place : ℕ) (d : ChunkPayloadData) → first ≤ place → place < first + count → HasNoRun (remove xs place) → HasNoRun rest
  none_left serial some place d from to none f n r = elim (cases_lt first (f + n)) [
    | inl reaches ↦ elim (cases_lt f first) [
      | inl before ↦ no_seam serial some f n r before reaches
      | inr beyond ↦ let around = all_around xs place d (omega arith) none (f + count) n (run_high f n r beyond) in omega (arith, around.1)
    ]
    | inr short ↦ let around = all_around xs place d (omega arith) none f n (run_low f n r short) in omega (arith, around.2)
  ]

-- where the mark is on no run is left
abbrev pub NoneWhere : Bool → List ChunkPayloadData → Type 0
NoneWhere true xs = HasNoRun xs
NoneWhere false xs = Unit {0}

pub flag_after_take : (searched serial : Bool) (xs : List ChunkPayloadData) (place first count : ℕ) → place < length xs → IsFlag searched (remove xs place)
    → IsOrderFlag serial xs → IsRun xs first count → NoneWhere (searched && serial) (take first xs ++ drop (first + count) xs)
flag_after_take true true xs place first count lt none order run =
    let d = an_element xs place lt in
    let around = all_around xs place d lt none first count run in
    none_left xs first count run.in_range order run.some place d around.1 around.2 none
flag_after_take true false xs place first count lt none order run = tt
flag_after_take false serial xs place first count lt none order run = tt
