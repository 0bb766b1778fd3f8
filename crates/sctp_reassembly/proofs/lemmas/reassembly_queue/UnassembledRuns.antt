-- Runs in a list of unassembled fragments.
use Rattle.std.proofs.Common.{◌≡◌, ◌≢◌, ℕ, ◌+◌, ◌-◌, ◌<◌, ◌≤◌, Bool, true, false, List, length, get_or, drop, length-drop, get_or-drop, sym, refl, ap, ◌∙◌}
use Rattle.std.proofs.Common.{subst, inl, inr, arith}
use Rattle.std.proofs.lemmas.Bool.{cases_lt, cases_eq, false≢true}
use Rattle.std.proofs.Common.{Option, Some, None, IfSome, IfNone}
use Rattle.std.specs.List.{insert, remove}
use Rattle.std.proofs.lemmas.List.Edits.{length-remove}
use Rattle.sctp_reassembly.specs.reassembly_queue.Loose.{IsFlag}
use Rattle.sctp_serial.proofs.lemmas.ListEdits.{insert-remove}
use Rattle.std.proofs.lemmas.List.{get_or_default}
use Rattle.std.proofs.lemmas.List.Edits.{length-insert, get_or-insert_below, get_or-insert_above}
use Rattle.sctp_data.specs.declared.chunk.chunk_payload_data.ChunkPayloadData.{ChunkPayloadData}
use Rattle.sctp_serial.specs.Runs.{IsRising, IsRun, IsEarliestRun, IsRunAround, IsEarliestRunAround, HasNoRun, HasNoRunAround, IsStretch}
use Rattle.sctp_reassembly.specs.reassembly_queue.Around.{IsStart, HasNoStart, IsEnd, IsFirstEnding, HasNoEnd}
use Rattle.sctp_serial.specs.DataChunks.{following_tsn}
use Rattle.sctp_serial.specs.Window.{IsSerial}

module _ (xs : List ChunkPayloadData) (place : ℕ) where
  -- what rises to the place lies in its stretch
  pub stretch_from : (s t : ℕ) → IsStretch xs place s t → (first : ℕ) (d : ChunkPayloadData) → first ≤ place → IsRising xs first place → s ≤ first
  stretch_from s t w first d le r = elim (cases_lt first s) [
    | inl low ↦ absurd (w.starts (omega arith) d (subst (λ i. (get_or xs i d).tsn ≡ following_tsn (get_or xs (s - 1) d).tsn) {x = s - 1 + 1} (omega arith)
        (r (s - 1) d (omega arith) (omega (arith, w.holds_from)))))
    | inr high ↦ high
  ]

  pub stretch_to : (s t : ℕ) → IsStretch xs place s t → (last : ℕ) (d : ChunkPayloadData) → place ≤ last → last < length xs → IsRising xs place last → last ≤ t
  stretch_to s t w last d le lt r = elim (cases_lt t last) [
    | inl high ↦ absurd (w.stops (omega arith) d (r t d w.holds_to high))
    | inr low ↦ low
  ]

  module _ (first : ℕ) (x : ChunkPayloadData) (read : x ≡ get_or xs first x) (plain : x.beginning_fragment ≡ false) (le : first ≤ place)
      (within : place < length xs) (no_other : (k : ℕ) (d : ChunkPayloadData) → first < k → k ≤ place → (get_or xs k d).beginning_fragment ≡ false) where
    -- no run begins from here on
    none_from : (f : ℕ) → IsStart xs place f → first ≤ f → ⊥
    none_from f s from = elim (cases_eq f first) [
      | inl same ↦ false≢true (sym plain ∙ ap (λ (c : ChunkPayloadData). c.beginning_fragment) read ∙ ap (λ i. (get_or xs i x).beginning_fragment) (sym same)
          ∙ s.begins x)
      | inr apart ↦ false≢true (sym (no_other f x (omega arith) s.at_or_before) ∙ s.begins x)
    ]

    pub none_at_zero : first ≡ 0 → HasNoStart xs place
    none_at_zero zero f s = none_from f s (omega arith)

    pub none_at_break : (y : ChunkPayloadData) → 0 < first → y ≡ get_or xs (first - 1) y → x.tsn ≢ following_tsn y.tsn → HasNoStart xs place
    none_at_break y pos read_y breaks f s = elim (cases_lt f first) [
      | inl low ↦ breaks (
          ap (λ (c : ChunkPayloadData). c.tsn) read ∙ ap (λ i. (get_or xs i x).tsn) {x = first} {y = first - 1 + 1} (omega arith)
          ∙ s.rising (first - 1) x (omega arith) (omega arith)
          ∙ ap (λ (c : ChunkPayloadData). following_tsn c.tsn) (get_or_default xs (first - 1) x y (omega arith) ∙ sym read_y)
          )
      | inr high ↦ none_from f s high
    ]

  module _ (last : ℕ) (x : ChunkPayloadData) (read : x ≡ get_or xs last x) (open_end : x.ending_fragment ≡ false) (le : place ≤ last)
      (within : last < length xs) (first_ending : IsFirstEnding xs place last) where
    -- no run ends up to here
    none_upto : (e : ℕ) → IsEnd xs place e → e ≤ last → ⊥
    none_upto e h to = elim (cases_eq e last) [
      | inl same ↦
          false≢true (sym open_end ∙ ap (λ (c : ChunkPayloadData). c.ending_fragment) read ∙ ap (λ i. (get_or xs i x).ending_fragment) (sym same) ∙ h.ends x)
      | inr apart ↦ false≢true (sym (first_ending e x h.at_or_after (omega arith)) ∙ h.ends x)
    ]

    pub none_at_last : last + 1 ≡ length xs → HasNoEnd xs place
    none_at_last at_end e h = none_upto e h (omega (arith, h.in_range))

    pub none_at_beginning : (y : ChunkPayloadData) → y ≡ get_or xs (last + 1) y → y.beginning_fragment ≡ true → HasNoEnd xs place
    none_at_beginning y read_y begins e h = elim (cases_lt last e) [
      | inl high ↦
          false≢true (sym (h.no_other (last + 1) y (omega arith) (omega arith)) ∙ ap (λ (c : ChunkPayloadData). c.beginning_fragment) (sym read_y) ∙ begins)
      | inr low ↦ none_upto e h low
    ]

    pub none_at_gap : (y : ChunkPayloadData) → last + 1 < length xs → y ≡ get_or xs (last + 1) y → y.tsn ≢ following_tsn x.tsn → HasNoEnd xs place
    none_at_gap y short read_y breaks e h = elim (cases_lt last e) [
      | inl high ↦ breaks (
          ap (λ (c : ChunkPayloadData). c.tsn) (read_y ∙ get_or_default xs (last + 1) y x short) ∙ h.rising last x le high
          ∙ ap (λ (c : ChunkPayloadData). following_tsn c.tsn) (sym read)
          )
      | inr low ↦ none_upto e h low
    ]

  -- both halves of a run that holds the place
  pub start_of : (f n : ℕ) → IsRunAround xs place f n → IsStart xs place f
  start_of f n (run, from, to) = record {
    at_or_before = from;
    begins = run.begins;
    no_other = λ k d lt le. run.no_other k d lt (omega arith);
    rising = λ k d ge lt. run.rising k d ge (omega arith);
  }

  pub end_of : (f n : ℕ) → IsRunAround xs place f n → IsEnd xs place (f + n - 1)
  end_of f n (run, from, to) = record {
    at_or_after = omega arith;
    in_range = omega (arith, run.in_range);
    no_other = λ k d lt le. run.no_other k d (omega arith) (omega arith);
    rising = λ k d ge lt. run.rising k d (omega arith) lt;
    ends = run.ends;
  }

  -- and the run of two halves
  pub joined : (x : ChunkPayloadData) (first last : ℕ) → IsStart xs place first → IsEnd xs place last → IsFirstEnding xs place last
      → IsEarliestRunAround xs place first (last + 1 - first)
  joined x first last s e earliest =
      let le = s.at_or_before in let ge = e.at_or_after in
      let same : first + (last + 1 - first) ≡ last + 1 = omega arith in
      let same_last : first + (last + 1 - first) - 1 ≡ last = omega arith in
      record {
        around = (
          record {
            some = omega arith;
            in_range = omega (arith, e.in_range);
            begins = s.begins;
            no_other = λ k d lt short. elim (cases_lt place k) [ inl after ↦ e.no_other k d after (omega arith) | inr upto ↦ s.no_other k d lt upto ];
            rising = λ k d from lt. elim (cases_lt k place) [ inl before ↦ s.rising k d from before | inr after ↦ e.rising k d after (omega arith) ];
            ends = λ d. subst (λ i. (get_or xs i d).ending_fragment ≡ true) (sym same_last) (e.ends d);
          },
          le,
          omega arith,
        );
        earliest = λ f n r. let h = end_of f n r in elim (cases_lt (f + n - 1) last) [
          | inl low ↦ absurd (false≢true (sym (earliest (f + n - 1) x h.at_or_after low) ∙ h.ends x))
          | inr high ↦ omega (arith, r.0.some)
        ];
      }

-- a run before the new fragment was there
same_below : (xs : List ChunkPayloadData) (place : ℕ) (x : ChunkPayloadData) → place ≤ length xs → (f n : ℕ) → IsRun (insert xs place x) f n → f + n ≤ place
    → IsRun xs f n
same_below xs place x le f n r short =
    let at : (k : ℕ) (d : ChunkPayloadData) → k < place
    → get_or xs k d ≡ get_or (insert xs place x) k d = λ k d lt. sym (get_or-insert_below xs place x d k lt le) in
    record {
      some = r.some;
      in_range = omega arith;
      begins = λ d. ap (λ (c : ChunkPayloadData). c.beginning_fragment) (at f d (omega (arith, r.some))) ∙ r.begins d;
      no_other = λ k d lt in_run. ap (λ (c : ChunkPayloadData). c.beginning_fragment) (at k d (omega arith)) ∙ r.no_other k d lt in_run;
      rising = λ k d ge lt. ap (λ (c : ChunkPayloadData). c.tsn) (at (k + 1) d (omega arith)) ∙ r.rising k d ge lt
          ∙ ap (λ (c : ChunkPayloadData). following_tsn c.tsn) (sym (at k d (omega arith)));
      ends = λ d. ap (λ (c : ChunkPayloadData). c.ending_fragment) (at (f + n - 1) d (omega (arith, r.some))) ∙ r.ends d;
    }

-- and a run behind it stood one place lower
shifted_down : (xs : List ChunkPayloadData) (place : ℕ) (x : ChunkPayloadData) → place ≤ length xs → (f n : ℕ) → IsRun (insert xs place x) f n → place < f
    → IsRun xs (f - 1) n
shifted_down xs place x le f n r beyond =
    let len = length-insert xs place x le in
    let at : (k : ℕ) (d : ChunkPayloadData) → place ≤ k
    → get_or xs k d ≡ get_or (insert xs place x) (k + 1) d = λ k d ge. sym (get_or-insert_above xs place x d k ge le) in
    let from : (j k : ℕ) (d : ChunkPayloadData) → j ≡ k + 1 → place ≤ k
    → get_or xs k d ≡ get_or (insert xs place x) j d = λ j k d e ge. subst (λ i. get_or xs k d ≡ get_or (insert xs place x) i d) (sym e) (at k d ge) in
    record {
      some = r.some;
      in_range = omega (arith, r.in_range, len);
      begins = λ d. ap (λ (c : ChunkPayloadData). c.beginning_fragment) (from f (f - 1) d (omega arith) (omega arith)) ∙ r.begins d;
      no_other = λ k d lt in_run. ap (λ (c : ChunkPayloadData). c.beginning_fragment) (at k d (omega arith)) ∙ r.no_other (k + 1) d (omega arith) (omega arith);
      rising = λ k d ge lt. ap (λ (c : ChunkPayloadData). c.tsn) (at (k + 1) d (omega arith)) ∙ r.rising (k + 1) d (omega arith) (omega arith)
          ∙ ap (λ (c : ChunkPayloadData). following_tsn c.tsn) (sym (at k d (omega arith)));
      ends = λ d. ap (λ (c : ChunkPayloadData). c.ending_fragment) (from (f + n - 1) (f - 1 + n - 1) d (omega (arith, r.some)) (omega (arith, r.some)))
          ∙ r.ends d;
    }

-- cutting off a front makes none
pub none_after_drop : (xs : List ChunkPayloadData) (count : ℕ) → count ≤ length xs → HasNoRun xs → HasNoRun (drop count xs)
none_after_drop xs count le none f n r =
    let len = length-drop count xs in
    let at : (j k : ℕ) (d : ChunkPayloadData) → j ≡ count + k → get_or xs j d ≡ get_or (drop count xs) k d =
    λ j k d e. subst (λ i. get_or xs i d ≡ get_or (drop count xs) k d) (sym e) (sym (get_or-drop count xs k d)) in
    none (count + f) n record {
      some = r.some;
      in_range = omega (arith, r.in_range, len);
      begins = λ d. ap (λ (c : ChunkPayloadData). c.beginning_fragment) (at (count + f) f d refl) ∙ r.begins d;
      no_other = λ k d lt in_run. ap (λ (c : ChunkPayloadData). c.beginning_fragment) (at k (k - count) d (omega arith))
          ∙ r.no_other (k - count) d (omega arith) (omega arith);
      rising = λ k d ge lt. ap (λ (c : ChunkPayloadData). c.tsn) (at (k + 1) (k - count + 1) d (omega arith))
          ∙ r.rising (k - count) d (omega arith) (omega arith) ∙ ap (λ (c : ChunkPayloadData). following_tsn c.tsn) (sym (at k (k - count) d (omega arith)));
      ends = λ d. ap (λ (c : ChunkPayloadData). c.ending_fragment) (at (count + f + n - 1) (f + n - 1) d (omega (arith, r.some))) ∙ r.ends d;
    }

-- where none is left without the fragment at the place, each run holds the place
pub all_around : (xs : List ChunkPayloadData) (place : ℕ) (d : ChunkPayloadData) → place < length xs → HasNoRun (remove xs place) → (f n : ℕ) → IsRun xs f n
    → IsRunAround xs place f n
all_around xs place d lt none f n r =
    let ys = remove xs place in
    let len = length-remove xs place lt in
    let le : place ≤ length ys = omega arith in
    let r' = subst (λ zs. IsRun zs f n) (sym (insert-remove xs place d lt)) r in
    elim (cases_lt place (f + n)) [
      | inl reaches ↦ elim (cases_lt place f) [
        | inl beyond ↦ absurd (none (f - 1) n (shifted_down ys place (get_or xs place d) le f n r' beyond))
        | inr upto ↦ (r, upto, reaches)
      ]
      | inr short ↦ absurd (none f n (same_below ys place (get_or xs place d) le f n r' short))
    ]

pub earliest_of_around : (xs : List ChunkPayloadData) (place : ℕ) (d : ChunkPayloadData) → place < length xs → HasNoRun (remove xs place)
    → (run : Option (ℕ × ℕ)) → IfSome run (λ r. IsEarliestRunAround xs place r.0 r.1) → IfSome run (λ r. IsEarliestRun xs r.0 r.1)
earliest_of_around xs place d lt none None h = tt
earliest_of_around xs place d lt none (Some (f, n)) h = record { run = h.around.0; earliest = λ g m r. h.earliest g m (all_around xs place d lt none g m r) }

pub none_of_around : (xs : List ChunkPayloadData) (place : ℕ) (d : ChunkPayloadData) → place < length xs → HasNoRun (remove xs place) → (run : Option (ℕ × ℕ))
    → IfNone run (HasNoRunAround xs place) → IfNone run (HasNoRun xs)
none_of_around xs place d lt none None h = λ f n r. h f n (all_around xs place d lt none f n r)
none_of_around xs place d lt none (Some r) h = tt

-- what the mark of a search says where it is on, and that it is on in serial order without a run
pub no_run_on : (flag : Bool) (xs : List ChunkPayloadData) → flag ≡ true → IsFlag flag xs → HasNoRun xs
no_run_on flag xs on h = subst (λ b. IsFlag b xs) on h

pub searched_on : (flag : Bool) (xs : List ChunkPayloadData) → IsFlag flag xs → IsSerial xs → HasNoRun xs → flag ≡ true
searched_on true xs h serial none = refl
searched_on false xs h serial none = absurd (h serial none)

-- where the fragment at this place begins nothing, and neither TSN nor flag joins it to the one before
pub cut_before : (xs : List ChunkPayloadData) (place first : ℕ) (x : ChunkPayloadData) → x ≡ get_or xs first x → x.beginning_fragment ≡ false → first ≤ place
    → place < length xs → ((k : ℕ) (d : ChunkPayloadData) → first < k → k ≤ place → (get_or xs k d).beginning_fragment ≡ false) → HasNoRun (remove xs place)
    → (y : ChunkPayloadData) → 0 < first → y ≡ get_or xs (first - 1) y → y.ending_fragment ≡ true → HasNoRunAround xs place
cut_before xs place first x read plain le within no_other alone y pos read_y ends f n r =
    let s = start_of xs place f n r in
    elim (cases_lt f first) [
      | inl low ↦
          let at : f + (first - f) - 1 ≡ first - 1 = omega arith in
          let run : IsRun xs f (first - f) = record {
            some = omega arith;
            in_range = omega arith;
            begins = s.begins;
            no_other = λ k d lt short. s.no_other k d lt (omega arith);
            rising = λ k d ge lt. s.rising k d ge (omega arith);
            ends = λ d. ap (λ i. (get_or xs i d).ending_fragment) at
                ∙ ap (λ (c : ChunkPayloadData). c.ending_fragment) (get_or_default xs (first - 1) d y (omega arith) ∙ sym read_y) ∙ ends;
          } in
          let around = all_around xs place x within alone f (first - f) run in
          absurd (omega (arith, around.2))
      | inr high ↦ none_from xs place first x read plain le within no_other f s high
    ]
