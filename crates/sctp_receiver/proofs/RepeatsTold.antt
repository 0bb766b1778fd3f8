-- TSNs that came again are told once for each time.
use Rattle.sctp_receiver.proofs.Names.{◌≡◌, ℕ, Bool, true, false, List, [], ◌∷◌, ◌++◌, take, drop, length, Option, Some, None, refl, ap, sym, ◌∙◌, arith}
use Rattle.sctp_receiver.proofs.Names.{if◌then◌else◌, not, nat_tests, append-nil, length-append, length-take, take-append-drop, ChunkPayloadData, New, Repeat}
use Rattle.sctp_receiver.proofs.Names.{Limits, Reception, Accepts, filter_of, with_filter, noted_by, repeat_tsn, duplicates_answered, sack_entries, is_stale}
use Rattle.sctp_receiver.proofs.Names.{follow_forward_tsn, after_forward, Call, opens, closes, takes, discards, reports, reports_within, reads, resets}
use Rattle.sctp_receiver.proofs.Names.{forwards, forwards_by_names, Makes, without_incomplete, after_forward_tsn, has_come, with_tsn, AfterEachRunWithRepeats}
use Rattle.std.proofs.Common.{append_assoc}
use Rattle.sctp_receiver.specs.Receiver.{is_full_by}
use Rattle.sctp_receiver.specs.Duplicates.{Repeats, waiting, is_place, noted, repeats_after, none_again, AreToldOnce}
use Rattle.sctp_receiver.specs.Duplicates.{FillTheSack}
use Rattle.sctp_receiver.proofs.BesideRuns.{kept}

abbrev IsTold : Reception → Repeats → Type 0
IsTold r d = d.again ≡ d.told ++ r.duplicates

-- how many wait
few : (r : Reception) (d : Repeats) → IsTold r d → waiting d ≡ length r.duplicates
few r d t = let e = ap length t ∙ length-append d.told r.duplicates in omega (arith, e)

-- where there is a place for one more, it is noted
place-is : (limits : Option Limits) (ds : List ℕ) → is_place limits (length ds) ≡ not (is_full_by limits ds)
place-is None ds = refl
place-is (Some l) ds = grind (arith, nat_tests)

noted-more : (limits : Option Limits) (t : ℕ) (ds : List ℕ) → ds ++ noted (is_place limits (length ds)) (t ∷ []) ≡ noted_by limits t ds
noted-more limits t ds = ap (λ b. ds ++ noted b (t ∷ [])) (place-is limits ds) ∙ by (is_full_by limits ds)
  where
    by : (b : Bool) → ds ++ noted (not b) (t ∷ []) ≡ (if b then ds else ds ++ t ∷ [])
    by true = append-nil ds
    by false = refl

repeated : (t : ℕ) (r : Reception) (d : Repeats) → IsTold r d
    → d.again ++ noted (is_place r.limits (waiting d)) (t ∷ []) ≡ d.told ++ noted_by r.limits t r.duplicates
repeated t r d e =
    ap (λ xs. xs ++ noted (is_place r.limits (waiting d)) (t ∷ [])) e
    ∙ append_assoc d.told r.duplicates (noted (is_place r.limits (waiting d)) (t ∷ []))
    ∙ ap (λ n. d.told ++ (r.duplicates ++ noted (is_place r.limits n) (t ∷ []))) (few r d e)
    ∙ ap (λ xs. d.told ++ xs) (noted-more r.limits t r.duplicates)

none-noted : (b : Bool) → noted b [] ≡ []
none-noted true = refl
none-noted false = refl

-- none came again, and the duplicates stay
stays : (r new : Reception) (d : Repeats) → new.duplicates ≡ r.duplicates → IsTold r d
    → d.again ++ noted (is_place r.limits (waiting d)) [] ≡ d.told ++ new.duplicates
stays r new d same e =
    ap (λ xs. d.again ++ xs) (none-noted (is_place r.limits (waiting d))) ∙ append-nil d.again ∙ e ∙ ap (λ xs. d.told ++ xs) (sym same)

accepted-duplicates : (c : ChunkPayloadData) (complete : Bool) (old new : Reception) → Accepts c complete old new → new.duplicates ≡ old.duplicates
accepted-duplicates c complete old new a = ap (λ (r : Reception). r.duplicates) a.after

module _ (r : Reception) where
  pub forwarded-duplicates : (b : Bool) (n : Reception) → n.duplicates ≡ r.duplicates → (if b then r else n).duplicates ≡ r.duplicates
  forwarded-duplicates true n e = refl
  forwarded-duplicates false n e = e

step : (c : Call) (old new : Reception) (d : Repeats) → Makes c old new → IsTold old d → IsTold new (repeats_after c old d)
step (opens stream) old new d m e = stays old new d (ap (λ (r : Reception). r.duplicates) m.1) e
step (closes stream) old new d m e = stays old new d (ap (λ (r : Reception). r.duplicates) m) e
step (takes c (New complete)) old new d m e = stays old new d (accepted-duplicates c complete old new m) e
step (takes c Repeat) old new d m e = repeated c.tsn old d e ∙ ap (λ (r : Reception). d.told ++ r.duplicates) (sym m)
step (discards tsn) old new d m e = by (has_come tsn (filter_of old)) ∙ ap (λ (r : Reception). d.told ++ r.duplicates) (sym m)
  where
    by : (b : Bool) → d.again ++ noted (is_place old.limits (waiting d)) (if b then tsn ∷ [] else [])
        ≡ d.told ++ (if b then repeat_tsn tsn old else with_filter (with_tsn tsn (filter_of old)) old).duplicates
    by true = repeated tsn old d e
    by false = stays old old d refl e
step reports old new d m e =
    ap (λ xs. d.again ++ xs) (none-noted (is_place old.limits (waiting d))) ∙ ap (λ (r : Reception). d.again ++ r.duplicates) (sym m)
step (reports_within bytes) old new d m e =
    let n = duplicates_answered (sack_entries bytes) old in
    ap (λ xs. d.again ++ xs) (none-noted (is_place old.limits (waiting d))) ∙ append-nil d.again ∙ e
    ∙ ap (λ xs. d.told ++ xs) (sym (take-append-drop n old.duplicates))
    ∙ sym (append_assoc d.told (take n old.duplicates) (drop n old.duplicates))
    ∙ ap (λ (r : Reception). (d.told ++ take n old.duplicates) ++ r.duplicates) (sym m)
step (reads stream) old new d m e = stays old new d (ap (λ (r : Reception). r.duplicates) m) e
step (resets stream last) old new d m e = stays old new d (ap (λ (r : Reception). r.duplicates) m) e
step (forwards g) old new d m e = stays old new d (ap (λ (r : Reception). r.duplicates) m ∙ skipped) e
  where
    followed : (after_forward g old).duplicates ≡ old.duplicates
    followed = forwarded-duplicates old (is_stale g old) (follow_forward_tsn g old) refl

    skipped : (after_forward_tsn g old).duplicates ≡ old.duplicates
    skipped = forwarded-duplicates old (is_stale g old) (without_incomplete g.new_cumulative_tsn (after_forward g old)) followed
step (forwards_by_names g) old new d m e =
    stays old new d (ap (λ (r : Reception). r.duplicates) m ∙ forwarded-duplicates old (is_stale g old) (follow_forward_tsn g old) refl) e

-- ## The laws

pub once : AfterEachRunWithRepeats AreToldOnce
once tsn max limits calls s d r = kept repeats_after IsTold step calls _ s none_again d r refl

pub fill : AfterEachRunWithRepeats FillTheSack
fill tsn max limits calls s d r = λ room.
    let e = few s.receiver d (once tsn max limits calls s d r) in
    let k = length-take (duplicates_answered (sack_entries room) s.receiver) s.receiver.duplicates in
    omega (arith, e, k)
