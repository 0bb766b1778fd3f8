-- What the filter of TSNs tells of slots, and what calls make of it, against the record.
use Rattle.sctp_link.proofs.Names.{◌≡◌, ℕ, ◌+◌, ◌-◌, ◌<◌, ◌≤◌, ◌^◌, Bool, true, false, List, [], ◌∷◌, ◌++◌, length, map, refl, ap, sym, ◌∙◌, inl, inr, arith}
use Rattle.sctp_link.proofs.Names.{◌⊎◌, ◌==◌, ◌||◌, not, nat_le, nat_lt, list_any, filter, cases_lt, nat_tests, runs_of, advance_over, insert_before, Seen}
use Rattle.sctp_link.proofs.Names.{comes_before, fails, gap_offsets, is_offset, ends_of, LinkRecord, tsn_of, cumulative, is_new, receive_slot, FilterRecord}
use Rattle.sctp_link.proofs.Names.{filter_of, Valid, seen_of, Filter, has_come, is_opposite, with_tsn, with_duplicate, skipped_to, offsets, gap_ack_blocks}
use Rattle.sctp_link.proofs.Names.{placeholder, tsns-placeholder, filter_shown, cumulative-le, tsns, tsn_before, distance}
use Rattle.sctp_model.proofs.refinement.arriving.SlotDistances.{ahead, behind, back-before, back-past, past-front}
use Rattle.sctp_serial.specs.Window
use Rattle.sctp_model.proofs.refinement.arriving.FilterQueue.{new-is}
use Rattle.sctp_model.proofs.refinement.arriving.SlotArrives
use Rattle.sctp_receiver.specs.TsnFilter.{block_of}
use Rattle.sctp_link.proofs.tsns.Placeholders as Placeholders
use Rattle.sctp_util.specs.Serial.{at_or_before}
use Rattle.sctp_data.specs.declared.chunk.chunk_selective_ack.GapAckBlock.{GapAckBlock}

-- ## Which slots came

turned : (a b : Bool) → not a ≡ b → a ≡ not b
turned true b e = ap not e
turned false b e = ap not e

-- the TSNs beyond, as the placeholders that a queue keeps
pub tsns-beyond : (w : LinkRecord) (f : Filter) → filter_shown f ≡ filter_of w → tsns (map placeholder f.beyond) ≡ (seen_of w).held
tsns-beyond w f is = tsns-placeholder f.beyond ∙ ap (λ (r : FilterRecord). r.held) is

module _ (w : LinkRecord) (f : Filter) (made : w.skipped ≤ length w.slots) (few : length w.slots < 2 ^ 31) (is : filter_shown f ≡ filter_of w) where
  cumulative-is : f.cumulative_tsn ≡ tsn_before w.setup.first (cumulative w)
  cumulative-is = ap (λ (r : FilterRecord). r.cumulative) is

  -- it came where the record says that it is not new
  pub come-is : (p : ℕ) → p < length w.slots → has_come (tsn_of w p) f ≡ not (is_new w p)
  come-is p lt =
      let t = tsn_of w p in
      let queue : Window.is_new (map placeholder f.beyond) t f.cumulative_tsn ≡ not (has_come t f) =
      Placeholders.new-is (map placeholder f.beyond) t f.cumulative_tsn
      ∙ ap (λ ts. not (at_or_before t f.cumulative_tsn || list_any (λ u. u == t) ts)) (tsns-placeholder f.beyond) in
      turned (has_come t f) (is_new w p)
      (sym queue ∙ ap (Window.is_new (map placeholder f.beyond) t) cumulative-is ∙ new-is w (map placeholder f.beyond) made few (tsns-beyond w f is) p lt)

  far : (p : ℕ) → p < length w.slots → cumulative w ≤ p → distance f.cumulative_tsn (tsn_of w p) ≡ p + 1 - cumulative w
  far p lt le = ap (λ c. distance c (tsn_of w p)) cumulative-is ∙ ahead w.setup.first (cumulative w) p le (omega (arith, lt, few))

  -- no slot lies half the circle from the cumulative TSN
  pub near-is : (p : ℕ) → p < length w.slots → is_new w p ≡ true → is_opposite (tsn_of w p) f ≡ false
  near-is p lt new =
      let d = far p lt (past-front w p new) in
      fails (distance f.cumulative_tsn (tsn_of w p) == 2 ^ 31)
      (λ h. let e : distance f.cumulative_tsn (tsn_of w p) ≡ 2 ^ 31 = grind (arith, nat_tests) in omega (arith, d, e, lt, few))

  below : cumulative w < 2 ^ 31
  below = omega (arith, few, cumulative-le w made)

  -- no slot lies half the circle from the cumulative TSN
  pub never-opposite : (p : ℕ) → p < length w.slots → is_opposite (tsn_of w p) f ≡ false
  never-opposite p lt = fails (distance f.cumulative_tsn (tsn_of w p) == 2 ^ 31)
      (λ h. let e : distance f.cumulative_tsn (tsn_of w p) ≡ 2 ^ 31 = grind (arith, nat_tests) in by e (cases_lt p (cumulative w)))
    where
      by : distance f.cumulative_tsn (tsn_of w p) ≡ 2 ^ 31 → (p < cumulative w) ⊎ (cumulative w ≤ p) → ⊥
      by e (inl b) =
          let d = ap (λ c. distance c (tsn_of w p)) cumulative-is ∙ behind w.setup.first (cumulative w) p b below in
          omega (arith, d, e, b, below)
      by e (inr le) = omega (arith, far p lt le, e, lt, few)

  -- a slot is at or before the cumulative TSN where it is passed
  pub passed-is : (p : ℕ) → p < length w.slots → at_or_before (tsn_of w p) f.cumulative_tsn ≡ not (nat_le (cumulative w) p)
  unfolding at_or_before
  passed-is p lt = ap (λ c. nat_lt (distance (tsn_of w p) c) (2 ^ 31)) cumulative-is ∙ by (cases_lt p (cumulative w))
    where
      by : (p < cumulative w) ⊎ (cumulative w ≤ p)
          → nat_lt (distance (tsn_of w p) (tsn_before w.setup.first (cumulative w))) (2 ^ 31) ≡ not (nat_le (cumulative w) p)
      by (inl b) =
          let d = back-before w.setup.first (cumulative w) p b below in
          let on : nat_lt (distance (tsn_of w p) (tsn_before w.setup.first (cumulative w))) (2 ^ 31) ≡ true =
          (let t : distance (tsn_of w p) (tsn_before w.setup.first (cumulative w)) < 2 ^ 31 = omega (arith, d, below) in grind (arith, nat_tests)) in
          let off : nat_le (cumulative w) p ≡ false = grind (arith, nat_tests) in
          on ∙ ap not (sym off)
      by (inr le) =
          let d = back-past w.setup.first (cumulative w) p le (omega (arith, lt, few)) in
          let off : nat_lt (distance (tsn_of w p) (tsn_before w.setup.first (cumulative w))) (2 ^ 31) ≡ false =
          (let t : 2 ^ 31 ≤ distance (tsn_of w p) (tsn_before w.setup.first (cumulative w)) = omega (arith, d, lt, few) in grind (arith, nat_tests)) in
          let on : nat_le (cumulative w) p ≡ true = grind (arith, nat_tests) in
          off ∙ ap not (sym on)

-- ## What calls make of it

-- with a new TSN, in the words of the record
abbrev came : ℕ → FilterRecord → FilterRecord
came t r =
    let s : Seen = advance_over r.cumulative (insert_before comes_before t r.held) in
    record { cumulative = s.cum; held = s.held; duplicates = r.duplicates }

-- all up to a TSN counts as come, in these words
abbrev gone : ℕ → FilterRecord → FilterRecord
gone t r =
    let s : Seen = advance_over t (filter (λ u. not (at_or_before u t)) r.held) in
    record { cumulative = s.cum; held = s.held; duplicates = r.duplicates }

abbrev seen-with : List ℕ → Seen → FilterRecord
seen-with dups s = record { cumulative = s.cum; held = s.held; duplicates = dups }

-- a slot comes for the first time
pub filter-new : {w : LinkRecord} (p : ℕ) (f then' : Filter) → Valid w → p < length w.slots → is_new w p ≡ true → filter_shown f ≡ filter_of w
    → then' ≡ with_tsn (tsn_of w p) f → filter_shown then' ≡ filter_of (receive_slot w p)
filter-new {w} p f then' valid made new is e =
    ap filter_shown e ∙ ap (came (tsn_of w p)) is ∙ ap (seen-with (filter_of w).duplicates) (sym (SlotArrives.filter-slot w p valid made new))
    ∙ ap (λ d. seen-with d (seen_of (receive_slot w p))) (sym (SlotArrives.duplicates-slot w p new))

-- it comes again
pub filter-again : (w : LinkRecord) (p : ℕ) (f then' : Filter) → is_new w p ≡ false → filter_shown f ≡ filter_of w → then' ≡ with_duplicate (tsn_of w p) f
    → filter_shown then' ≡ filter_of (receive_slot w p)
filter-again w p f then' old is e =
    cc (e, ap {B = FilterRecord} (λ (r : FilterRecord). record r { duplicates = r.duplicates ++ tsn_of w p ∷ [] }) is, SlotArrives.repeated-filter w p old)

-- all up to a TSN counts as come
pub filter-gone : (w v : LinkRecord) (tsn : ℕ) (f then' : Filter) → filter_shown f ≡ filter_of w → then' ≡ skipped_to tsn f
    → seen_of v ≡ advance_over tsn (filter (λ t. not (at_or_before t tsn)) (seen_of w).held) → (filter_of v).duplicates ≡ (filter_of w).duplicates
    → filter_shown then' ≡ filter_of v
filter-gone w v tsn f then' is e seen same =
    ap filter_shown e ∙ ap (gone tsn) is ∙ ap (seen-with (filter_of w).duplicates) (sym seen) ∙ ap (λ d. seen-with d (seen_of v)) (sym same)

-- ## What a SACK says of it

distances-placeholders : (c : ℕ) (ts : List ℕ) → map (λ x. distance c x.tsn) (map placeholder ts) ≡ map (distance c) ts
distances-placeholders c [] = refl
distances-placeholders c (t ∷ ts) = ap (λ ds. distance c t ∷ ds) (distances-placeholders c ts)

ends-of-blocks : (rs : List (ℕ × ℕ)) → map ends_of (map block_of rs) ≡ rs
ends-of-blocks [] = refl
ends-of-blocks (r ∷ rs) = ap (λ l. r ∷ l) (ends-of-blocks rs)

pub blocks-of : (bs : List GapAckBlock) → map block_of (map ends_of bs) ≡ bs
blocks-of [] = refl
blocks-of (b ∷ bs) = ap (λ rest. b ∷ rest) (blocks-of bs)

-- its blocks are those of the queue of placeholders
pub blocks-ends : (f : Filter) → map ends_of (gap_ack_blocks f) ≡ runs_of (gap_offsets f.cumulative_tsn (map placeholder f.beyond))
blocks-ends f = ends-of-blocks (runs_of (offsets f)) ∙ ap (λ ds. runs_of (filter is_offset ds)) (sym (distances-placeholders f.cumulative_tsn f.beyond))
