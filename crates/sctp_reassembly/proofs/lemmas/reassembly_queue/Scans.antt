-- A scan of unassembled fragments for the run that ends earliest.
use Rattle.std.proofs.Common.{◌≡◌, ℕ, ◌+◌, ◌-◌, ◌<◌, ◌≤◌, ◌==◌, ◌⊎◌, Bool, true, false, if◌then◌else◌, Option, Some, None, MatchOption, List, length, get_or}
use Rattle.std.proofs.Common.{refl, sym, ap, subst, ◌∙◌, inl, inr, arith}
use Rattle.std.proofs.lemmas.Bool.{cases_eq, cases_lt, false≢true}
use Rattle.std.proofs.lemmas.Bool.Decides.{nat_tests}
use Rattle.std.proofs.lemmas.List.{get_or_default}
use Rattle.sctp_data.specs.declared.chunk.chunk_payload_data.ChunkPayloadData.{ChunkPayloadData}
use Rattle.sctp_reassembly.specs.reassembly_queue.Around.{IsStart, HasNoStart}
use Rattle.sctp_serial.specs.DataChunks.{following_tsn}
use Rattle.sctp_serial.specs.Runs.{IsRun, IsEarliestRun}

-- where a run that holds the place may begin
abbrev pub StartAt : List ChunkPayloadData → ℕ → Option ℕ → Type 0
StartAt xs place start = MatchOption start (HasNoStart xs place) (λ f. IsStart xs place f)

-- none was found in front of the place
pub record Scanned (xs : List ChunkPayloadData) (place : ℕ) (start : Option ℕ) (tsn : ℕ) : Type 0 where
  pub number : 0 < place → (d : ChunkPayloadData) → (get_or xs (place - 1) d).tsn ≡ tsn
  pub begun : 0 < place → StartAt xs (place - 1) start
  pub front : place ≡ 0 → start ≡ None
  pub none : (f n : ℕ) → IsRun xs f n → place < f + n

pub scanned_none : (xs : List ChunkPayloadData) → Scanned xs 0 None 0
scanned_none xs = record {
  number = λ pos. absurd (omega arith);
  begun = λ pos. absurd (omega arith);
  front = λ e. refl;
  none = λ f n r. omega (arith, r.some);
}

-- what the fragment at the place makes of it
abbrev pub next_start : Option ℕ → ℕ → ℕ → ChunkPayloadData → Option ℕ
next_start start place tsn x = if x.beginning_fragment then Some place else (if x.tsn == following_tsn tsn then start else None)

module _ (xs : List ChunkPayloadData) (place : ℕ) (x : ChunkPayloadData) (read : x ≡ get_or xs place x) (lt : place < length xs) where
  here : (d : ChunkPayloadData) → get_or xs place d ≡ x
  here d = get_or_default xs place d x lt ∙ sym read

  begins : x.beginning_fragment ≡ true → IsStart xs place place
  begins b = record {
    at_or_before = omega arith;
    begins = λ d. ap (λ (c : ChunkPayloadData). c.beginning_fragment) (here d) ∙ b;
    no_other = λ k d low le. absurd (omega arith);
    rising = λ k d ge low. absurd (omega arith);
  }

  module _ (plain : x.beginning_fragment ≡ false) where
    -- it begins in front of there
    in_front : (f : ℕ) → IsStart xs place f → f < place
    in_front f s = elim (cases_eq f place) [
      | inl same ↦ absurd (false≢true (sym plain ∙ sym (ap (λ (c : ChunkPayloadData). c.beginning_fragment) (here x))
          ∙ ap (λ i. (get_or xs i x).beginning_fragment) (sym same) ∙ s.begins x))
      | inr apart ↦ omega (arith, s.at_or_before)
    ]

    shorter : (f : ℕ) → IsStart xs place f → f < place → IsStart xs (place - 1) f
    shorter f s low = record {
      at_or_before = omega arith;
      begins = s.begins;
      no_other = λ k d up le. s.no_other k d up (omega arith);
      rising = λ k d ge up. s.rising k d ge (omega arith);
    }

    joins : (tsn : ℕ) → (f : ℕ) → IsStart xs place f → f < place → ((d : ChunkPayloadData) → (get_or xs (place - 1) d).tsn ≡ tsn) → x.tsn ≡ following_tsn tsn
    joins tsn f s low number =
        ap (λ (c : ChunkPayloadData). c.tsn) (sym (here x)) ∙ ap (λ i. (get_or xs i x).tsn) {x = place} {y = place - 1 + 1} (omega arith)
        ∙ s.rising (place - 1) x (omega arith) (omega arith) ∙ ap (λ t. following_tsn t) (number x)

    longer : (tsn : ℕ) → (f : ℕ) → 0 < place → IsStart xs (place - 1) f → ((d : ChunkPayloadData) → (get_or xs (place - 1) d).tsn ≡ tsn)
        → x.tsn ≡ following_tsn tsn → IsStart xs place f
    longer tsn f pos s number on = record {
      at_or_before = omega (arith, s.at_or_before);
      begins = s.begins;
      no_other = λ k d up le. elim (cases_eq k place) [
        | inl same ↦ ap (λ i. (get_or xs i d).beginning_fragment) same ∙ ap (λ (c : ChunkPayloadData). c.beginning_fragment) (here d) ∙ plain
        | inr apart ↦ s.no_other k d up (omega arith)
      ];
      rising = λ k d ge up. elim (cases_eq (k + 1) place) [
        | inl same ↦ ap (λ i. (get_or xs i d).tsn) same ∙ ap (λ (c : ChunkPayloadData). c.tsn) (here d) ∙ on
            ∙ ap (λ t. following_tsn t) (sym (number d)) ∙ ap (λ i. following_tsn (get_or xs i d).tsn) {x = place - 1} {y = k} (omega arith)
        | inr apart ↦ s.rising k d ge (omega arith)
      ];
    }

  module _ (start : Option ℕ) (tsn : ℕ) (h : Scanned xs place start tsn) where
    next_is : StartAt xs place (next_start start place tsn x)
    next_is = elim (bool_cases x.beginning_fragment) [
      | inl plain ↦ elim (bool_cases (x.tsn == following_tsn tsn)) [
        | inl other ↦ rw (plain, other) (λ f s.
            let low = in_front plain f s in
            let on = joins plain tsn f s low (h.number (omega arith)) in
            false≢true (sym other ∙ grind (arith, nat_tests)))
        | inr same ↦ rw (plain, same) (extend plain (grind (arith, nat_tests)) start h.front h.begun)
      ]
      | inr first ↦ rw first (begins first)
    ]
      where
        bool_cases : (b : Bool) → (b ≡ false) ⊎ (b ≡ true)
        bool_cases true = inr refl
        bool_cases false = inl refl

        extend : x.beginning_fragment ≡ false → x.tsn ≡ following_tsn tsn → (s : Option ℕ) → (place ≡ 0 → s ≡ None) → (0 < place → StartAt xs (place - 1) s)
            → StartAt xs place s
        extend plain on None front was = λ f s. let low = in_front plain f s in was (omega arith) f (shorter plain f s low)
        extend plain on (Some f) front was = elim (cases_eq place 0) [
          | inl zero_place ↦ absurd (none_some f (front zero_place))
          | inr pos ↦ longer plain tsn f (omega arith) (was (omega arith)) (h.number (omega arith)) on
        ]
          where
            none_some : (n : ℕ) → Some n ≡ None → ⊥
            none_some n e = cc

    -- the run of which the fragment is the last one
    pub scan_found : (f : ℕ) → x.ending_fragment ≡ true → next_start start place tsn x ≡ Some f → IsEarliestRun xs f (place + 1 - f)
    scan_found f ends is =
        let s = subst (StartAt xs place) is next_is in
        let le = s.at_or_before in
        record {
          run = record {
            some = omega arith;
            in_range = omega arith;
            begins = s.begins;
            no_other = λ k d up short. s.no_other k d up (omega arith);
            rising = λ k d ge up. s.rising k d ge (omega arith);
            ends = λ d. ap (λ i. (get_or xs i d).ending_fragment) {x = f + (place + 1 - f) - 1} {y = place} (omega arith)
                ∙ ap (λ (c : ChunkPayloadData). c.ending_fragment) (here d) ∙ ends;
          };
          earliest = λ g n r. omega (arith, h.none g n r, le);
        }

    pub scan_start : (f : ℕ) → next_start start place tsn x ≡ Some f → f ≤ place
    scan_start f is = (subst (StartAt xs place) is next_is).at_or_before

    -- else none ends there
    pub scan_on : (x.ending_fragment ≡ true → next_start start place tsn x ≡ None) → Scanned xs (place + 1) (next_start start place tsn x) x.tsn
    scan_on not_both = record {
      number = λ pos d. ap (λ i. (get_or xs i d).tsn) {x = place + 1 - 1} {y = place} (omega arith) ∙ ap (λ (c : ChunkPayloadData). c.tsn) (here d);
      begun = λ pos. subst (λ i. StartAt xs i (next_start start place tsn x)) {x = place} (omega arith) next_is;
      front = λ e. absurd (omega arith);
      none = λ f n r. elim (cases_lt (place + 1) (f + n)) [
        | inl beyond ↦ beyond
        | inr upto ↦
            let at : f + n - 1 ≡ place = omega (arith, h.none f n r) in
            let ends : x.ending_fragment ≡ true = ap (λ (c : ChunkPayloadData). c.ending_fragment) (sym (here x))
            ∙ ap (λ i. (get_or xs i x).ending_fragment) (sym at) ∙ r.ends x in
            let none = subst (StartAt xs place) (not_both ends) next_is in
            absurd (none f record {
              at_or_before = omega (arith, r.some);
              begins = r.begins;
              no_other = λ k d up le. r.no_other k d up (omega (arith, r.some));
              rising = λ k d ge up. r.rising k d ge (omega arith);
            })
      ];
    }
