-- The loops by which a SACK is taken: one slot after another is acknowledged.
use Rattle.sctp_link.proofs.Names.{◌≡◌, ℕ, ◌+◌, ◌-◌, ◌<◌, ◌≤◌, Bool, true, false, List, length, length-set, get_or, set, take, refl, ap, sym, ◌∙◌, inl, inr}
use Rattle.sctp_link.proofs.Names.{arith, ◌==◌, ◌&&◌, ◌||◌, nat_lt, nat_le, max, slice_index_or, list_any, cases_lt, cases_eq, eq-eqb, ne_eqb, lt-ltb, le-ltb}
use Rattle.sctp_link.proofs.Names.{le-leb, lt-leb, leb-true, ltb-true, get_or-set_same, get_or-set_other, same_test, GapAckBlock, LinkRecord, slot_at, Slot}
use Rattle.sctp_link.proofs.Names.{slot_record, IsMarking, and_one, and_run, and_blocks, in_block, or_assoc, or-none, or-true, and-none, and, list_any_more}
use Rattle.sctp_model.specs.LinkRecord as W

-- ## Tests that agree

-- what is acknowledged may be told by another test that agrees
pub marking-same : {w : LinkRecord} {s : ℕ → Bool} (t : ℕ → Bool) {slots : List Slot} → ((k : ℕ) → s k ≡ t k) → IsMarking w s slots → IsMarking w t slots
marking-same {w} t {slots} same i = record { count = i.count; slots = λ k d lt. i.slots k d lt ∙ ap (acknowledged_if (slot_at w k)) (same k) }
  where
    acknowledged_if : W.Slot → Bool → W.Slot
    acknowledged_if x b = record x { acknowledged = b }

-- ## One slot

-- the slot is marked
slots-marked : (w : LinkRecord) (acked : ℕ → Bool) (slots : List Slot) (p : ℕ) (r : Slot) → p < length slots
    → ((k : ℕ) (d : Slot) → k < length slots → slot_record (slice_index_or slots k d) ≡ record (slot_at w k) { acknowledged = acked k }) → (k : ℕ) (d : Slot)
    → k < length (set slots p (record (get_or slots p r) { acknowledged = true })) → slot_record
    (slice_index_or (set slots p (record (get_or slots p r) { acknowledged = true })) k d) ≡ record (slot_at w k) { acknowledged = and_one acked p k }
slots-marked w acked slots p r lt i k d within = elim (cases_eq k p) [
  | inl same ↦
      ap (λ j. slot_record (slice_index_or (set slots p marked) j d)) same ∙ ap slot_record (get_or-set_same slots p marked d lt) ∙ ap acknowledged' (i p r lt)
      ∙ ap (λ j. acknowledged' (slot_at w j)) (sym same)
      ∙ ap (λ b. with_mark b (slot_at w k)) (sym (ap (λ b. acked k || b) (eq-eqb k p same) ∙ or-true (acked k)))
  | inr other ↦
      ap slot_record (get_or-set_other slots p k marked d other) ∙ i k d (omega (arith, within, length-set slots p marked))
      ∙ ap (λ b. with_mark b (slot_at w k)) (sym (ap (λ b. acked k || b) (ne_eqb k p other) ∙ or-none (acked k)))
]
  where
    marked : Slot
    marked = record (get_or slots p r) { acknowledged = true }

    with_mark : Bool → W.Slot → W.Slot
    with_mark b x = record x { acknowledged = b }

    acknowledged' : W.Slot → W.Slot
    acknowledged' x = record x { acknowledged = true }

-- the slots, with this one acknowledged too
pub marking-one : {w : LinkRecord} {acked : ℕ → Bool} {slots : List Slot} (p : ℕ) (r : Slot) → p < length slots → IsMarking w acked slots
    → IsMarking w (and_one acked p) (set slots p (record (get_or slots p r) { acknowledged = true }))
marking-one {w} {acked} {slots} p r lt i = record { count = length-set slots p _ ∙ i.count; slots = slots-marked w acked slots p r lt i.slots }

-- ## A run of slots

join : (l a b c a' b' c' : Bool) → a ≡ a' → b ≡ b' → c ≡ c' → ((l && a') || b') ≡ (l && c') → ((l && a) || b) ≡ (l && c)
join l a b c a' b' c' e f g h = rw (e, f, g) h

-- one slot more at its end
pub run-more : (acked : ℕ → Bool) (from p : ℕ) → from ≤ p → (k : ℕ) → and_one (and_run acked from p) p k ≡ and_run acked from (p + 1) k
run-more acked from p le k =
    or_assoc (acked k) (nat_le from k && nat_lt k p) (k == p) ∙ ap (λ b. acked k || b) (elim (cases_lt k p) [
      | inl low ↦ join (nat_le from k) (nat_lt k p) (k == p) (nat_lt k (p + 1)) true false true (lt-ltb k p low) (ne_eqb k p (λ e. omega (arith, low, e)))
          (lt-ltb k (p + 1) (omega (arith, low))) (or-none (nat_le from k && true))
      | inr high ↦ elim (cases_eq k p) [
        | inl same ↦ here (nat_le from k) (nat_lt k p) (k == p) (nat_lt k (p + 1)) (le-leb from k (omega (arith, le, high))) (le-ltb k p high) (eq-eqb k p same)
            (lt-ltb k (p + 1) (omega (arith, same)))
        | inr other ↦ join (nat_le from k) (nat_lt k p) (k == p) (nat_lt k (p + 1)) false false false (le-ltb k p high) (ne_eqb k p other)
            (le-ltb k (p + 1) (past high other)) (or-none (nat_le from k && false))
      ]
    ])
  where
    here : (l a b c : Bool) → l ≡ true → a ≡ false → b ≡ true → c ≡ true → ((l && a) || b) ≡ (l && c)
    here l a b c e f g h = rw (e, f, g, h) refl

    past : p ≤ k → (k ≡ p → ⊥) → p + 1 ≤ k
    past high other = elim (cases_lt p k) [ inl lt ↦ omega (arith, lt) | inr le' ↦ absurd (other (omega (arith, high, le'))) ]

no-run : (from p k : ℕ) → p ≤ from → (nat_le from k && nat_lt k p) ≡ false
no-run from p k le = elim (cases_lt k from) [
  | inl low ↦ ap (λ t. t && nat_lt k p) (lt-leb from k low)
  | inr high ↦ ap (λ t. nat_le from k && t) (le-ltb k p (omega (arith, le, high))) ∙ and-none (nat_le from k)
]

-- all of them
pub run-all : (acked : ℕ → Bool) (from p to : ℕ) → to ≤ p → p ≤ max from to → (k : ℕ) → and_run acked from p k ≡ and_run acked from to k
run-all acked from p to le reach k = elim (cases_lt to from) [
  | inl empty ↦ ap (λ b. acked k || b) (no-run from p k (omega (arith, reach, empty)) ∙ sym (no-run from to k (omega (arith, empty))))
  | inr some ↦ let same : p ≡ to = omega (arith, le, reach, some) in ap (λ j. and_run acked from j k) same
]

-- ## Gap blocks

-- the run of a block is what it reports
run-is : (cumulative k : ℕ) (b : GapAckBlock) → (nat_le (cumulative + b.start - 1) k && nat_lt k (cumulative + b.end)) ≡ in_block cumulative k b
run-is cumulative k b =
    ap (λ x. x && nat_lt k (cumulative + b.end)) (same_test (nat_le (cumulative + b.start - 1) k) (nat_le (cumulative + b.start) (k + 1))
    (λ e. le-leb _ _ (omega (arith, leb-true _ _ e))) (λ e. le-leb _ _ (omega (arith, leb-true _ _ e))))
    ∙ ap (λ x. nat_le (cumulative + b.start) (k + 1) && x) (same_test (nat_lt k (cumulative + b.end)) (nat_le (k + 1) (cumulative + b.end))
    (λ e. le-leb _ _ (omega (arith, ltb-true _ _ e))) (λ e. lt-ltb _ _ (omega (arith, leb-true _ _ e))))

pub block-more : (acked : ℕ → Bool) (cumulative : ℕ) (bs : List GapAckBlock) (i : ℕ) (d : GapAckBlock) → i < length bs → (k : ℕ)
    → and_run (and_blocks acked cumulative (take i bs)) (cumulative + (slice_index_or bs i d).start - 1)
    (cumulative + (slice_index_or bs i d).end) k ≡ and_blocks acked cumulative (take (i + 1) bs) k
block-more acked cumulative bs i d lt k =
    ap (λ b. (acked k || list_any (in_block cumulative k) (take i bs)) || b) (run-is cumulative k (slice_index_or bs i d))
    ∙ or_assoc (acked k) (list_any (in_block cumulative k) (take i bs)) (in_block cumulative k (slice_index_or bs i d))
    ∙ ap (λ b. acked k || b) (sym (list_any_more (in_block cumulative k) bs i d lt))

-- its last slot is one that it reports
pub block-last : (cumulative : ℕ) (b : GapAckBlock) (k : ℕ) → cumulative + b.start - 1 < cumulative + b.end → k + 1 ≡ cumulative + b.end
    → in_block cumulative k b ≡ true
block-last cumulative b k lt e = sym (run-is cumulative k b)
    ∙ and (nat_le (cumulative + b.start - 1) k) (nat_lt k (cumulative + b.end)) (le-leb _ _ (omega (arith, lt, e))) (lt-ltb _ _ (omega (arith, e)))
