-- Slots that arrive one after another, as a link records them.
use Rattle.sctp_link.proofs.Names.{◌≡◌, ℕ, ◌+◌, ◌<◌, Bool, true, false, List, [], ◌∷◌, ◌++◌, length, drop, ap, sym, ◌∙◌, arith, slice_index_or, list_any}
use Rattle.sctp_link.proofs.Names.{drop_more, change_at, Arrival, New, Repeat, Slot, with_arrival, arrived_in, repeated_of, is_first, append_assoc}

-- the answer at a place, and those that are left from there on
module _ (ps : List ℕ) (bs : List Arrival) (i : ℕ) (inside : i < length ps) (count : length bs ≡ length ps) where
  places-left : drop i ps ≡ slice_index_or ps i 0 ∷ drop (i + 1) ps
  places-left = drop_more ps i 0 inside

  answers-left : (a : Arrival) → slice_index_or bs i (New false) ≡ a → drop i bs ≡ a ∷ drop (i + 1) bs
  answers-left a e = drop_more bs i (New false) (omega (arith, inside, count)) ∙ ap (λ b. b ∷ drop (i + 1) bs) e

  module _ (complete : Bool) (e : slice_index_or bs i (New false) ≡ New complete) where
    pub slots-first : (ss : List Slot)
        → arrived_in (drop (i + 1) ps) (drop (i + 1) bs) (change_at with_arrival (slice_index_or ps i 0) ss) ≡ arrived_in (drop i ps) (drop i bs) ss
    slots-first ss = sym (ap (λ qs. arrived_in qs (drop i bs) ss) places-left
        ∙ ap (λ cs. arrived_in (slice_index_or ps i 0 ∷ drop (i + 1) ps) cs ss) (answers-left (New complete) e))

    pub repeated-first : repeated_of (drop (i + 1) ps) (drop (i + 1) bs) ≡ repeated_of (drop i ps) (drop i bs)
    repeated-first =
        sym (ap (λ qs. repeated_of qs (drop i bs)) places-left ∙ ap (repeated_of (slice_index_or ps i 0 ∷ drop (i + 1) ps)) (answers-left (New complete) e))

    pub any-first : list_any is_first (drop i bs) ≡ true
    any-first = ap (list_any is_first) (answers-left (New complete) e)

  module _ (e : slice_index_or bs i (New false) ≡ Repeat) where
    pub slots-again : (ss : List Slot) → arrived_in (drop (i + 1) ps) (drop (i + 1) bs) ss ≡ arrived_in (drop i ps) (drop i bs) ss
    slots-again ss = sym (ap (λ qs. arrived_in qs (drop i bs) ss) places-left
        ∙ ap (λ cs. arrived_in (slice_index_or ps i 0 ∷ drop (i + 1) ps) cs ss) (answers-left Repeat e))

    pub repeated-again : (ds : List ℕ)
        → (ds ++ slice_index_or ps i 0 ∷ []) ++ repeated_of (drop (i + 1) ps) (drop (i + 1) bs) ≡ ds ++ repeated_of (drop i ps) (drop i bs)
    repeated-again ds =
        append_assoc ds (slice_index_or ps i 0 ∷ []) (repeated_of (drop (i + 1) ps) (drop (i + 1) bs)) ∙ ap (λ rs. ds ++ rs)
        (sym (ap (λ qs. repeated_of qs (drop i bs)) places-left ∙ ap (repeated_of (slice_index_or ps i 0 ∷ drop (i + 1) ps)) (answers-left Repeat e)))

    pub any-again : list_any is_first (drop (i + 1) bs) ≡ list_any is_first (drop i bs)
    any-again = sym (ap (list_any is_first) (answers-left Repeat e))
