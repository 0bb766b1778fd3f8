-- How far a run reaches, before and behind a change of the runs.
use Rattle.std.proofs.Common.{◌≡◌, ℕ, zero, suc, ◌+◌, ◌<◌, ◌≤◌, ◌==◌, ◌⊎◌, inl, inr, Bool, true, false, leb, max, if◌then◌else◌, Option, Some, None, is_some, refl, sym, ap, ◌∙◌, subst, arith}
use Rattle.std.proofs.lemmas.Bool.{cases_lt, cases_eq, cases_order, eq-eqb, ne_eqb}
use Rattle.sctp_follow.specs.Tsns.{reach, reaches}
use Rattle.sctp_follow.proofs.Leaving.{left_at, left_other}

-- at a TSN where a run begins, and where none does
at_some : (r : ℕ → Option ℕ) (n v : ℕ) → r (suc n) ≡ Some v → reach r (suc n) ≡ Some v
unfolding reach
at_some r n v e = rw e refl

at_none : (r : ℕ → Option ℕ) (n : ℕ) → r (suc n) ≡ None → reach r (suc n) ≡ reach r n
unfolding reach
at_none r n e = rw e refl

-- where the same runs begin up to a TSN
pub reach_same : (g h : ℕ → Option ℕ) (n : ℕ) → ((q : ℕ) → q ≤ n → h q ≡ g q) → reach h n ≡ reach g n
unfolding reach
reach_same g h zero s = s 0 (omega arith)
reach_same g h (suc n) s = rw (s (suc n) (omega arith), reach_same g h n (λ q le. s q (omega arith))) refl

-- no run begins up to a TSN
pub reach_nothing : (r : ℕ → Option ℕ) (n : ℕ) → ((q : ℕ) → q ≤ n → r q ≡ None) → reach r n ≡ None
unfolding reach
reach_nothing r zero s = s 0 (omega arith)
reach_nothing r (suc n) s = rw (s (suc n) (omega arith)) (reach_nothing r n (λ q le. s q (omega arith)))

-- a run begins, and none behind it up to a TSN
pub reach_from : (r : ℕ → Option ℕ) (first last n : ℕ) → r first ≡ Some last → first ≤ n → ((q : ℕ) → first < q → q ≤ n → r q ≡ None)
    → reach r n ≡ Some last
unfolding reach
reach_from r first last zero is le s = let e : first ≡ 0 = omega arith in subst (λ (k : ℕ). r k ≡ Some last) e is
reach_from r first last (suc n) is le s = elim (cases_lt n first) [
  | inl lt ↦ let e : first ≡ suc n = omega arith in at_some r n last (subst (λ (k : ℕ). r k ≡ Some last) e is)
  | inr ge ↦ at_none r n (s (suc n) (omega arith) (omega arith)) ∙ reach_from r first last n is ge (λ q lt up. s q lt (omega arith))
]

-- what is behind a TSN in the runs h, where they have one run more, or a longer one, than g: it begins no later than the TSN, and ends at `last`
abbrev Behind : (g h : ℕ → Option ℕ) (tsn last n : ℕ) → Type 0
Behind g h tsn last n =
    (reach h n ≡ reach g n) ⊎ ((reach h n ≡ Some last) × ((m : ℕ) → tsn < m → leb m last ≡ reaches (reach g n) m))

-- the run behind a TSN becomes a part of the longer one, or stays
abbrev pub Joins : (g h : ℕ → Option ℕ) (tsn last : ℕ) → Type 0
Joins g h tsn last =
    ((h (suc tsn) ≡ None) × (end : ℕ) × (g (suc tsn) ≡ Some end) × (last ≡ max end tsn))
    ⊎ ((h (suc tsn) ≡ g (suc tsn)) × (last ≡ tsn))

none_beyond : (o : Option ℕ) (tsn m : ℕ) → reaches o tsn ≡ false → tsn < m → leb m tsn ≡ reaches o m
none_beyond None tsn m e lt = grind (arith, lt)
none_beyond (Some last) tsn m e lt = grind (arith, e, lt)

right_behind : (g h : ℕ → Option ℕ) (tsn last : ℕ) → reach h tsn ≡ Some last → reaches (reach g tsn) tsn ≡ false → Joins g h tsn last
    → Behind g h tsn last (suc tsn)
right_behind g h tsn last here not_in (inl (gone, end, was, is)) =
    inr (at_none h tsn gone ∙ here, λ m lt. rw (at_some g tsn end was) (grind (arith, lt, is)))
right_behind g h tsn last here not_in (inr (same, is)) = by (g (suc tsn)) refl
  where
    by : (o : Option ℕ) → g (suc tsn) ≡ o → Behind g h tsn last (suc tsn)
    by None e = inr (at_none h tsn (same ∙ e) ∙ here, λ m lt. rw (at_none g tsn e, is) (none_beyond (reach g tsn) tsn m not_in lt))
    by (Some v) e = inl (at_some h tsn v (same ∙ e) ∙ sym (at_some g tsn v e))

all_behind : (g h : ℕ → Option ℕ) (tsn last : ℕ) → Behind g h tsn last (suc tsn) → ((q : ℕ) → suc tsn < q → h q ≡ g q)
    → (n : ℕ) → tsn < n → Behind g h tsn last n
all_behind g h tsn last b above zero lt = absurd (omega (arith, lt))
all_behind g h tsn last b above (suc n) lt = elim (cases_eq tsn n) [
  | inl e ↦ subst (λ (k : ℕ). Behind g h tsn last (suc k)) e b
  | inr ne ↦ by (g (suc n)) refl (above (suc n) (omega (arith, lt, ne))) (all_behind g h tsn last b above n (omega (arith, lt, ne)))
]
  where
    by : (o : Option ℕ) → g (suc n) ≡ o → h (suc n) ≡ g (suc n) → Behind g h tsn last n → Behind g h tsn last (suc n)
    by (Some v) e same before = inl (at_some h n v (same ∙ e) ∙ sym (at_some g n v e))
    by None e same before = rw (at_none h n (same ∙ e), at_none g n e) before

-- the runs h have what lies in g, and the TSN
pub reach_more : (g h : ℕ → Option ℕ) (first tsn last : ℕ) → first ≤ tsn → tsn ≤ last → reaches (reach g tsn) tsn ≡ false
    → ((q : ℕ) → first ≤ q → q < tsn → reaches (reach g q) q ≡ true)
    → ((q : ℕ) → q < first → h q ≡ g q) → h first ≡ Some last → ((q : ℕ) → first < q → q ≤ tsn → h q ≡ None)
    → Joins g h tsn last → ((q : ℕ) → suc tsn < q → h q ≡ g q)
    → (n : ℕ) → reaches (reach h n) n ≡ (if n == tsn then true else reaches (reach g n) n)
reach_more g h first tsn last le up not_in full below at gap joins above n = elim (cases_order n tsn) [
  | inl e ↦ rw (eq-eqb n tsn e) (rw (reach_from h first last n at (omega (arith, e, le)) (λ q lt to. gap q lt (omega (arith, e, to)))) (grind (arith, e, up)))
  | inr (inl lt) ↦ rw (ne_eqb n tsn (λ e. omega (arith, e, lt))) (elim (cases_lt n first) [
    | inl early ↦ ap (λ (o : Option ℕ). reaches o n) (reach_same g h n (λ q to. below q (omega (arith, to, early))))
    | inr late ↦ rw (reach_from h first last n at late (λ q more to. gap q more (omega (arith, lt, to)))) (rw (full n late lt) (grind (arith, lt, up)))
  ])
  | inr (inr gt) ↦ rw (ne_eqb n tsn (λ e. omega (arith, e, gt))) (elim (all_behind g h tsn last
      (right_behind g h tsn last (reach_from h first last tsn at le gap) not_in joins) above n gt) [
        | inl e ↦ ap (λ (o : Option ℕ). reaches o n) e
        | inr b ↦ rw (b.0) (b.1 n gt)
      ])
]

-- a run is put in that ends at a TSN
pub more_put : (g h : ℕ → Option ℕ) (first tsn : ℕ) → first ≤ tsn → reaches (reach g tsn) tsn ≡ false
    → ((q : ℕ) → first ≤ q → q < tsn → reaches (reach g q) q ≡ true) → ((q : ℕ) → first < q → q ≤ tsn → g q ≡ None)
    → ((q : ℕ) → h q ≡ (if q == first then Some tsn else g q))
    → (n : ℕ) → reaches (reach h n) n ≡ (if n == tsn then true else reaches (reach g n) n)
more_put g h first tsn le fresh full gap puts =
    let other : (q : ℕ) → (q ≡ first → ⊥) → h q ≡ g q = left_other g h (Some tsn) first puts in
    reach_more g h first tsn tsn le (omega arith) fresh full (λ q lt. other q (λ e. omega (arith, e, lt)))
    (left_at g h (Some tsn) first puts first refl) (λ q lt to. other q (λ e. omega (arith, e, lt)) ∙ gap q lt to)
    (inr (other (suc tsn) (λ e. omega (arith, e, le)), refl)) (λ q lt. other q (λ e. omega (arith, e, lt, le)))

-- a run is put in that ends no earlier than the one that begins right behind a TSN, and that one leaves
pub more_joined : (g m h : ℕ → Option ℕ) (first tsn end : ℕ) → first ≤ tsn → reaches (reach g tsn) tsn ≡ false
    → ((q : ℕ) → first ≤ q → q < tsn → reaches (reach g q) q ≡ true) → ((q : ℕ) → first < q → q ≤ tsn → g q ≡ None)
    → g (tsn + 1) ≡ Some end → ((q : ℕ) → m q ≡ (if q == first then Some (max end tsn) else g q))
    → ((q : ℕ) → h q ≡ (if q == tsn + 1 then None else m q))
    → (n : ℕ) → reaches (reach h n) n ≡ (if n == tsn then true else reaches (reach g n) n)
more_joined g m h first tsn end le fresh full gap was puts leaves =
    let other : (q : ℕ) → (q ≡ first → ⊥) → (q ≡ tsn + 1 → ⊥) → h q ≡ g q =
    λ q a b. left_other m h None (tsn + 1) leaves q b ∙ left_other g m (Some (max end tsn)) first puts q a in
    let next : tsn + 1 ≡ suc tsn = omega arith in
    reach_more g h first tsn (max end tsn) le (omega arith) fresh full (λ q lt. other q (λ e. omega (arith, e, lt)) (λ e. omega (arith, e, lt, le)))
    (left_other m h None (tsn + 1) leaves first (λ e. omega (arith, e, le)) ∙ left_at g m (Some (max end tsn)) first puts first refl)
    (λ q lt to. other q (λ e. omega (arith, e, lt)) (λ e. omega (arith, e, to)) ∙ gap q lt to)
    (inl (left_at m h None (tsn + 1) leaves (suc tsn) (sym next), end, subst (λ (k : ℕ). g k ≡ Some end) next was, refl))
    (λ q lt. other q (λ e. omega (arith, e, lt, le)) (λ e. omega (arith, e, lt)))
