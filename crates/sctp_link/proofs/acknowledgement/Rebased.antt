-- A SACK told from a later cumulative TSN.
use Rattle.sctp_link.proofs.Names.{◌≡◌, ℕ, ◌+◌, ◌-◌, ◌<◌, ◌≤◌, List, length, length-set, get_or, set, max, refl, ap, sym, ◌∙◌, inl, inr, arith, ◌&&◌, nat_le}
use Rattle.sctp_link.proofs.Names.{subst, cases_eq, cases_lt, le-leb, leb-true, get_or-set_same, get_or-set_other, get_or_default, same_test, GapAckBlock}
use Rattle.sctp_link.proofs.Names.{is_in_blocks, is_in_block, IsNearer, any-same}

-- both ends are so much less, but for the first of them
pub nearer-is : (behind start end : ℕ) (b : GapAckBlock) → start ≡ max (b.start - behind) 1 → end ≡ b.end - behind
    → IsNearer behind b (record { start = start; end = end })
nearer-is behind start end b es ee = record {
  begin = omega (arith, es);
  covers = λ n pos.
      ap (λ t. t && nat_le n end) (same_test (nat_le start n) (nat_le b.start (n + behind)) (λ e. le-leb _ _ (omega (arith, es, pos, leb-true _ _ e)))
      (λ e. le-leb _ _ (omega (arith, es, pos, leb-true _ _ e)))) ∙ ap (λ t. nat_le b.start (n + behind) && t) (same_test (nat_le n end)
      (nat_le (n + behind) b.end) (λ e. le-leb _ _ (omega (arith, ee, pos, leb-true _ _ e))) (λ e. le-leb _ _ (omega (arith, ee, pos, leb-true _ _ e))));
}

-- the blocks up to a place are so told, and those behind it are as they were
pub record Nearer (behind place : ℕ) (old new : List GapAckBlock) : Type 0 where
  pub count : length new ≡ length old
  pub done : (i : ℕ) (d : GapAckBlock) → i < place → i < length old → IsNearer behind (get_or old i d) (get_or new i d)
  pub rest : (i : ℕ) (d : GapAckBlock) → place ≤ i → get_or new i d ≡ get_or old i d

pub none-nearer : (behind : ℕ) (old : List GapAckBlock) → Nearer behind 0 old old
none-nearer behind old = record { count = refl; done = λ i d lt. absurd (omega (arith, lt)); rest = λ i d le. refl }

pub one-nearer : (behind place : ℕ) (old new : List GapAckBlock) (b c : GapAckBlock) → place < length old → b ≡ get_or new place b → IsNearer behind b c
    → Nearer behind place old new → Nearer behind (place + 1) old (set new place c)
one-nearer behind place old new b c lt is near n = record {
  count = length-set new place c ∙ n.count;
  done = λ i d below within. elim (cases_eq i place) [
    | inl same ↦
        subst (λ j. IsNearer behind (get_or old j d) (get_or (set new place c) j d)) (sym same)
        (subst (IsNearer behind (get_or old place d)) (sym (get_or-set_same new place c d (omega (arith, lt, n.count))))
        (subst (λ a. IsNearer behind a c) (is ∙ get_or_default new place b d (omega (arith, lt, n.count)) ∙ n.rest place d (omega arith)) near))
    | inr other ↦
        subst (IsNearer behind (get_or old i d)) (sym (get_or-set_other new place i c d other)) (n.done i d (omega (arith, below, under i other below)) within)
  ];
  rest = λ i d above. get_or-set_other new place i c d (λ e. omega (arith, e, above)) ∙ n.rest i d (omega (arith, above));
}
  where
    under : (i : ℕ) → (i ≡ place → ⊥) → i < place + 1 → i < place
    under i other below = elim (cases_lt i place) [ inl low ↦ low | inr high ↦ absurd (other (omega (arith, high, below))) ]

-- all of them
pub all-begin : (behind place : ℕ) (old new : List GapAckBlock) → length old ≤ place → Nearer behind place old new → (i : ℕ) (d : GapAckBlock) → i < length new
    → 0 < (get_or new i d).start
all-begin behind place old new all n i d lt = (n.done i d (omega (arith, lt, all, n.count)) (omega (arith, lt, n.count))).begin

pub all-covers : (behind place : ℕ) (old new : List GapAckBlock) → length old ≤ place → Nearer behind place old new → (n : ℕ) → 0 < n
    → is_in_blocks new n ≡ is_in_blocks old (n + behind)
all-covers behind place old new all n m pos =
    any-same (is_in_block m) (is_in_block (m + behind)) old new n.count (λ i d lt. (n.done i d (omega (arith, lt, all)) lt).covers m pos)
