-- What is in flight once a SACK was taken, slot by slot.
use Rattle.sctp_link.proofs.Names.{◌≡◌, ℕ, zero, suc, ◌+◌, ◌-◌, ◌<◌, ◌≤◌, ◌^◌, Bool, true, false, List, [], ◌∷◌, map, None, refl, ap, sym, ◌∙◌, inl, inr}
use Rattle.sctp_link.proofs.Names.{arith, if◌then◌else◌, ◌&&◌, ◌||◌, not, nat_lt, nat_le, max, list_any, subst, cases_lt, lt-ltb, le-ltb, le-leb, leb-true}
use Rattle.sctp_link.proofs.Names.{change_where, numbers_where, always, same_test, ChunkPayloadData, GapAckBlock, Sack, as_acknowledged, is_in_blocks, past}
use Rattle.sctp_link.proofs.Names.{reports, reports_anew, LinkRecord, tsn_of, cumulative_tsn, Sending, sending_of, sending_by, IsInFlight, in_block, head_of}
use Rattle.sctp_link.proofs.Names.{tail_of, far, at-top, distance, at_or_before}

-- ## What a SACK reports

-- a slot beyond the cumulative TSN lies in a block by its distance
pub covered-at : (top k : ℕ) (bs : List GapAckBlock) → top ≤ k → is_in_blocks bs (k + 1 - top) ≡ list_any (in_block top k) bs
covered-at top k [] le = refl
covered-at top k (b ∷ bs) le =
    ap (λ t. (t && nat_le (k + 1 - top) b.end) || is_in_blocks bs (k + 1 - top)) (same_test (nat_le b.start (k + 1 - top)) (nat_le (top + b.start) (k + 1))
    (λ e. le-leb _ _ (omega (arith, le, leb-true _ _ e))) (λ e. le-leb _ _ (omega (arith, le, leb-true _ _ e))))
    ∙ ap (λ t. (nat_le (top + b.start) (k + 1) && t) || is_in_blocks bs (k + 1 - top)) (same_test (nat_le (k + 1 - top) b.end)
    (nat_le (k + 1) (top + b.end)) (λ e. le-leb _ _ (omega (arith, le, leb-true _ _ e))) (λ e. le-leb _ _ (omega (arith, le, leb-true _ _ e))))
    ∙ ap (λ t. in_block top k b || t) (covered-at top k bs le)

either : (l a b : Bool) → l ≡ true → (l || a) ≡ (l || b)
either l a b e = rw e refl

-- the slots that it reports
abbrev pub answered : ℕ → List GapAckBlock → ℕ → Bool
answered top bs k = nat_lt k top || list_any (in_block top k) bs

reports-at : (w : LinkRecord) (s : Sack) (top k : ℕ) (x : ChunkPayloadData) → w.setup.first < 2 ^ 32 → top < 2 ^ 31 → k < 2 ^ 31
    → s.cumulative_tsn_ack ≡ cumulative_tsn w top → x.tsn ≡ tsn_of w k → reports s x ≡ answered top s.gap_ack_blocks k
reports-at w s top k x first short near cum tsn =
    ap (λ t. at_or_before t s.cumulative_tsn_ack || is_in_blocks s.gap_ack_blocks (distance s.cumulative_tsn_ack t)) tsn
    ∙ ap (λ c. at_or_before (tsn_of w k) c || is_in_blocks s.gap_ack_blocks (distance c (tsn_of w k))) cum
    ∙ ap (λ b. b || is_in_blocks s.gap_ack_blocks (distance (cumulative_tsn w top) (tsn_of w k))) (at-top w top k first short near) ∙ elim (cases_lt k top) [
      | inl lt ↦ either (nat_lt k top) _ _ (lt-ltb k top lt)
      | inr le ↦ ap (λ b. nat_lt k top || b) (ap (is_in_blocks s.gap_ack_blocks) (far w top k first le near) ∙ covered-at top k s.gap_ack_blocks le)
    ]

-- ## Marks

abbrev gone : Sending → Sending
gone s = record { chunk = record s.chunk { payload = []; acknowledged = true }; stream = s.stream; says = None }

module _ (w : LinkRecord) (s : Sack) (top : ℕ) (first : w.setup.first < 2 ^ 32) (short : top < 2 ^ 31) (cum : s.cumulative_tsn_ack ≡ cumulative_tsn w top) where
  -- what it reports anew is acknowledged then
  pub marked-all : (acked : ℕ → Bool) (cs : List ChunkPayloadData) (from count : ℕ) → from + count ≤ 2 ^ 31 → IsInFlight w acked from count cs
      → IsInFlight w (λ k. acked k || answered top s.gap_ack_blocks k) from count (change_where (reports_anew s) as_acknowledged cs)
  marked-all acked [] from zero le e = refl
  marked-all acked [] from (suc count) le e = cc
  marked-all acked (c ∷ cs) from zero le e = cc
  marked-all acked (c ∷ cs) from (suc count) le e =
      let head : sending_of c ≡ sending_by w (acked from) from = ap (λ l. head_of l (sending_of c)) e in
      let tail = ap tail_of e in
      let near : from < 2 ^ 31 = omega (arith, le) in
      let test : reports_anew s c ≡ (not (acked from) && answered top s.gap_ack_blocks from) =
      ap (λ x. not x.chunk.acknowledged && reports s c) head
      ∙ ap (λ b. not (acked from) && b) (reports-at w s top from c first short near cum (ap (λ x. x.chunk.tsn) head)) in
      ap (λ b. sending_of (if b then as_acknowledged c else c) ∷ map sending_of (change_where (reports_anew s) as_acknowledged cs)) test
      ∙ ap (λ x. x ∷ map sending_of (change_where (reports_anew s) as_acknowledged cs)) (one (acked from) (answered top s.gap_ack_blocks from) head)
      ∙ ap (λ l. sending_by w (acked from || answered top s.gap_ack_blocks from) from ∷ l) (marked-all acked cs (from + 1) count (omega (arith, le)) tail)
    where
      one : (a r : Bool) → sending_of c ≡ sending_by w a from → sending_of (if not a && r then as_acknowledged c else c) ≡ sending_by w (a || r) from
      one true true h = h
      one true false h = h
      one false true h = ap gone h
      one false false h = h

  -- ## The front leaves

  at-counts : (acked : ℕ → Bool) (cs : List ChunkPayloadData) (a b m n : ℕ) → a ≡ b → m ≡ n → IsInFlight w acked a m cs → IsInFlight w acked b n cs
  at-counts acked cs a b m n e f i = subst (λ k. IsInFlight w acked b k cs) f (subst (λ k. IsInFlight w acked k m cs) e i)

  pub front-leaves : (acked : ℕ → Bool) (cs : List ChunkPayloadData) (from count : ℕ) → from + count ≤ 2 ^ 31 → IsInFlight w acked from count cs
      → IsInFlight w acked (max from top) (from + count - max from top) (past (cumulative_tsn w top) cs)
  front-leaves acked [] from zero le e = let z : 0 ≡ from + zero - max from top = omega arith in
      ap (λ n. map (λ k. sending_by w (acked k) k) (numbers_where always (max from top) n)) z
  front-leaves acked [] from (suc count) le e = cc
  front-leaves acked (c ∷ cs) from zero le e = cc
  front-leaves acked (c ∷ cs) from (suc count) le e =
      let head : sending_of c ≡ sending_by w (acked from) from = ap (λ l. head_of l (sending_of c)) e in
      let near : from < 2 ^ 31 = omega (arith, le) in
      let test : at_or_before c.tsn (cumulative_tsn w top) ≡ nat_lt from top = ap (λ x. at_or_before x.chunk.tsn (cumulative_tsn w top)) head
      ∙ at-top w top from first short near in
      let rest = front-leaves acked cs (from + 1) count (omega (arith, le)) (ap tail_of e) in
      elim (cases_lt from top) [
        | inl lt ↦
            let yes : at_or_before c.tsn (cumulative_tsn w top) ≡ true = test ∙ lt-ltb from top lt in
            subst (λ xs. IsInFlight w acked (max from top) (from + suc count - max from top) xs)
            (sym (ap (λ b. if not b then c ∷ past (cumulative_tsn w top) cs else past (cumulative_tsn w top) cs) yes))
            (at-counts acked (past (cumulative_tsn w top) cs) (max (from + 1) top) (max from top) (from + 1 + count - max (from + 1) top)
            (from + suc count - max from top) (omega (arith, lt)) (omega (arith, lt)) rest)
        | inr ge ↦
            let no' : at_or_before c.tsn (cumulative_tsn w top) ≡ false = test ∙ le-ltb from top ge in
            let behind = at-counts acked (past (cumulative_tsn w top) cs) (max (from + 1) top) (from + 1)
            (from + 1 + count - max (from + 1) top) count (omega (arith, ge)) (omega (arith, ge)) rest in
            subst (λ xs. IsInFlight w acked (max from top) (from + suc count - max from top) xs)
            (sym (ap (λ b. if not b then c ∷ past (cumulative_tsn w top) cs else past (cumulative_tsn w top) cs) no'))
            (at-counts acked (c ∷ past (cumulative_tsn w top) cs) from (max from top) (suc count) (from + suc count - max from top) (omega (arith, ge))
            (omega (arith, ge))
            (ap (λ x. x ∷ map sending_of (past (cumulative_tsn w top) cs)) head ∙ ap (λ l. sending_by w (acked from) from ∷ l) behind))
      ]
