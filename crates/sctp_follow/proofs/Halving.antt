-- Gap ack blocks that are looked through by halving.
use Rattle.std.proofs.Common.{inl, inr, ◌≡◌, ℕ, ◌<◌, ◌≤◌, ◌-◌, ◌+◌, ◌&&◌, ◌||◌, Bool, true, false, leb, max, List, [], ◌∷◌, ◌++◌, length, get_or, take, arith, refl, ap, sym, subst, ◌∙◌}
use Rattle.std.specs.List.{list_any}
use Rattle.std.specs.List.Sorted.{IsNonDecreasingBy, IsPartitionPoint}
use Rattle.std.proofs.lemmas.Bool.{leb-false, lt-leb, cases_lt}
use Rattle.std.proofs.Math.Bool.{or-false}
use Rattle.std.proofs.lemmas.Bool.Decides.{nat_tests}
use Rattle.std.proofs.lemmas.Grind.{common_steps}
use Rattle.std.proofs.lemmas.List.{get_or_default, length_push}
use Rattle.std.proofs.lemmas.List.Folds.{list_any_none, list_any-append, list_any_more, list_any_at}
use Rattle.std.proofs.lemmas.List.Sorted.{IsNonDecreasingBy-push, IsNonDecreasingBy-short}
use Rattle.sctp_data.specs.declared.chunk.chunk_selective_ack.GapAckBlock.{GapAckBlock}
use Rattle.sctp_follow.specs.Outstanding.{is_in_block}
use Rattle.sctp_follow.specs.Blocks.{Ascend}

by_test : (b x : Bool) → (b ≡ true → x ≡ true) → (b ≡ false → x ≡ false) → b ≡ x
by_test true x f g = sym (f refl)
by_test false x f g = sym (g refl)

and_false : (a b : Bool) → b ≡ false → (a && b) ≡ false
and_false true b h = h
and_false false b h = refl

no_later : (block : GapAckBlock) (offset : ℕ) → leb block.start offset ≡ false → is_in_block offset block ≡ false
no_later block offset h = ap (λ (t : Bool). t && leb offset block.end) h

no_longer : (block : GapAckBlock) (offset : ℕ) → block.end < offset → is_in_block offset block ≡ false
no_longer block offset h = and_false (leb block.start offset) (leb offset block.end) (lt-leb offset block.end h)

both_in : (block : GapAckBlock) (offset : ℕ) → leb block.start offset ≡ true → leb offset block.end ≡ true → is_in_block offset block ≡ true
both_in block offset s e = ap (λ (t : Bool). t && leb offset block.end) s ∙ e

-- the last block that begins no later has the TSN, or none has it
pub last_has : (blocks : List GapAckBlock) (offset n : ℕ) (d : GapAckBlock) → Ascend blocks → n ≤ length blocks → 0 < n
    → IsPartitionPoint (λ b. leb b.start offset ≡ true) (λ b. leb b.start offset ≡ false) blocks n
    → leb offset (get_or blocks (n - 1) d).end ≡ list_any (is_in_block offset) blocks
last_has blocks offset n d up within some parts =
    by_test _ _
    (λ e. list_any_at (is_in_block offset) blocks (n - 1) d (omega arith) (both_in (get_or blocks (n - 1) d) offset (parts.0 (n - 1) d (omega arith) (omega arith)) e))
    (λ e. list_any_none (is_in_block offset) blocks (λ k d' h. elim (cases_lt k n) [
      | inl low ↦ no_longer (get_or blocks k d') offset
          (let a : (get_or blocks k d').end ≤ (get_or blocks (n - 1) d').end = up.ends k (n - 1) d' (omega arith) (omega arith) in
          let b : (get_or blocks (n - 1) d').end < offset = leb-false _ _ (ap (λ (x : GapAckBlock). leb offset x.end) (get_or_default blocks (n - 1) d' d (omega arith)) ∙ e) in
          omega arith)
      | inr high ↦ no_later (get_or blocks k d') offset (parts.1 k d' high h)
    ]))

-- where no block begins so early none has the TSN
pub none_has : (blocks : List GapAckBlock) (offset n : ℕ) → n ≡ 0
    → IsPartitionPoint (λ b. leb b.start offset ≡ true) (λ b. leb b.start offset ≡ false) blocks n
    → false ≡ list_any (is_in_block offset) blocks
none_has blocks offset n zero parts =
    sym (list_any_none (is_in_block offset) blocks (λ k d h. no_later (get_or blocks k d) offset (parts.1 k d (omega arith) h)))

-- ---- blocks that end no earlier than those before them

or_same : (b y x : Bool) → (x ≡ true → y ≡ true) → (y ≡ true → x ≡ false → b ≡ true) → (b || y) ≡ (b || x)
or_same true y x f g = refl
or_same false true true f g = refl
or_same false true false f g = sym (g refl refl)
or_same false false true f g = f refl
or_same false false false f g = refl

or_either : (b x : Bool) → (x ≡ false → b ≡ true) → (b || x) ≡ true
or_either true x g = refl
or_either false true g = refl
or_either false false g = g refl

push_before : (xs : List GapAckBlock) (y : GapAckBlock) (k : ℕ) (d : GapAckBlock) → k < length xs → get_or (xs ++ y ∷ []) k d ≡ get_or xs k d
push_before xs y k d h = grind (arith, common_steps)

push_last : (xs : List GapAckBlock) (y : GapAckBlock) (k : ℕ) (d : GapAckBlock) → k ≡ length xs → get_or (xs ++ y ∷ []) k d ≡ y
push_last xs y k d h = grind (arith, common_steps)

begins_in : (block : GapAckBlock) (offset : ℕ) → is_in_block offset block ≡ true → block.start ≤ offset
begins_in block offset h = grind (arith, nat_tests)

ends_in : (block : GapAckBlock) (offset : ℕ) → is_in_block offset block ≡ true → offset ≤ block.end
ends_in block offset h = grind (arith, nat_tests)

longer_has : (end : ℕ) (x : GapAckBlock) (offset : ℕ) → is_in_block offset x ≡ true
    → is_in_block offset (record { start = x.start; end = max end x.end }) ≡ true
longer_has end x offset h = grind (arith, nat_tests)

-- those of the first i blocks are done, and the last of these ends here
pub record Reaching (done blocks : List GapAckBlock) (i end : ℕ) : Type 0 where
  pub long : length done ≡ i
  pub none : i ≡ 0 → end ≡ 0
  pub starts : IsNonDecreasingBy (λ b. b.start) done
  pub ends : IsNonDecreasingBy (λ b. b.end) done
  pub at_start : (k : ℕ) (d : GapAckBlock) → k < i → (get_or done k d).start ≡ (get_or blocks k d).start
  pub at_end : (k : ℕ) (d : GapAckBlock) → k < i → (get_or done k d).end ≤ end
  pub held : (offset : ℕ) (d : GapAckBlock) → 0 < i → (get_or blocks (i - 1) d).start ≤ offset → offset ≤ end
      → list_any (is_in_block offset) (take i blocks) ≡ true
  pub same : (offset : ℕ) → list_any (is_in_block offset) done ≡ list_any (is_in_block offset) (take i blocks)

pub reaching_none : (blocks : List GapAckBlock) → Reaching [] blocks 0 0
reaching_none blocks = record {
  long = refl;
  none = λ h. refl;
  starts = IsNonDecreasingBy-short _ [] (omega arith);
  ends = IsNonDecreasingBy-short _ [] (omega arith);
  at_start = λ k d h. absurd (omega arith);
  at_end = λ k d h. absurd (omega arith);
  held = λ offset d h s e. absurd (omega arith);
  same = λ offset. refl;
}

-- a block that has a TSN only by its longer reach: an earlier one has it
held_before : (done blocks : List GapAckBlock) (i end : ℕ) (x : GapAckBlock) → i < length blocks → ((d : GapAckBlock) → get_or blocks i d ≡ x)
    → IsNonDecreasingBy (λ b. b.start) blocks → Reaching done blocks i end → (offset : ℕ)
    → x.start ≤ offset → offset ≤ max end x.end → is_in_block offset x ≡ false → list_any (is_in_block offset) (take i blocks) ≡ true
held_before done blocks i end x within here up r offset s e other =
    let late : x.end < offset = grind (arith, nat_tests) in
    let early : offset ≤ end = omega arith in
    let some : 0 < i = elim (cases_lt 0 i) [ inl h ↦ h | inr h ↦ absurd (omega (arith, r.none (omega arith))) ] in
    let before : (get_or blocks (i - 1) x).start ≤ (get_or blocks i x).start = up (i - 1) i x (omega arith) within in
    r.held offset x some (omega (arith, ap (λ (b : GapAckBlock). b.start) (here x))) early

pub reaching_more : (done blocks : List GapAckBlock) (i end : ℕ) (x : GapAckBlock) → i < length blocks → ((d : GapAckBlock) → get_or blocks i d ≡ x)
    → IsNonDecreasingBy (λ b. b.start) blocks → Reaching done blocks i end
    → Reaching (done ++ record { start = x.start; end = max end x.end } ∷ []) blocks (i + 1) (max end x.end)
reaching_more done blocks i end x within here up r =
    let y : GapAckBlock = record { start = x.start; end = max end x.end } in
    let p : (offset : ℕ) → GapAckBlock → Bool = is_in_block in
    record {
      long = length_push done y ∙ ap (λ (n : ℕ). n + 1) r.long;
      none = λ h. absurd (omega arith);
      starts = IsNonDecreasingBy-push (λ b. b.start) done y r.starts (λ d h.
          let before : (get_or done (length done - 1) d).start ≡ (get_or blocks (length done - 1) d).start = r.at_start (length done - 1) d (omega (arith, r.long)) in
          let rises : (get_or blocks (length done - 1) d).start ≤ (get_or blocks i d).start = up (length done - 1) i d (omega (arith, r.long)) within in
          omega (arith, ap (λ (b : GapAckBlock). b.start) (here d)));
      ends = IsNonDecreasingBy-push (λ b. b.end) done y r.ends (λ d h.
          let last : (get_or done (length done - 1) d).end ≤ end = r.at_end (length done - 1) d (omega (arith, r.long)) in omega arith);
      at_start = λ k d h. elim (cases_lt k i) [
        | inl low ↦ ap (λ (b : GapAckBlock). b.start) (push_before done y k d (omega (arith, r.long))) ∙ r.at_start k d low
        | inr high ↦ ap (λ (b : GapAckBlock). b.start) (push_last done y k d (omega (arith, r.long)))
            ∙ sym (ap (λ (b : GapAckBlock). b.start) (ap (λ (n : ℕ). get_or blocks n d) {x = k} {y = i} (omega arith) ∙ here d))
      ];
      at_end = λ k d h. elim (cases_lt k i) [
        | inl low ↦ subst (λ (b : GapAckBlock). b.end ≤ max end x.end) (sym (push_before done y k d (omega (arith, r.long))))
            (let last : (get_or done k d).end ≤ end = r.at_end k d low in omega arith)
        | inr high ↦ subst (λ (b : GapAckBlock). b.end ≤ max end x.end) (sym (push_last done y k d (omega (arith, r.long)))) (omega arith)
      ];
      held = λ offset d h s e.
          let begins : x.start ≤ offset = omega (arith, ap (λ (b : GapAckBlock). b.start) (ap (λ (n : ℕ). get_or blocks n d) {x = i + 1 - 1} {y = i} (omega arith) ∙ here d)) in
          list_any_more (is_in_block offset) blocks i x within
          ∙ or_either _ _ (λ n. held_before done blocks i end x within here up r offset begins e (subst (λ (b : GapAckBlock). is_in_block offset b ≡ false) (here x) n));
      same = λ offset.
          list_any-append (is_in_block offset) done (y ∷ [])
          ∙ ap (λ (b : Bool). list_any (is_in_block offset) done || b) (or-false (is_in_block offset y))
          ∙ ap (λ (b : Bool). b || is_in_block offset y) (r.same offset)
          ∙ or_same (list_any (is_in_block offset) (take i blocks)) (is_in_block offset y) (is_in_block offset x)
          (λ has. longer_has end x offset has)
          (λ has no_x. held_before done blocks i end x within here up r offset (begins_in y offset has) (ends_in y offset has) no_x)
          ∙ ap (λ (b : GapAckBlock). list_any (is_in_block offset) (take i blocks) || is_in_block offset b) (sym (here x))
          ∙ sym (list_any_more (is_in_block offset) blocks i x within);
    }
