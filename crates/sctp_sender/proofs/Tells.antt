-- The greatest distance that gap ack blocks report, and of which distances they tell.
use Rattle.sctp_sender.proofs.Names.{◌≡◌, ℕ, zero, suc, ◌+◌, ◌-◌, ◌<◌, ◌≤◌, Bool, true, false, List, [], ◌∷◌, length, get_or, slice_get, Some, None, inl, inr}
use Rattle.sctp_sender.proofs.Names.{refl, ap, sym, ◌∙◌, arith, if◌then◌else◌, ◌==◌, ◌||◌, nat_lt, cases_lt, false≢true, nat_tests, none-some, slice_get-get_or}
use Rattle.sctp_sender.proofs.Names.{or-left, or-right, GapAckBlock, is_in_block, is_in_blocks, tells_of, AreSorted, after_block, after_blocks, ascends_from}
use Rattle.std.proofs.lemmas.Option.{same_Some}
use Rattle.sctp_sender.specs.Keeping.{greatest_distance}
use Rattle.sctp_sender.proofs.Anew.{ahead}
use Rattle.sctp_sender.proofs.Covers.{neither}
use Rattle.sctp_sender.proofs.Offsets.{none-behind}

block-after : (b : GapAckBlock) → b.start ≤ b.end → after_block b ≡ b.end + 1
block-after b le =
    let some : nat_lt b.end b.start ≡ false = grind (arith, nat_tests, le) in
    ap (λ k. if k then 0 else b.end + 1) some

-- ## Of blocks that ascend it is the end of the last one

last-ends : (bs : List GapAckBlock) (last n : ℕ) (b : GapAckBlock) → ascends_from last bs ≡ true → length bs ≡ suc n → slice_get bs n ≡ Some b
    → (after_blocks bs ≡ b.end + 1) × (last < b.end)
last-ends [] last n b e is h = absurd (omega (arith, is))
last-ends (x ∷ []) last (suc n) b e is h = absurd (omega (arith, is))
last-ends (x ∷ y ∷ ys) last zero b e is h = absurd (omega (arith, is))
last-ends (x ∷ []) last zero b e is h =
    let a = ahead last x [] e in
    let here = block-after x a.runs in
    let same = ap (λ (y : GapAckBlock). y.end) (same_Some x b h) in
    (omega (arith, here, same), let p = a.behind in let r = a.runs in omega (arith, p, r, same))
last-ends (x ∷ y ∷ ys) last (suc n) b e is h =
    let a = ahead last x (y ∷ ys) e in
    let r = last-ends (y ∷ ys) x.end n b a.ascend (omega (arith, is)) h in
    let here = block-after x a.runs in
    let rest = r.0 in
    let past = r.1 in
    (omega (arith, here, rest, past), let p = a.behind in let q = a.runs in omega (arith, p, q, past))

told-last : (bs : List GapAckBlock) (b : GapAckBlock) (n : ℕ) → ascends_from 0 bs ≡ true → slice_get bs (length bs - 1) ≡ Some b
    → tells_of bs n ≡ nat_lt n b.end
told-last [] b n e h = absurd (none-some b h)
told-last (x ∷ xs) b n e h =
    let bs : List GapAckBlock = x ∷ xs in
    let same : length bs - 1 ≡ length xs = omega arith in
    let r = last-ends bs 0 (length xs) b e (omega arith) (sym (ap (slice_get bs) same) ∙ h) in
    let after = r.0 in
    let past = r.1 in
    let far : greatest_distance bs ≡ b.end = omega (arith, after) in
    let some : (greatest_distance bs == 0) ≡ false = grind (arith, nat_tests, far, past) in
    ap (λ k. k || nat_lt n (greatest_distance bs)) some ∙ ap (nat_lt n) far

-- the same of a place, where so many are reported cumulatively
pub told-place : (bs : List GapAckBlock) (b : GapAckBlock) (count place : ℕ) → ascends_from 0 bs ≡ true → slice_get bs (length bs - 1) ≡ Some b
    → count ≤ place → nat_lt (place + 1) (count + b.end) ≡ tells_of bs (suc place - count)
told-place bs b count place e h le =
    let same : nat_lt (place + 1) (count + b.end) ≡ nat_lt (suc place - count) b.end = grind (arith, nat_tests, le) in
    same ∙ sym (told-last bs b (suc place - count) e h)

pub told-none : (bs : List GapAckBlock) (n : ℕ) → slice_get bs (length bs - 1) ≡ None → tells_of bs n ≡ true
told-none [] n h = refl
told-none (x ∷ xs) n h =
    let there = slice_get-get_or (x ∷ xs) (length (x ∷ xs) - 1) x (omega arith) in
    absurd (none-some (get_or (x ∷ xs) (length (x ∷ xs) - 1) x) (sym h ∙ there))

-- ## What lies past a distance of which nothing is told

pub untold-on : (bs : List GapAckBlock) (n m : ℕ) → n ≤ m → tells_of bs n ≡ false → tells_of bs m ≡ false
untold-on bs n m le h =
    let t = neither (greatest_distance bs == 0) (nat_lt n (greatest_distance bs)) h in
    let near = t.1 in
    let far : nat_lt m (greatest_distance bs) ≡ false = grind (arith, nat_tests, near, le) in
    ap (λ k. k || nat_lt m (greatest_distance bs)) t.0 ∙ far

-- ## Blocks that report the same tell of the same

block-end : (b : GapAckBlock) (n : ℕ) → after_block b ≡ suc n → is_in_block n b ≡ true
block-end b n e = by (nat_lt b.end b.start) refl
  where
    by : (k : Bool) → nat_lt b.end b.start ≡ k → is_in_block n b ≡ true
    by true h = let a = ap (λ t. if t then 0 else b.end + 1) h in absurd (omega (arith, e, a))
    by false h = let a = ap (λ t. if t then 0 else b.end + 1) h in grind (arith, nat_tests, h, e, a)

farthest : (bs : List GapAckBlock) (n : ℕ) → after_blocks bs ≡ suc n → is_in_blocks bs n ≡ true
farthest [] n e = absurd (omega (arith, e))
farthest (b ∷ bs) n e = elim (cases_lt (after_blocks bs) (suc n)) [
  | inl lt ↦ or-left (is_in_block n b) (is_in_blocks bs n) (block-end b n (omega (arith, e, lt)))
  | inr ge ↦ or-right (is_in_block n b) (is_in_blocks bs n) (farthest bs n (omega (arith, e, ge)))
]

no-farther : (xs bs : List GapAckBlock) → ((n : ℕ) → 0 < n → is_in_blocks xs n ≡ is_in_blocks bs n) → greatest_distance xs ≤ greatest_distance bs
no-farther xs bs same = elim (cases_lt (greatest_distance bs) (greatest_distance xs)) [
  | inl lt ↦
      let n : ℕ = greatest_distance xs in
      let there = farthest xs n (omega (arith, lt)) in
      absurd (false≢true (sym (none-behind bs n (omega (arith, lt))) ∙ sym (same n (omega (arith, lt))) ∙ there))
  | inr ge ↦ ge
]

pub told-same : (sorted blocks : List GapAckBlock) (n : ℕ) → AreSorted sorted blocks → tells_of sorted n ≡ tells_of blocks n
told-same sorted blocks n are =
    let low = no-farther sorted blocks are.same in
    let high = no-farther blocks sorted (λ k pos. sym (are.same k pos)) in
    let far : greatest_distance sorted ≡ greatest_distance blocks = omega (arith, low, high) in
    ap (λ r. (r == 0) || nat_lt n r) far
