-- Places that known blocks report, and those that they do not.
use Rattle.sctp_sender.proofs.Names.{◌≡◌, ℕ, zero, suc, ◌+◌, ◌-◌, ◌<◌, ◌≤◌, Bool, true, false, List, [], ◌∷◌, length, get_or, refl, ap, ◌∙◌, inl, inr, arith}
use Rattle.sctp_sender.proofs.Names.{if◌then◌else◌, nat_le, cases_lt, nat_tests, GapAckBlock, is_in_block, is_in_blocks, unknown_from, ascends_from}
use Rattle.sctp_sender.proofs.Anew.{ahead, any-place, both}

abbrev pub any_block : GapAckBlock
any_block = record { start = 0; end = 0 }

-- ## Blocks that ascend

pub first-behind : (bs : List GapAckBlock) (last : ℕ) (d : GapAckBlock) → ascends_from last bs ≡ true → 0 < length bs → last < (get_or bs 0 d).start
first-behind [] last d up lt = absurd (omega (arith, lt))
first-behind (b ∷ bs) last d up lt = (ahead last b bs up).behind

pub next-behind : (bs : List GapAckBlock) (last i : ℕ) (d : GapAckBlock) → ascends_from last bs ≡ true → suc i < length bs
    → (get_or bs i d).end < (get_or bs (suc i) d).start
next-behind [] last i d up lt = absurd (omega (arith, lt))
next-behind (b ∷ bs) last zero d up lt = first-behind bs b.end d (ahead last b bs up).ascend (omega (arith, lt))
next-behind (b ∷ bs) last (suc i) d up lt = next-behind bs b.end i d (ahead last b bs up).ascend (omega (arith, lt))

pub runs-at : (bs : List GapAckBlock) (last i : ℕ) (d : GapAckBlock) → ascends_from last bs ≡ true → i < length bs
    → (get_or bs i d).start ≤ (get_or bs i d).end
runs-at [] last i d up lt = absurd (omega (arith, lt))
runs-at (b ∷ bs) last zero d up lt = (ahead last b bs up).runs
runs-at (b ∷ bs) last (suc i) d up lt = runs-at bs b.end i d (ahead last b bs up).ascend (omega (arith, lt))

-- the block at a place has at least as many distances up to its end as blocks
pub end-past : (bs : List GapAckBlock) (last i : ℕ) (d : GapAckBlock) → ascends_from last bs ≡ true → i < length bs
    → last + i + 1 ≤ (get_or bs i d).end
end-past [] last i d up lt = absurd (omega (arith, lt))
end-past (b ∷ bs) last zero d up lt = let a = ahead last b bs up in omega (arith, a.behind, a.runs)
end-past (b ∷ bs) last (suc i) d up lt =
    let a = ahead last b bs up in
    let ih = end-past bs b.end i d a.ascend (omega (arith, lt)) in
    omega (arith, ih, a.behind, a.runs)

starts-up : (bs : List GapAckBlock) (last i j : ℕ) (d : GapAckBlock) → ascends_from last bs ≡ true → i ≤ j → j < length bs
    → (get_or bs i d).start ≤ (get_or bs j d).start
starts-up bs last i zero d up le lt =
    let none : i ≡ 0 = omega (arith, le) in
    let same = ap (λ k. (get_or bs k d).start) none in
    omega (arith, same)
starts-up bs last i (suc j) d up le lt = elim (cases_lt i (suc j)) [
  | inl less ↦
      let h = starts-up bs last i j d up (omega (arith, less)) (omega (arith, lt)) in
      let n = next-behind bs last j d up lt in
      let r = runs-at bs last j d up (omega (arith, lt)) in
      omega (arith, h, n, r)
  | inr ge ↦
      let is : i ≡ suc j = omega (arith, le, ge) in
      let same = ap (λ k. (get_or bs k d).start) is in
      omega (arith, same)
]

-- a place that lies behind the blocks before one, and before that one
pub not-known : (bs : List GapAckBlock) (next place : ℕ) (d : GapAckBlock) → ascends_from 0 bs ≡ true
    → ((i : ℕ) → i < next → (get_or bs i d).end ≤ place) → (next < length bs → place + 1 < (get_or bs next d).start) → is_in_blocks bs (suc place) ≡ false
not-known bs next place d up passed before = by (is_in_blocks bs (suc place)) refl
  where
    by : (b : Bool) → is_in_blocks bs (suc place) ≡ b → is_in_blocks bs (suc place) ≡ false
    by false e = e
    by true e =
        let p = any-place (is_in_block (suc place)) bs e in
        let i = p.0 in
        let in' = p.1 in
        let t = both (nat_le (get_or bs i d).start (suc place)) (nat_le (suc place) (get_or bs i d).end) (p.2 d) in
        let low : (get_or bs i d).start ≤ suc place = let h = t.0 in grind (arith, nat_tests, h) in
        let high : suc place ≤ (get_or bs i d).end = let h = t.1 in grind (arith, nat_tests, h) in
        elim (cases_lt i next) [
          | inl lt ↦ (let h = passed i lt in absurd (omega (arith, h, high)))
          | inr ge ↦
              let h = before (omega (arith, ge, in')) in
              let s = starts-up bs 0 next i d up ge in' in
              absurd (omega (arith, h, s, low))
        ]

-- ## How many are unknown

pub unknown-up : (bs : List GapAckBlock) (from n m : ℕ) → n ≤ m → unknown_from bs from n ≤ unknown_from bs from m
unknown-up bs from n zero le =
    let none : n ≡ 0 = omega (arith, le) in
    let same = ap (λ k. unknown_from bs from k) none in
    omega (arith, same)
unknown-up bs from n (suc m) le = elim (cases_lt n (suc m)) [
  | inl less ↦
      let h = unknown-up bs from n m (omega (arith, less)) in
      let step : unknown_from bs from (suc m) ≡ unknown_from bs from m + (if is_in_blocks bs (suc (from + m)) then 0 else 1) = refl in
      omega (arith, h, step)
  | inr ge ↦
      let is : n ≡ suc m = omega (arith, le, ge) in
      let same = ap (λ k. unknown_from bs from k) is in
      omega (arith, same)
]

pub one-unknown : (bs : List GapAckBlock) (from place : ℕ) → from ≤ place → is_in_blocks bs (suc place) ≡ false
    → unknown_from bs from (place + 1 - from) ≡ unknown_from bs from (place - from) + 1
one-unknown bs from place le none =
    let e : place + 1 - from ≡ suc (place - from) = omega (arith, le) in
    let at : suc (from + (place - from)) ≡ suc place = omega (arith, le) in
    ap (λ n. unknown_from bs from n) e
    ∙ ap (λ b. unknown_from bs from (place - from) + (if b then 0 else 1)) (ap (is_in_blocks bs) at ∙ none)
