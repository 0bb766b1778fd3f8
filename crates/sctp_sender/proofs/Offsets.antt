-- The distances that gap ack blocks report, marked one by one.
use Rattle.sctp_sender.proofs.Names.{◌≡◌, ℕ, zero, suc, ◌+◌, ◌<◌, ◌≤◌, Bool, true, false, List, [], ◌∷◌, length, get_or, refl, ap, sym, ◌∙◌, arith}
use Rattle.sctp_sender.proofs.Names.{if◌then◌else◌, ◌&&◌, ◌||◌, nat_lt, nat_le, max, list_any, nat_tests, GapAckBlock, is_in_block, is_in_blocks, after_block}
use Rattle.sctp_sender.proofs.Names.{after_blocks, goes_from_to, HasEnds}
use Rattle.std.specs.Ordering.{nat_cmp, ord_max}

-- ## One more than the greatest distance

pub after-at : (bs : List GapAckBlock) (i : ℕ) (d : GapAckBlock) → i < length bs → after_block (get_or bs i d) ≤ after_blocks bs
after-at [] i d lt = absurd (omega (arith, lt))
after-at (b ∷ bs) zero d lt = omega arith
after-at (b ∷ bs) (suc i) d lt = let h = after-at bs i d (omega (arith, lt)) in omega (arith, h)

after-of : (b : GapAckBlock) (k : Bool) → nat_lt b.end b.start ≡ k → after_block b ≡ (if k then 0 else b.end + 1)
after-of b k e = ap (λ t. if t then 0 else b.end + 1) e

-- a distance in a block comes before that
block-within : (b : GapAckBlock) (n : ℕ) → after_block b ≤ n → is_in_block n b ≡ false
block-within b n le = by (nat_lt b.end b.start) refl
  where
    by : (k : Bool) → nat_lt b.end b.start ≡ k → is_in_block n b ≡ false
    by true e = grind (arith, nat_tests, e)
    by false e = let a = after-of b false e in grind (arith, nat_tests, e, a, le)

pub none-behind : (bs : List GapAckBlock) (n : ℕ) → after_blocks bs ≤ n → is_in_blocks bs n ≡ false
none-behind [] n le = refl
none-behind (b ∷ bs) n le = ap (λ k. k || list_any (is_in_block n) bs) (block-within b n (omega (arith, le))) ∙ none-behind bs n (omega (arith, le))

-- ## The marks

-- the block begins before the first distance, and goes on to the second or beyond
abbrev pub goes_past : ℕ → ℕ → GapAckBlock → Bool
goes_past before last b = nat_lt b.start before && nat_le last b.end

shuffle : (a b c d : Bool) → ((a || b) || (c || d)) ≡ ((a || c) || (b || d))
shuffle true b c d = refl
shuffle false true true d = refl
shuffle false true false d = refl
shuffle false false c d = refl

-- those that begin before a distance, and those that begin there
pub one-farther : (i last : ℕ) (bs : List GapAckBlock)
    → list_any (goes_past (i + 1) last) bs ≡ (list_any (goes_past i last) bs || list_any (goes_from_to i last) bs)
one-farther i last [] = refl
one-farther i last (b ∷ bs) =
    let here : goes_past (i + 1) last b ≡ (goes_past i last b || goes_from_to i last b) = grind (arith, nat_tests) in
    ap (λ k. k || list_any (goes_past (i + 1) last) bs) here ∙ ap (λ k. (goes_past i last b || goes_from_to i last b) || k) (one-farther i last bs)
    ∙ shuffle (goes_past i last b) (goes_from_to i last b) (list_any (goes_past i last) bs) (list_any (goes_from_to i last) bs)

pub none-before : (last : ℕ) (bs : List GapAckBlock) → list_any (goes_past 0 last) bs ≡ false
none-before last [] = refl
none-before last (b ∷ bs) = let here : goes_past 0 last b ≡ false = grind (arith, nat_tests) in
    ap (λ k. k || list_any (goes_past 0 last) bs) here ∙ none-before last bs

pub past-is-in : (i : ℕ) (bs : List GapAckBlock) → list_any (goes_past (i + 1) i) bs ≡ is_in_blocks bs i
past-is-in i [] = refl
past-is-in i (b ∷ bs) =
    let here : goes_past (i + 1) i b ≡ is_in_block i b = grind (arith, nat_tests) in
    ap (λ k. k || list_any (goes_past (i + 1) i) bs) here ∙ ap (λ k. is_in_block i b || k) (past-is-in i bs)

-- what `max` answers
pub max-is : (a b m : ℕ) → m ≡ ord_max nat_cmp a b → m ≡ max a b
max-is a b m e = by (nat_lt b a) refl
  where
    by : (k : Bool) → nat_lt b a ≡ k → m ≡ max a b
    by true h = grind (arith, nat_tests, e, h)
    by false h = grind (arith, nat_tests, e, h)

-- the furthest end, one distance on
pub end-more : (ends : List ℕ) (bs : List GapAckBlock) (i last end here : ℕ) → HasEnds ends bs → i ≤ last → here ≡ get_or ends i 0
    → nat_lt last end ≡ list_any (goes_past i last) bs → nat_lt last (max end here) ≡ list_any (goes_past (i + 1) last) bs
end-more ends bs i last end here has le is so_far =
    let most : nat_lt last (max end here) ≡ (nat_lt last end || nat_lt last here) = grind (arith, nat_tests) in
    most ∙ ap (λ k. k || nat_lt last here) so_far ∙ ap (λ h. list_any (goes_past i last) bs || nat_lt last h) is
    ∙ ap (λ k. list_any (goes_past i last) bs || k) (has i last le) ∙ sym (one-farther i last bs)
