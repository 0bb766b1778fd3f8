-- The sum of what the streams of a receiver hold, each up to the greatest usize.
use Rattle.sctp_receiver.proofs.Names.{◌≡◌, ℕ, ◌+◌, ◌-◌, ◌<◌, ◌≤◌, ◌^◌, List, [], ◌∷◌, ◌++◌, length, refl, ap, sym, ◌∙◌, arith, length-set, min, slice_index_or}
use Rattle.sctp_receiver.proofs.Names.{slice_set, All, sum_by, sum_by-cons, sum_by-append, sum_by-set, InboundStream, new_stream, cost_of, cost_within}
use Rattle.sctp_receiver.proofs.Names.{held_cost}
use Rattle.std.proofs.lemmas.List.Sums.{sum_by-le, sum_by-swap_remove, get_or-le-sum_by}
use Rattle.std.specs.List.{swap_remove}

capped : (m a b c : ℕ) → min b m ≡ min c m → min (a + b) m ≡ min (min a m + c) m
capped m a b c e = omega arith

-- what is held is told by the sum
pub held-is : (ls : List InboundStream) → held_cost ls ≡ min (sum_by cost_within ls) (2 ^ 64 - 1)
held-is [] = refl
held-is (l ∷ ls) =
    ap (λ n. min n (2 ^ 64 - 1)) (sum_by-cons cost_of l ls)
    ∙ capped (2 ^ 64 - 1) (cost_of l) (sum_by cost_of ls) (sum_by cost_within ls) (held-is ls)
    ∙ ap (λ n. min n (2 ^ 64 - 1)) (sym (sum_by-cons cost_within l ls))

each-within : (ls : List InboundStream) → All (λ l. cost_within l ≤ 2 ^ 64 - 1) ls
each-within ls = λ k d lt. omega arith

pub sum-fits : (ls : List InboundStream) → length ls < 2 ^ 64 → sum_by cost_within ls < 2 ^ 128
sum-fits ls few = let h = sum_by-le cost_within (2 ^ 64 - 1) ls (each-within ls) in omega (arith, h, few)

pub opened-sum : (ls : List InboundStream) (s max : ℕ) → sum_by cost_within (ls ++ new_stream s max ∷ []) ≡ sum_by cost_within ls
opened-sum ls s max =
    let a = sum_by-append cost_within ls (new_stream s max ∷ []) in
    let b = sum_by-cons cost_within (new_stream s max) [] in
    omega (arith, a, b)

-- the stream at a place
module _ (ls : List InboundStream) (k : ℕ) (x : InboundStream) (lt : k < length ls) (at : x ≡ slice_index_or ls k x) where
  pub is-part : cost_within x ≤ sum_by cost_within ls
  is-part = let h = get_or-le-sum_by cost_within ls k x lt in let e = ap cost_within at in omega (arith, h, e)

  pub changed-sum : (y : InboundStream) → sum_by cost_within ls - cost_within x + cost_within y ≡ sum_by cost_within (slice_set ls k y)
  changed-sum y = let h = sum_by-set cost_within ls k y x lt in let e = ap cost_within at in let p = is-part in omega (arith, h, e, p)

  pub changed-fits : length ls < 2 ^ 64 → (y : InboundStream) → sum_by cost_within ls - cost_within x + cost_within y < 2 ^ 128
  changed-fits few y = let h = sum-fits (slice_set ls k y) (omega (arith, few, length-set ls k y)) in let e = changed-sum y in omega (arith, h, e)

  pub removed-sum : sum_by cost_within ls - cost_within x ≡ sum_by cost_within (swap_remove ls k x)
  removed-sum = let h = sum_by-swap_remove cost_within ls k x lt in let e = ap cost_within at in omega (arith, h, e)
