-- Options of a block, one by one.
use Rattle.std.proofs.Common.{◌≡◌, ℕ, ◌+◌, ◌-◌, ◌<◌, ◌≤◌, true, false, suc, List, length, None, Some, refl, arith}
use Rattle.std.specs.Prelude.{◌≢◌, ◌==◌, ltb}
use Rattle.std.proofs.lemmas.Bool.Decides.{nat_tests}
use Rattle.sctp_capture.specs.declared.record.Order.{Order}
use Rattle.sctp_capture.specs.Options.{code_at, next_option, option_at}

one_more : (k : ℕ) → k < 64 → 64 - k ≡ suc (64 - (k + 1))
one_more k lt = omega arith

-- no room is left for one
pub option_cut : (k code at : ℕ) (order : Order) (block : List ℕ) → k < 64 → length block < at + 12 → option_at (64 - k) order code block at ≡ None
unfolding option_at
option_cut k code at order block lt short =
    let cut : ltb (length block) (at + 12) ≡ true = grind (arith, nat_tests) in
    rw (one_more k lt, cut) refl

-- the option that is looked for
pub option_here : (k code at : ℕ) (order : Order) (block : List ℕ) → k < 64 → at + 12 ≤ length block → code_at order block at ≡ code
    → option_at (64 - k) order code block at ≡ Some at
unfolding option_at
option_here k code at order block lt fits is =
    let whole : ltb (length block) (at + 12) ≡ false = grind (arith, nat_tests) in
    let it : (code_at order block at == code) ≡ true = grind (arith, nat_tests) in
    rw (one_more k lt, whole, it) refl

-- the last option
pub option_last : (k code at : ℕ) (order : Order) (block : List ℕ) → k < 64 → at + 12 ≤ length block → code_at order block at ≢ code
    → code_at order block at ≡ 0 → option_at (64 - k) order code block at ≡ None
unfolding option_at
option_last k code at order block lt fits other zero =
    let whole : ltb (length block) (at + 12) ≡ false = grind (arith, nat_tests) in
    let it : (code_at order block at == code) ≡ false = grind (arith, nat_tests) in
    let ends : (code_at order block at == 0) ≡ true = grind (arith, nat_tests) in
    rw (one_more k lt, whole, it, ends) refl

-- another one is passed
pub option_next : (k code at : ℕ) (order : Order) (block : List ℕ) → k < 64 → at + 12 ≤ length block → code_at order block at ≢ code
    → code_at order block at ≢ 0 → option_at (64 - k) order code block at ≡ option_at (64 - (k + 1)) order code block (next_option order block at)
unfolding option_at
option_next k code at order block lt fits other some =
    let whole : ltb (length block) (at + 12) ≡ false = grind (arith, nat_tests) in
    let it : (code_at order block at == code) ≡ false = grind (arith, nat_tests) in
    let goes : (code_at order block at == 0) ≡ false = grind (arith, nat_tests) in
    rw (one_more k lt, whole, it, goes) refl

-- none is looked at any more
pub option_none : (k code at : ℕ) (order : Order) (block : List ℕ) → 64 ≤ k → option_at (64 - k) order code block at ≡ None
unfolding option_at
option_none k code at order block le =
    let none : 64 - k ≡ 0 = omega arith in rw none refl
