-- Tags of an exported PDU, one by one.
use Rattle.std.proofs.Common.{◌≡◌, ℕ, ◌+◌, ◌-◌, ◌<◌, ◌≤◌, true, false, suc, List, length, None, Some, refl, arith}
use Rattle.std.specs.Prelude.{◌≢◌, ◌==◌, ltb}
use Rattle.std.proofs.lemmas.Bool.Decides.{nat_tests}
use Rattle.sctp_util.specs.Field.{u16_at}
use Rattle.sctp_capture.specs.Exported.{tag_end, tag_at}

one_more : (k : ℕ) → k < 64 → 64 - k ≡ suc (64 - (k + 1))
one_more k lt = omega arith

-- a tag that is cut off
pub tag_cut : (k number at : ℕ) (frame : List ℕ) → k < 64 → length frame < tag_end frame at → tag_at (64 - k) number frame at ≡ None
unfolding tag_at
tag_cut k number at frame lt short =
    let cut : ltb (length frame) (tag_end frame at) ≡ true = grind (arith, nat_tests) in
    rw (one_more k lt, cut) refl

-- the tag that is looked for
pub tag_here : (k number at : ℕ) (frame : List ℕ) → k < 64 → tag_end frame at ≤ length frame → u16_at frame at ≡ number
    → tag_at (64 - k) number frame at ≡ Some at
unfolding tag_at
tag_here k number at frame lt fits is =
    let whole : ltb (length frame) (tag_end frame at) ≡ false = grind (arith, nat_tests) in
    let it : (u16_at frame at == number) ≡ true = grind (arith, nat_tests) in
    rw (one_more k lt, whole, it) refl

-- the last tag
pub tag_last : (k number at : ℕ) (frame : List ℕ) → k < 64 → tag_end frame at ≤ length frame → u16_at frame at ≢ number → u16_at frame at ≡ 0
    → tag_at (64 - k) number frame at ≡ None
unfolding tag_at
tag_last k number at frame lt fits other zero =
    let whole : ltb (length frame) (tag_end frame at) ≡ false = grind (arith, nat_tests) in
    let it : (u16_at frame at == number) ≡ false = grind (arith, nat_tests) in
    let ends : (u16_at frame at == 0) ≡ true = grind (arith, nat_tests) in
    rw (one_more k lt, whole, it, ends) refl

-- another tag is passed
pub tag_next : (k number at : ℕ) (frame : List ℕ) → k < 64 → tag_end frame at ≤ length frame → u16_at frame at ≢ number → u16_at frame at ≢ 0
    → tag_at (64 - k) number frame at ≡ tag_at (64 - (k + 1)) number frame (tag_end frame at)
unfolding tag_at
tag_next k number at frame lt fits other some =
    let whole : ltb (length frame) (tag_end frame at) ≡ false = grind (arith, nat_tests) in
    let it : (u16_at frame at == number) ≡ false = grind (arith, nat_tests) in
    let goes : (u16_at frame at == 0) ≡ false = grind (arith, nat_tests) in
    rw (one_more k lt, whole, it, goes) refl

-- no tag is looked at any more
pub tag_none : (k number at : ℕ) (frame : List ℕ) → 64 ≤ k → tag_at (64 - k) number frame at ≡ None
unfolding tag_at
tag_none k number at frame le =
    let none : 64 - k ≡ 0 = omega arith in rw none refl
