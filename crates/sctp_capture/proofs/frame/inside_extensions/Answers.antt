use Rattle.std.proofs.Common.{◌≡◌, ◌-◌, arith}
use Rattle.sctp_capture.specs.Frame.{IsAtomic, IsPassed}
use Rattle.sctp_capture.proofs.Uppers.{further, nearer, cut_off, here, no_fragment, no_header, none_left, passed_least}
use Rattle.sctp_capture.proofs.frame.inside_extensions.Goals as goal

pub returns-then-is_fragment-clause-refused : goal.returns-then-is_fragment-clause-refused
returns-then-is_fragment-clause-refused c = λ p q upper.
    let it = c.is_fragment.ensures.0 c.if-is_fragment.true in
    let left = rw it.0 at c.loop-passed.invariant.inward p q upper in
    no_fragment _ c.loop-passed.rest.now p q it.1 left

pub returns-then-not-is_passed-clause-found : goal.returns-then-not-is_passed-clause-found
returns-then-not-is_passed-clause-found c =
    let other : IsPassed c.loop-passed.protocol c.loop-passed.rest.now → ⊥ = λ it. grind (arith, c.is_passed.ensures.1 it, c.if-not-is_passed.true) in
    let parted : (c.loop-passed.protocol ≡ 44) × (IsAtomic c.loop-passed.rest.now → ⊥)
    → ⊥ = λ it. grind (arith, c.is_fragment.ensures.1 it, c.if-is_fragment.false) in
    c.loop-passed.invariant.outward c.loop-passed.protocol c.loop-passed.rest.now
    (here c.loop-passed._passed c.loop-passed.protocol c.loop-passed.rest.now c.loop-passed-test.true
    other (no_header c.loop-passed.protocol c.loop-passed.rest.now other parted))

pub returns-then-rest-lt2-clause-refused : goal.returns-then-rest-lt2-clause-refused
returns-then-rest-lt2-clause-refused c = λ p q upper.
    let least = passed_least c.loop-passed.protocol c.loop-passed.rest.now in
    cut_off c.loop-passed._passed c.loop-passed.protocol c.loop-passed.rest.now p q c.loop-passed-test.true
    (c.is_passed.ensures.0 c.if-not-is_passed.false) (omega (arith, least)) (c.loop-passed.invariant.inward p q upper)

pub returns-then-rest-after-clause-refused : goal.returns-then-rest-after-clause-refused
returns-then-rest-after-clause-refused c = λ p q upper.
    cut_off c.loop-passed._passed c.loop-passed.protocol c.loop-passed.rest.now p q c.loop-passed-test.true
    (c.is_passed.ensures.0 c.if-not-is_passed.false) (omega (arith, c.passed_bytes-after.ensures)) (c.loop-passed.invariant.inward p q upper)

pub returns-clause-refused : goal.returns-clause-refused
returns-clause-refused c = λ p q upper.
    let none : 16 - c.loop-passed._passed ≡ 0 = omega arith in
    none_left c.loop-passed.protocol c.loop-passed.rest.now p q (rw none at c.loop-passed.invariant.inward p q upper)

pub loop-passed-preserved : goal.loop-passed-preserved
loop-passed-preserved c =
    let passed = c.is_passed.ensures.0 c.if-not-is_passed.false in
    let is = c.passed_bytes-after.ensures in
    record {
      outward = λ p q upper. c.loop-passed.invariant.outward p q
          (further c.loop-passed._passed c.loop-passed.protocol c.loop-passed.rest.now p q c.loop-passed-test.true passed (omega (arith, is)) (rw is at upper));
      inward = λ p q upper.
          rw is (nearer c.loop-passed._passed c.loop-passed.protocol c.loop-passed.rest.now p q c.loop-passed-test.true passed
          (c.loop-passed.invariant.inward p q upper)).1;
    }
