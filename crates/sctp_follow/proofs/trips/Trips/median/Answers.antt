use Rattle.std.proofs.Common.{rules, ℕ, List, [], ◌∷◌, ◌++◌, refl, arith, ap, sym, ◌∙◌}
use Rattle.std.proofs.lemmas.List.{append_assoc}
use Rattle.sctp_follow.proofs.Counting.{count_push}
use Rattle.sctp_follow.proofs.trips.Trips.median.Goals as goal

pub loop-length-init : goal.loop-length-init
loop-length-init c = record {
  shorter = [];
  split = search rules;
  passed = refl;
  fewer = λ h. omega (arith, h);
}

pub loop-length-preserved : goal.loop-length-preserved
loop-length-preserved c =
    let i = c.loop-length.invariant in
    let e : ℕ × ℕ = (c.in-Some.length.now, c.in-Some.count.now) in
    let more = count_push i.shorter c.in-Some.length.now c.in-Some.count.now in
    record {
      shorter = i.shorter ++ e ∷ [];
      split = i.split ∙ ap (λ (l : List (ℕ × ℕ)). i.shorter ++ l) c.in-Some.ensures.steps ∙ sym (append_assoc i.shorter (e ∷ []) c.next.new.self);
      passed = omega (arith, c.counted-passed.ensures, i.passed, more);
      fewer = λ h. c.if-passed-half.false;
    }

pub returns-then-passed-half : goal.returns-then-passed-half
returns-then-passed-half c some counted =
    let i = c.loop-length.invariant in
    record {
      shorter = i.shorter;
      count = c.in-Some.count.now;
      longer = c.next.new.self;
      split = i.split ∙ ap (λ (l : List (ℕ × ℕ)). i.shorter ++ l) c.in-Some.ensures.steps;
      fewer = omega (arith, i.passed, i.fewer some);
      half = omega (arith, i.passed, c.counted-passed.ensures, c.if-passed-half.true);
    }
