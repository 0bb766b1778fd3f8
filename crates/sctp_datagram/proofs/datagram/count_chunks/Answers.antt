use Rattle.std.proofs.Common.{◌<◌, ◌≡◌, true, false, length, drop, inl, inr, arith, rules}
use Rattle.std.proofs.lemmas.Bool.{false≢true}
use Rattle.std.proofs.lemmas.Grind.{common_steps}
use Rattle.std.proofs.lemmas.List.{take_rest}
use Rattle.std.proofs.lemmas.Result.{err_from_is_err_and}
use Rattle.sctp_chunks.specs.Framing.{type_at}
use Rattle.sctp_datagram.specs.Types.{is_stopping}
use Rattle.sctp_datagram.proofs.Walk.{all-there, in_place_passed, passed-none, passed-next, passed-stop}
use Rattle.sctp_datagram.proofs.datagram.count_chunks.Goals as goal

pub walk-init : goal.walk-init
walk-init c = record { counted = passed-none c.args.raw.now; within = c.requires; few = omega arith }

pub walk-preserved : goal.walk-preserved
walk-preserved c =
    let rest = take_rest c.args.raw.now c.walk.at in
    let on : is_stopping (type_at (drop c.walk.at c.args.raw.now)) ≡ false = grind (arith, common_steps) in
    let next = passed-next c.args.raw.now c.walk.at c.walk.count c.walk.invariant.counted (rw rest at c.in_ok-span.ensures.there, on) in
    record {
      counted = rw (c.in_ok-span.ensures.span, rest) next;
      within = grind (arith, common_steps);
      few = grind (arith, common_steps);
    }

pub returns-in_err-span-clause-only : goal.returns-in_err-span-clause-only
returns-in_err-span-clause-only c = λ rows all.
    let p = err_from_is_err_and c.from_residual.result c.from_residual.ensures.1 in
    let some : 0 < length (drop c.walk.at c.args.raw.now) = grind (arith, common_steps) in
    let so_far = c.walk.invariant.counted in
    let there = all-there c.args.raw.now rows so_far.0 c.walk.at all so_far.1 some in
    rw (p.1, p.2) (c.in_err-span.ensures.only (rw (take_rest c.args.raw.now c.walk.at) there))

pub returns-in_err-span-clause-fault : goal.returns-in_err-span-clause-fault
returns-in_err-span-clause-fault c =
    let p = err_from_is_err_and c.from_residual.result c.from_residual.ensures.1 in
    let so_far = c.walk.invariant.counted in
    rw (p.1, p.2) (elim c.in_err-span.ensures.fault [
      | inl memory ↦ inl memory
      | inr fault ↦ inr (record {
        passed = so_far.0;
        place = c.walk.at;
        passes = so_far.1;
        inside = search rules;
        fault = rw (take_rest c.args.raw.now c.walk.at) at fault;
      })
    ])

pub returns-then-is_stopping-clause-found : goal.returns-then-is_stopping-clause-found
returns-then-is_stopping-clause-found c =
    let rest = take_rest c.args.raw.now c.walk.at in
    let stops : is_stopping (type_at (drop c.walk.at c.args.raw.now)) ≡ true = grind (arith, common_steps) in
    passed-stop c.args.raw.now c.walk.at c.walk.count c.walk.invariant.counted (rw rest at c.in_ok-span.ensures.there) stops

pub returns-in_err-span-clause-in_place : goal.returns-in_err-span-clause-in_place
returns-in_err-span-clause-in_place c = λ ws all whole.
    let some : 0 < length (drop c.walk.at c.args.raw.now) = grind (arith, common_steps) in
    let so_far = c.walk.invariant.counted in
    let next = in_place_passed c.args.raw.now 12 so_far.0 ws c.walk.at so_far.1 whole all some in
    absurd (false≢true (c.in_err-span.ensures.in_place next.0 next.1 (rw (take_rest c.args.raw.now c.walk.at) next.2)))
