use Rattle.std.proofs.Common.{◌<◌, length, drop, inl, inr, arith}
use Rattle.std.proofs.lemmas.Bool.{false≢true}
use Rattle.std.proofs.lemmas.Grind.{common_steps}
use Rattle.std.proofs.lemmas.List.{take_rest}
use Rattle.std.proofs.lemmas.Result.{err_from_is_err_and}
use Rattle.sctp_packets.proofs.Walk.{goes_on}
use Rattle.sctp_packets.specs.Fault.{WalkFault}
use Rattle.sctp_c.proofs.InPlace.{in_place_on}
use Rattle.sctp_c.proofs.Places.{counted-none, counted-next}
use Rattle.sctp_c.proofs.packet.count_chunks.Goals as goal

pub walk-init : goal.walk-init
walk-init c = record { counted = counted-none c.args.raw.now; within = c.requires; few = omega arith }

pub walk-preserved : goal.walk-preserved
walk-preserved c =
    let rest = take_rest c.args.raw.now c.walk.at in
    let next = counted-next c.args.raw.now c.walk.at c.walk.count c.walk.invariant.counted (rw rest at c.in_ok-at.ensures.found) in
    record {
      counted = rw (c.in_ok-at.ensures.span, rest) next;
      within = grind (arith, common_steps);
      few = grind (arith, common_steps);
    }

pub returns-in_err-at-clause-only : goal.returns-in_err-at-clause-only
returns-in_err-at-clause-only c = λ ws whole.
    let p = err_from_is_err_and c.from_residual.result c.from_residual.ensures.1 in
    let some : 0 < length (drop c.walk.at c.args.raw.now) = grind (arith, common_steps) in
    let so_far = c.walk.invariant.counted in
    let next = goes_on (drop 12 c.args.raw.now) so_far.0 ws (drop c.walk.at c.args.raw.now) so_far.1 whole some in
    rw (p.1, p.2) (c.in_err-at.ensures.only next.0 (rw (take_rest c.args.raw.now c.walk.at) next.1))

pub returns-in_err-at-clause-fault : goal.returns-in_err-at-clause-fault
unfolding WalkFault
returns-in_err-at-clause-fault c =
    let p = err_from_is_err_and c.from_residual.result c.from_residual.ensures.1 in
    let so_far = c.walk.invariant.counted in
    rw (p.1, p.2) (elim c.in_err-at.ensures.fault [
      | inl memory ↦ inl memory
      | inr fault ↦ inr (so_far.0, drop c.walk.at c.args.raw.now, so_far.1, rw (take_rest c.args.raw.now c.walk.at) at fault)
    ])

pub returns-in_err-at-clause-in_place : goal.returns-in_err-at-clause-in_place
returns-in_err-at-clause-in_place c = λ ws all whole.
    let p = err_from_is_err_and c.from_residual.result c.from_residual.ensures.1 in
    let some : 0 < length (drop c.walk.at c.args.raw.now) = grind (arith, common_steps) in
    let so_far = c.walk.invariant.counted in
    let next = in_place_on (drop 12 c.args.raw.now) so_far.0 ws (drop c.walk.at c.args.raw.now) so_far.1 whole all some in
    absurd (false≢true (c.in_err-at.ensures.in_place next.0 next.1 (rw (take_rest c.args.raw.now c.walk.at) next.2)))
