use Rattle.sctp_association.proofs.Fewer.{fewer_same, fewer_then}
use Rattle.std.proofs.Common.{arith, refl, ◌∙◌}
use Rattle.sctp_association.proofs.Congested.{each_again, each_none, each_then, resends_by, resends_one}
use Rattle.sctp_association.proofs.Counted.{on_same, on_then}
use Rattle.sctp_association.proofs.Putting.{nothing, out_then}
use Rattle.sctp_association.specs.Congested.{path_of}
use Rattle.sctp_association.proofs.outbound.Outbound.put_marked.Goals as goal

pub loop-init : goal.loop-init
loop-init c = (refl, on_same _, (λ r. nothing _), omega arith, each_none _ _ _ refl, fewer_same _ _ _ _ refl refl)

pub loop-preserved : goal.loop-preserved
loop-preserved c = (
  c.put_again-in-loop.ensures.limit ∙ c.loop.invariant.0,
  on_then _ _ _ c.loop.invariant.1 c.put_again-in-loop.ensures.counts,
  out_then _ _ _ _ _ _ c.loop.invariant.2 c.put_again-in-loop.ensures.made,
  omega (arith, c.loop.invariant.3, c.put_again-in-loop.ensures.grows),
  each_then _ _ (path_of c.loop.self) _ c.loop.invariant.4 (each_again c.args.now _ _ _ c.put_again-in-loop.ensures.again),
  fewer_then _ _ _ _ _ _ c.loop.invariant.5 c.put_again-in-loop.ensures.fewer,
)

pub returns-in_err-put_again-2-clause-made : goal.returns-in_err-put_again-2-clause-made
returns-in_err-put_again-2-clause-made c =
    out_then _ _ _ _ _ _ c.put_again.ensures.made (out_then _ _ _ _ _ _ c.loop.invariant.2 c.put_again-in-loop.ensures.made)

pub returns-in_err-put_again-2-clause-grows : goal.returns-in_err-put_again-2-clause-grows
returns-in_err-put_again-2-clause-grows c = omega (arith, c.put_again.ensures.grows, c.loop.invariant.3, c.put_again-in-loop.ensures.grows)

pub returns-after-loop-clause-made : goal.returns-after-loop-clause-made
returns-after-loop-clause-made c = out_then _ _ _ _ _ _ c.put_again.ensures.made c.loop.invariant.2

pub returns-after-loop-clause-grows : goal.returns-after-loop-clause-grows
returns-after-loop-clause-grows c = omega (arith, c.put_again.ensures.grows, c.loop.invariant.3)

pub returns-after-loop-clause-idle : goal.returns-after-loop-clause-idle
returns-after-loop-clause-idle c head short _ =
    absurd (omega (arith, short, c.in_ok-put_again.ensures.put head c.if-not-branch.false, c.loop.invariant.3))

pub returns-then-not-branch-2-clause-made : goal.returns-then-not-branch-2-clause-made
returns-then-not-branch-2-clause-made c =
    out_then _ _ _ _ _ _ c.put_again.ensures.made (out_then _ _ _ _ _ _ c.loop.invariant.2 c.put_again-in-loop.ensures.made)

pub returns-then-not-branch-2-clause-grows : goal.returns-then-not-branch-2-clause-grows
returns-then-not-branch-2-clause-grows c = omega (arith, c.put_again.ensures.grows, c.loop.invariant.3, c.put_again-in-loop.ensures.grows)

pub returns-then-not-branch-2-clause-idle : goal.returns-then-not-branch-2-clause-idle
returns-then-not-branch-2-clause-idle c head short _ = absurd (omega (
  arith,
  short,
  c.in_ok-put_again.ensures.put head c.if-not-branch.false,
  c.loop.invariant.3,
  c.put_again-in-loop.ensures.grows,
))

pub returns-in_err-put_again-2-clause-again : goal.returns-in_err-put_again-2-clause-again
returns-in_err-put_again-2-clause-again c = resends_by c.args.now _ _ _ _ _ (c.in_ok-put_again.ensures.sent c.if-not-branch.false)
    (each_then _ _ (path_of c.put_again.new.self) _ (each_again c.args.now _ _ _ c.put_again.ensures.again)
    (each_then _ _ (path_of c.loop.self) _ c.loop.invariant.4 (each_again c.args.now _ _ _ c.put_again-in-loop.ensures.again)))

pub returns-after-loop-clause-again : goal.returns-after-loop-clause-again
returns-after-loop-clause-again c = resends_by c.args.now _ _ _ _ _ (c.in_ok-put_again.ensures.sent c.if-not-branch.false)
    (each_then _ _ (path_of c.put_again.new.self) _ (each_again c.args.now _ _ _ c.put_again.ensures.again) c.loop.invariant.4)

pub returns-then-not-branch-2-clause-again : goal.returns-then-not-branch-2-clause-again
returns-then-not-branch-2-clause-again c = resends_by c.args.now _ _ _ _ _ (c.in_ok-put_again.ensures.sent c.if-not-branch.false)
    (each_then _ _ (path_of c.put_again.new.self) _ (each_again c.args.now _ _ _ c.put_again.ensures.again)
    (each_then _ _ (path_of c.loop.self) _ c.loop.invariant.4 (each_again c.args.now _ _ _ c.put_again-in-loop.ensures.again)))

pub returns-in_err-put_again-clause-again : goal.returns-in_err-put_again-clause-again
returns-in_err-put_again-clause-again c = resends_one c.args.now _ _ _ _ _ c.put_again.ensures.again

pub returns-then-not-branch-clause-again : goal.returns-then-not-branch-clause-again
returns-then-not-branch-clause-again c = resends_one c.args.now _ _ _ _ _ c.put_again.ensures.again

-- ## What can still leave

pub returns-in_err-put_again-2-clause-fewer : goal.returns-in_err-put_again-2-clause-fewer
returns-in_err-put_again-2-clause-fewer c = fewer_then _ _ _ _ _ _ c.put_again.ensures.fewer
    (fewer_then _ _ _ _ _ _ c.loop.invariant.5 c.put_again-in-loop.ensures.fewer)

pub returns-after-loop-clause-fewer : goal.returns-after-loop-clause-fewer
returns-after-loop-clause-fewer c = fewer_then _ _ _ _ _ _ c.put_again.ensures.fewer c.loop.invariant.5

pub returns-then-not-branch-2-clause-fewer : goal.returns-then-not-branch-2-clause-fewer
returns-then-not-branch-2-clause-fewer c = fewer_then _ _ _ _ _ _ c.put_again.ensures.fewer
    (fewer_then _ _ _ _ _ _ c.loop.invariant.5 c.put_again-in-loop.ensures.fewer)
