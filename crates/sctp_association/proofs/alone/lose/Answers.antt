use Rattle.std.proofs.Common.{Ok, ap, arith, refl, ◌∙◌}
use Rattle.sctp_association.proofs.Lasting.{lasts_then}
use Rattle.sctp_association.proofs.alone.lose.Goals as goal

pub loop-init : goal.loop-init
loop-init c = record { most = refl; left = omega arith }

pub loop-preserved : goal.loop-preserved
loop-preserved c = lasts_then c.args.one.now c.loop.one c.poll_transmit.new.self c.loop.invariant c.poll_transmit.ensures.left

pub returns-in_default : goal.returns-in_default
returns-in_default c = lasts_then c.args.one.now c.loop.one c.poll_transmit.new.self c.loop.invariant c.poll_transmit.ensures.left

pub loop-smaller : goal.loop-smaller
loop-smaller c = c.poll_transmit.ensures.fewer (c.in-Ok-true.is ∙ ap (λ b. Ok b) c.in-Ok-true.field-0-test)
