use Rattle.std.proofs.Common.{arith}
use Rattle.sctp_receiver.proofs.PushCosts.{data-none, data-less}
use Rattle.sctp_receiver.proofs.receiver.intake.take.Goals as goal

pub returns-then-is_new_too_far-clause-cost : goal.returns-then-is_new_too_far-clause-cost
returns-then-is_new_too_far-clause-cost c = data-none _ _ _ _ (omega (arith, c.is_new_too_far.ensures.cost))

pub returns-clause-cost : goal.returns-clause-cost
returns-clause-cost c =
    data-less _ _ _ _ _
    (omega (arith, c.is_new_too_far.ensures.cost, c.is_new_too_far.ensures.not_back, c.take_any_ssn.ensures.not_back)) c.take_any_ssn.ensures.cost
