use Rattle.sctp_receiver.proofs.Names.{arith, ◌-◌, ◌^◌, le-ltb, distance}
use Rattle.sctp_receiver.proofs.Spans.{within-circle}
use Rattle.sctp_receiver.proofs.receiver.spans.TsnSpan.whole.Goals as goal

pub returns-clause-outside : goal.returns-clause-outside
returns-clause-outside c = λ t. le-ltb (2 ^ 32 - 1) (distance 0 t) (omega (arith, within-circle 0 t))
