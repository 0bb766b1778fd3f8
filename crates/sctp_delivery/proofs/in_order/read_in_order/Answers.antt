use Rattle.sctp_delivery.proofs.OrderedNext as ordered_next
use Rattle.sctp_delivery.proofs.in_order.read_in_order.Goals as goal

pub returns-clause-order : goal.returns-clause-order
returns-clause-order c = ordered_next.answers-next c.args.receiver.now c.args.stream c.read.result c.read.ensures.message c.read.ensures.accepted
