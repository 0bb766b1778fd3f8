use Rattle.sctp_delivery.proofs.OneRead as one_read
use Rattle.sctp_delivery.proofs.arrived.read_write.Goals as goal

pub returns : goal.returns
returns c = one_read.answers-write c.args.receiver.now c.args.stream c.read.result c.read.ensures.message c.read.ensures.accepted
