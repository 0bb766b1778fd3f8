use Rattle.sctp_data.specs.SelectiveAck.{sack_of}
use Rattle.sctp_delivery.proofs.WholeSacks.{makes}
use Rattle.sctp_delivery.proofs.sender_steps.acked_counted.Goals as goal

pub returns-clause-step : goal.returns-clause-step
returns-clause-step c = makes (sack_of c.args.sack.now) c.args.sender.now c.acked.new.sender c.acked.result c.acked.ensures.acks
