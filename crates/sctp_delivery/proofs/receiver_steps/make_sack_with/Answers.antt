use Rattle.sctp_delivery.proofs.RoundsEnd.{only-made}
use Rattle.sctp_delivery.proofs.receiver_steps.make_sack_with.Goals as goal

pub returns-clause-step : goal.returns-clause-step
returns-clause-step c = only-made c.make_sack.result c.args.credit 65532 c.args.receiver.now
