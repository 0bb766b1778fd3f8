use Rattle.sctp_receiver.specs.Receiver.{window}
use Rattle.sctp_delivery.proofs.RoundsEnd.{only-made}
use Rattle.sctp_delivery.proofs.receiver_steps.make_sack.Goals as goal

pub returns-clause-step : goal.returns-clause-step
returns-clause-step c = only-made c.make_sack.result (window c.args.receiver.now) c.args.room c.args.receiver.now
