use Rattle.sctp_delivery.proofs.Dropped.{answered}
use Rattle.sctp_delivery.proofs.sender_steps.drop_expired.Goals as goal

pub returns-clause-step : goal.returns-clause-step
returns-clause-step c =
    let e = c.drop_expired.ensures in
    answered c.args.now c.args.sender.now c.drop_expired.new.self c.drop_expired.result e.run e.run_of_one e.run_any e.run_few e.tail
    e.late e.worn e.released e.none
