use Rattle.sctp_delivery.proofs.RoundsEnd.{resent}
use Rattle.sctp_delivery.proofs.sender_steps.resend_next.Goals as goal

pub returns-clause-step : goal.returns-clause-step
returns-clause-step c =
    let e = c.resend_next.ensures in resent c.args.now c.args.room c.args.sender.now c.resend_next.new.self c.resend_next.result e.ok e.marked
