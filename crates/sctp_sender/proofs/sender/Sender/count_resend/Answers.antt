use Rattle.sctp_sender.specs.Flight.{Flight}
use Rattle.sctp_sender.proofs.Settled.{count-settled}
use Rattle.sctp_sender.proofs.Covers.{count-covered}
use Rattle.sctp_sender.proofs.Listed.{count-reported}
use Rattle.sctp_sender.proofs.sender.Sender.count_resend.Goals as goal

pub invariant_of-self : goal.invariant_of-self
invariant_of-self c =
    let f : Flight = c.self.inside.flight in (
      c.self.invariant.0,
      c.self.invariant.1,
      count-settled c.args.tsn f c.count_resend.new.self c.count_resend.ensures.counted c.count_resend.ensures.none c.self.invariant.2,
      count-covered c.self.inside.kept c.args.tsn f c.count_resend.new.self c.count_resend.ensures.counted c.count_resend.ensures.none c.self.invariant.3,
      count-reported c.self.inside.kept c.args.tsn f c.count_resend.new.self c.count_resend.ensures.counted c.count_resend.ensures.none c.self.invariant.4,
    )
