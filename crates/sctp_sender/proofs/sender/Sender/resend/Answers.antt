use Rattle.sctp_sender.specs.Flight.{Flight}
use Rattle.sctp_sender.proofs.Settled.{resend-settled}
use Rattle.sctp_sender.proofs.Covers.{resend-covered}
use Rattle.sctp_sender.proofs.Listed.{resend-reported}
use Rattle.sctp_sender.proofs.sender.Sender.resend.Goals as goal

pub invariant_of-self : goal.invariant_of-self
invariant_of-self c =
    let f : Flight = c.self.inside.flight in (
      c.self.invariant.0,
      c.self.invariant.1,
      resend-settled c.args.tsn c.args.now f c.resend.new.self c.resend.result c.resend.ensures.ok c.resend.ensures.accepted c.resend.ensures.err
          c.self.invariant.2,
      resend-covered c.self.inside.kept c.args.tsn c.args.now f c.resend.new.self c.resend.result c.resend.ensures.ok c.resend.ensures.accepted
          c.resend.ensures.err
          c.self.invariant.3,
      resend-reported c.self.inside.kept c.args.tsn c.args.now f c.resend.new.self c.resend.result c.resend.ensures.ok c.resend.ensures.accepted
          c.resend.ensures.err c.self.invariant.4,
    )
