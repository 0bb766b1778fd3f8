use Rattle.sctp_sender.proofs.Names.{sym, subst, Flight, IsAllSettled, AreReported, IsCovered}
use Rattle.sctp_sender.proofs.Settled.{started-settled}
use Rattle.sctp_sender.proofs.Covers.{started-covered}
use Rattle.sctp_sender.proofs.Listed.{started-reported}
use Rattle.sctp_sender.proofs.sender.Sender.start.Goals as goal

pub invariant_of-self : goal.invariant_of-self
invariant_of-self c =
    let f : Flight = c.self.inside.flight in (
      c.self.invariant.0,
      c.self.invariant.1,
      subst (λ (g : Flight). IsAllSettled g.queue) (sym c.start.ensures) (started-settled c.args.now f.queue c.self.invariant.2),
      subst (IsCovered c.self.inside.kept) (sym c.start.ensures) (started-covered c.self.inside.kept c.args.now f c.self.invariant.3),
      subst (AreReported c.self.inside.kept) (sym c.start.ensures) (started-reported c.self.inside.kept c.args.now f c.self.invariant.4),
    )
