use Rattle.sctp_sender.proofs.Names.{sym, subst, Flight, IsAllSettled, AreReported, IsCovered}
use Rattle.sctp_sender.proofs.Settled.{all-marked-settled}
use Rattle.sctp_sender.proofs.Covers.{all-marked-covered}
use Rattle.sctp_sender.proofs.Listed.{all-marked-reported}
use Rattle.sctp_sender.proofs.sender.Sender.retransmit_all.Goals as goal

pub invariant_of-self : goal.invariant_of-self
invariant_of-self c =
    let f : Flight = c.self.inside.flight in (
      c.self.invariant.0,
      c.self.invariant.1,
      subst (λ (g : Flight). IsAllSettled g.queue) (sym c.retransmit_all.ensures) (all-marked-settled f c.self.invariant.2),
      subst (IsCovered c.self.inside.kept) (sym c.retransmit_all.ensures) (all-marked-covered c.self.inside.kept f c.self.invariant.3),
      subst (AreReported c.self.inside.kept) (sym c.retransmit_all.ensures) (all-marked-reported c.self.inside.kept f c.self.invariant.4),
    )
