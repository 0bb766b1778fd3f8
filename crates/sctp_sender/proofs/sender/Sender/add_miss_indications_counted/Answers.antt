use Rattle.sctp_sender.proofs.Names.{sym, subst, Flight, IsAllSettled, AreReported, IsCovered}
use Rattle.sctp_sender.specs.Resending.{count_before}
use Rattle.sctp_sender.proofs.Settled.{misses-settled}
use Rattle.sctp_sender.proofs.Covers.{misses-covered}
use Rattle.sctp_sender.proofs.Listed.{misses-reported}
use Rattle.sctp_sender.proofs.sender.Sender.add_miss_indications_counted.Goals as goal

pub invariant_of-self : goal.invariant_of-self
invariant_of-self c =
    let f : Flight = c.self.inside.flight in (
      c.self.invariant.0,
      c.self.invariant.1,
      subst (λ (g : Flight). IsAllSettled g.queue) (sym c.add_miss_indications_counted.ensures.missed)
          (misses-settled (count_before c.args.before f) f c.self.invariant.2),
      subst (IsCovered c.self.inside.kept) (sym c.add_miss_indications_counted.ensures.missed)
          (misses-covered c.self.inside.kept (count_before c.args.before f) f c.self.invariant.3),
      subst (AreReported c.self.inside.kept) (sym c.add_miss_indications_counted.ensures.missed)
          (misses-reported c.self.inside.kept (count_before c.args.before f) f c.self.invariant.4),
    )
