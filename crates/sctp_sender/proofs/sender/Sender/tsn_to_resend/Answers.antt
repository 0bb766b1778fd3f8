use Rattle.sctp_sender.proofs.Names.{sym, subst, Flight, AreReported, IsCovered, IsAllSettled}
use Rattle.sctp_sender.proofs.sender.Sender.tsn_to_resend.Goals as goal

pub invariant_of-self : goal.invariant_of-self
invariant_of-self c = (
  c.self.invariant.0,
  c.self.invariant.1,
  subst (λ (g : Flight). IsAllSettled g.queue) (sym c.tsn_to_resend.ensures.same) c.self.invariant.2,
  subst (IsCovered c.self.inside.kept) (sym c.tsn_to_resend.ensures.same) c.self.invariant.3,
  subst (AreReported c.self.inside.kept) (sym c.tsn_to_resend.ensures.same) c.self.invariant.4,
)
