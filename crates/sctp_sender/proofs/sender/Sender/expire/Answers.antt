use Rattle.sctp_sender.proofs.Names.{sym, subst, rules, Flight, expiring, IsAllSettled, AreReported, IsCovered}
use Rattle.sctp_sender.proofs.Settled.{expired-settled}
use Rattle.sctp_sender.proofs.Lows.{expiry-answered}
use Rattle.sctp_sender.proofs.Covers.{expired-covered}
use Rattle.sctp_sender.proofs.Listed.{expired-reported}
use Rattle.sctp_sender.proofs.sender.Sender.expire.Goals as goal

pub invariant_of-self-2 : goal.invariant_of-self-2
invariant_of-self-2 c =
    let f : Flight = c.self.inside.flight in (
      c.self.invariant.0,
      c.self.invariant.1,
      subst (λ (g : Flight). IsAllSettled g.queue) (sym c.expire.ensures.expired) (expired-settled (expiring c.args.now f.queue) f.queue c.self.invariant.2),
      subst (IsCovered c.self.inside.kept) (sym c.expire.ensures.expired)
          (expired-covered c.self.inside.kept (expiring c.args.now f.queue) f c.self.invariant.3),
      subst (AreReported c.self.inside.kept) (sym c.expire.ensures.expired)
          (expired-reported c.self.inside.kept (expiring c.args.now f.queue) f c.self.invariant.4),
    )

pub returns : goal.returns
returns c = record {
  some = search rules;
  none = search rules;
  idle = search rules;
  released = search rules;
  low = rw (← c.self.view_is) (expiry-answered _ _ _ _ _ _ _ c.expire-is_low.ensures.low c.expire-is_low.ensures.less);
}
