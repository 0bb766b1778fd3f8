use Rattle.sctp_sender.proofs.Names.{sym, subst, Flight, IsAllSettled, AreReported, IsCovered}
use Rattle.sctp_sender.proofs.Lows.{expiry-answered}
use Rattle.sctp_sender.proofs.Expiries.{times-covered, times-reported, times-settled}
use Rattle.sctp_sender.proofs.sender.Sender.expire_run.Goals as goal

pub invariant_of-self-2 : goal.invariant_of-self-2
invariant_of-self-2 c =
    let f : Flight = c.self.inside.flight in
    let n = c.in_ok-gone.gone.messages in
    let is = c.in_ok-gone.ensures.expired in (
      c.self.invariant.0,
      c.self.invariant.1,
      subst (λ (g : Flight). IsAllSettled g.queue) (sym is) (times-settled c.args.now f.queue n c.self.invariant.2),
      subst (IsCovered c.self.inside.kept) (sym is) (times-covered c.self.inside.kept c.args.now f n c.self.invariant.3),
      subst (AreReported c.self.inside.kept) (sym is) (times-reported c.self.inside.kept c.args.now f n c.self.invariant.4),
    )

pub returns-clause-low : goal.returns-clause-low
returns-clause-low c = rw (← c.self.view_is) (expiry-answered _ _ _ _ _ _ _ c.expire-is_low.ensures.low c.expire-is_low.ensures.less)
