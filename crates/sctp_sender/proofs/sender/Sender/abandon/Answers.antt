use Rattle.sctp_sender.proofs.Names.{sym, subst, find, to_abandon, has_tsn, Flight, IsAllSettled, IsCovered}
use Rattle.sctp_sender.proofs.Settled.{abandoned-settled}
use Rattle.sctp_sender.proofs.Lows.{release-answered}
use Rattle.sctp_sender.proofs.Covers.{after-abandonment-covered}
use Rattle.sctp_sender.proofs.Listed.{reported-on}
use Rattle.sctp_sender.proofs.sender.Sender.abandon.Goals as goal

pub invariant_of-self-2 : goal.invariant_of-self-2
invariant_of-self-2 c =
    let f : Flight = c.self.inside.flight in (
      c.self.invariant.0,
      c.self.invariant.1,
      subst (λ (g : Flight). IsAllSettled g.queue) (sym c.in_ok-stream.ensures.ok)
          (abandoned-settled (to_abandon (find (has_tsn c.args.tsn) f.queue.inflight.chunks)) f.next_tsn f.queue c.self.invariant.2),
      subst (IsCovered c.self.inside.kept) (sym c.in_ok-stream.ensures.ok)
          (after-abandonment-covered c.self.inside.kept (to_abandon (find (has_tsn c.args.tsn) f.queue.inflight.chunks)) f c.self.invariant.3),
      reported-on c.self.inside.kept f c.abandon.new.self c.abandon.ensures.known c.self.invariant.4,
    )

pub returns-clause-low : goal.returns-clause-low
returns-clause-low c = rw (← c.self.view_is) (release-answered _ _ _ _ _ c.release-is_low.ensures.low c.release-is_low.ensures.less)
