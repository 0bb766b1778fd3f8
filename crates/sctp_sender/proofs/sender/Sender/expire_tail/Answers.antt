use Rattle.sctp_sender.proofs.Names.{sym, subst, rules, expiring_tail, message_of, Flight, IsAllSettled, IsCovered}
use Rattle.sctp_sender.proofs.Settled.{abandoned-settled}
use Rattle.sctp_sender.proofs.Lows.{release-answered}
use Rattle.sctp_sender.proofs.Covers.{after-abandonment-covered}
use Rattle.sctp_sender.proofs.Listed.{reported-on}
use Rattle.sctp_sender.proofs.sender.Sender.expire_tail.Goals as goal

pub invariant_of-self-2 : goal.invariant_of-self-2
invariant_of-self-2 c =
    let f : Flight = c.self.inside.flight in (
      c.self.invariant.0,
      c.self.invariant.1,
      subst (λ (g : Flight). IsAllSettled g.queue) (sym c.in_ok-stream.ensures.ok)
          (abandoned-settled (message_of (expiring_tail c.args.now f.queue)) f.next_tsn f.queue c.self.invariant.2),
      subst (IsCovered c.self.inside.kept) (sym c.in_ok-stream.ensures.ok)
          (after-abandonment-covered c.self.inside.kept (message_of (expiring_tail c.args.now f.queue)) f c.self.invariant.3),
      reported-on c.self.inside.kept f c.expire_tail.new.self c.expire_tail.ensures.known c.self.invariant.4,
    )

pub returns : goal.returns
returns c = record {
  some = search rules;
  answer = search rules;
  none = search rules;
  released = search rules;
  falls = search rules;
  low = rw (← c.self.view_is) (release-answered _ _ _ _ _ c.release-is_low.ensures.low c.release-is_low.ensures.less);
  accepted = search rules;
  refused = search rules;
  succeeds = search rules;
  idle = search rules;
  err = search rules;
}
