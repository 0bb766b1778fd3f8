use Rattle.sctp_sender.proofs.Names.{sym, subst, ◌∙◌, rules, Flight, IsAllSettled, IsCovered}
use Rattle.sctp_sender.specs.Late.{worn_order}
use Rattle.sctp_sender.proofs.Settled.{each-settled}
use Rattle.sctp_sender.proofs.Lows.{messages-released-same, messages-tell, one-message-tells}
use Rattle.sctp_sender.proofs.Covers.{each-covered}
use Rattle.sctp_sender.proofs.Listed.{reported-on}
use Rattle.sctp_sender.proofs.Resends.{lows-none}
use Rattle.sctp_sender.proofs.sender.Sender.expire_rexmit.Goals as goal

pub invariant_of-self-2 : goal.invariant_of-self-2
invariant_of-self-2 c =
    let f : Flight = c.self.inside.flight in (
      c.self.invariant.0,
      c.self.invariant.1,
      subst (λ (g : Flight). IsAllSettled g.queue) (sym c.in_ok-worn.ensures.ok) (each-settled (worn_order f) f c.self.invariant.2),
      subst (IsCovered c.self.inside.kept) (sym c.in_ok-worn.ensures.ok) (each-covered c.self.inside.kept (worn_order f) f c.self.invariant.3),
      reported-on c.self.inside.kept f c.expire_rexmit.new.self c.expire_rexmit.ensures.known c.self.invariant.4,
    )

pub returns-clause-abandons : goal.returns-clause-abandons
returns-clause-abandons c = record {
  ok = search rules;
  answer = search rules;
  low = λ s. rw (← c.self.view_is) (messages-tell s _ _ _ _ c.release_abandoned.ensures.lows c.release_abandoned.ensures.less);
  once = λ s. one-message-tells s _ _ _ _ c.release_abandoned.ensures.lows c.release_abandoned.ensures.less;
  released = rw (← c.self.view_is) (messages-released-same _ _ _ _ _ c.release_abandoned.ensures.lows c.in_ok-worn.ensures.released);
  accepted = search rules;
  refused = search rules;
  none = rw (← c.self.view_is) (λ e. c.in_ok-worn.ensures.none (lows-none _ _ (sym c.release_abandoned.ensures.lows ∙ e)));
  idle = search rules;
  err = search rules;
}
