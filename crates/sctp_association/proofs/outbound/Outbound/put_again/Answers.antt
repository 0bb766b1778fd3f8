use Rattle.sctp_association.proofs.Fewer.{fewer_same}
use Rattle.std.proofs.Common.{ap, refl, sym, ◌∙◌}
use Rattle.sctp_association.proofs.Congested.{again_where}
use Rattle.sctp_association.proofs.Idle.{both_so, none_marked, unfit}
use Rattle.sctp_association.proofs.Putting.{nothing}
use Rattle.sctp_outbound.specs.declared.payload_queue.outstanding.Outstanding.{Outstanding}
use Rattle.sctp_association.proofs.outbound.Outbound.put_again.Goals as goal

pub returns-then-not-may_send_again-clause-made : goal.returns-then-not-may_send_again-clause-made
returns-then-not-may_send_again-clause-made c = λ r. nothing _

pub returns-then-outstanding-eq0-clause-made : goal.returns-then-outstanding-eq0-clause-made
returns-then-outstanding-eq0-clause-made c = λ r. nothing _

pub returns-then-outstanding-eq0-clause-none : goal.returns-then-outstanding-eq0-clause-none
returns-then-outstanding-eq0-clause-none c _ _ = record {
  sender = refl;
  marked = none_marked _ c.args.self.now.sender (sym (ap (λ (o : Outstanding). o.marked) c.outstanding.ensures) ∙ c.if-outstanding-eq0.true);
}

pub returns-clause-none : goal.returns-clause-none
returns-clause-none c = both_so _ _ _ c.put_first.result (λ s none held is _. record {
  sender = (held is).0;
  marked = unfit _ _ _ (none is);
}) c.put_first.ensures.none c.put_first.ensures.held

pub returns-clause-again : goal.returns-clause-again
returns-clause-again c = again_where c.args.now _ _ _ (sym c.may_send_again.ensures.value ∙ c.if-not-may_send_again.false) c.put_first.ensures.again

pub returns-then-not-may_send_again-clause-fewer : goal.returns-then-not-may_send_again-clause-fewer
returns-then-not-may_send_again-clause-fewer c = fewer_same _ _ _ _ refl refl

pub returns-then-outstanding-eq0-clause-fewer : goal.returns-then-outstanding-eq0-clause-fewer
returns-then-outstanding-eq0-clause-fewer c = fewer_same _ _ _ _ refl refl
