use Rattle.std.proofs.Common.{ap, subst, sym, ◌∙◌}
use Rattle.sctp_association.proofs.Congested.{timed, within_before}
use Rattle.sctp_association.specs.Most.{FewerWherePut, most_data}
use Rattle.sctp_association.specs.declared.outbound.Outbound.{Outbound}
use Rattle.sctp_association.proofs.outbound.Outbound.put.Goals as goal
use Rattle.sctp_association.specs.declared.outbound.Outbound.{Outbound}
use Rattle.sctp_association.specs.Packets.{PutsSkip}
use Rattle.sctp_association.proofs.Idle.{on_ok_so}
use Rattle.sctp_association.specs.Packets.{Stands}
use Rattle.sctp_association.specs.Skips.{LeavesSkip}

pub returns-clause-within : goal.returns-clause-within
returns-clause-within c =
    within_before c.args.now c.args.self.now c.put_all-filled.new.self c.run_timer.new.self c.put_all-filled.ensures.within
    (timed c.put_all-filled.new.self c.run_timer.new.self c.run_timer.ensures.rest)

pub returns-clause-made : goal.returns-clause-made
returns-clause-made c = subst (λ (o : Outbound). PutsSkip c.args.self.now.is_skip_due o.is_skip_due c.args.self.now.sender o.sender
    c.args.packet.now.bytes c.put_all-filled.new.packet.bytes) (sym c.run_timer.ensures.rest) c.put_all-filled.ensures.made

pub returns-clause-fewer : goal.returns-clause-fewer
returns-clause-fewer c = subst (λ (o : Outbound).
    FewerWherePut (most_data c.args.self.now) (most_data o) c.args.packet.now.bytes c.put_all-filled.new.packet.bytes) (sym c.run_timer.ensures.rest)
    c.put_all-filled.ensures.fewer

pub returns-clause-leaves : goal.returns-clause-leaves
returns-clause-leaves c head = subst (λ (o : Outbound). LeavesSkip (Stands c.args.packet.now.bytes c.put_all-filled.new.packet.bytes) c.args.packet.now.limit
    c.args.self.now.sender c.args.self.now.is_skip_due o.is_skip_due) (sym c.run_timer.ensures.rest) (c.put_all-filled.ensures.leaves head)

pub returns-clause-skip : goal.returns-clause-skip
returns-clause-skip c = on_ok_so c.put_all-filled.result
    (λ none head short. ap (λ (o : Outbound). o.is_skip_due) c.run_timer.ensures.rest ∙ none head short) c.put_all-filled.ensures.skip
