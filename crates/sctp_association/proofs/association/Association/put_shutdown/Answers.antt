use Rattle.sctp_association.specs.Congested.{Path}
use Rattle.sctp_association.proofs.Congested.{full_others}
use Rattle.sctp_association.proofs.Leaving.{into_then}
use Rattle.std.proofs.Common.{ap, arith, ◌∙◌}
use Rattle.sctp_association.proofs.Idle.{added_longer, no_shutdown}
use Rattle.sctp_association.proofs.Others.{once_others, timed_then}
use Rattle.sctp_association.proofs.association.Association.put_shutdown.Goals as goal
use Rattle.sctp_association.proofs.Ordered as ordered
use Rattle.std.proofs.Common.{◌∷◌, []}

pub returns-clause-made : goal.returns-clause-made
returns-clause-made c = once_others c.args.self.now c.put_shutdown_asked.new.self c.put_shutdown_ack.new.self c.put_shutdown_asked.ensures.made
    c.put_shutdown_asked.ensures.kept c.put_shutdown_ack.ensures.others

pub returns-clause-timed : goal.returns-clause-timed
returns-clause-timed c = timed_then _ _ _ c.put_shutdown_asked.ensures.timed c.put_shutdown_ack.ensures.others.timed

pub returns-clause-owes : goal.returns-clause-owes
returns-clause-owes c p draft short =
    let asked = c.put_shutdown_asked.ensures in
    let acked = c.put_shutdown_ack.ensures in
    let first = added_longer _ _ _ _ asked.made.added draft in
    let then = added_longer _ _ _ _ acked.others.added (asked.made.added.draft p draft) in
    (no_shutdown _ _ _ _ (λ e. acked.asked ∙ e) acked.acks (asked.owes first.0 (omega (arith, short, then.1))), acked.owes then.0 short)

pub returns-clause-leaves : goal.returns-clause-leaves
returns-clause-leaves c = into_then c.args.self.now c.put_shutdown_asked.new.self c.put_shutdown_ack.new.self _ _
    c.put_shutdown_asked.ensures.made.added c.put_shutdown_ack.ensures.others.added c.put_shutdown_asked.ensures.leaves
    c.put_shutdown_ack.ensures.leaves

pub returns-clause-full : goal.returns-clause-full
returns-clause-full c =
    full_others c.args.self.now.outbound c.put_shutdown_asked.new.self c.put_shutdown_ack.new.self c.put_shutdown_asked.ensures.full
    c.put_shutdown_ack.ensures.others

pub returns-clause-skip : goal.returns-clause-skip
returns-clause-skip c = ap (λ (p : Path). p.skip) c.put_shutdown_ack.ensures.others.halves.path ∙ c.put_shutdown_asked.ensures.skip

pub returns-clause-order : goal.returns-clause-order
returns-clause-order c = ordered.order_then (7 ∷ []) (8 ∷ []) _ _ _ c.put_shutdown_asked.ensures.order c.put_shutdown_ack.ensures.order
