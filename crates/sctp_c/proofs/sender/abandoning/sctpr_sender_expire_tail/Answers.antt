use Rattle.std.proofs.Common.{ap, subst}
use Rattle.sctp_c.specs.Abandoning.{ExpiresTail}
use Rattle.sctp_c.specs.declared.sender.typed.TypedSender.{TypedSender}
use Rattle.sctp_c.proofs.Tails.{tail-answered}
use Rattle.sctp_c.proofs.sender.abandoning.sctpr_sender_expire_tail.Goals as goal

pub returns-in-Ok-Some-clause-ok : goal.returns-in-Ok-Some-clause-ok
returns-in-Ok-Some-clause-ok c _ =
    let e = c.in-Ok-Some.ensures in
    subst (λ t. ExpiresTail c.args.now c.abandoned_row.result t c.expire_tail.new.sender) (ap (λ (h : TypedSender). h.own) c.get_mut.ensures.value)
    (tail-answered c.args.now c.in-Ok-Some.gone c.in-Ok-Some.field-0 c.abandoned_row.result c.get_mut.result.now.own c.expire_tail.new.sender
    c.in-Ok-Some.field-0-is c.abandoned_row.ensures e.some e.answer e.released e.low)
