use Rattle.std.proofs.Common.{length, ap, inl, inr, arith}
use Rattle.std.proofs.lemmas.Grind.{common_steps}
use Rattle.sctp_data.specs.SelectiveAck.{sack_of}
use Rattle.sctp_c.proofs.Filling.{taken-few}
use Rattle.sctp_c.proofs.sender.acks.sctpr_sender_take_back.Goals.{else-not-is_empty-via-then-not-is_empty+else-rows-most}
use Rattle.sctp_c.proofs.sender.acks.sctpr_sender_take_back.Goals.{else-not-is_empty-via-else-not-is_empty}
use Rattle.sctp_c.proofs.sender.acks.sctpr_sender_take_back.Goals as goal

pub returns-in-Ok-take_back-clause-whole : goal.returns-in-Ok-take_back-clause-whole
returns-in-Ok-take_back-clause-whole c _ =
    let few = taken-few (sack_of c.in-Ok.sack) c.get_mut.result.now.own in
    let told = ap length c.in-Ok-take_back.ensures.answer in
    elim c.else-not-is_empty.branch [
      | else-not-is_empty-via-then-not-is_empty+else-rows-most w ↦ inr (grind (arith, common_steps, few, told, w.if-rows-most.false))
      | else-not-is_empty-via-else-not-is_empty w ↦ inl (grind (arith, common_steps, w.if-not-is_empty.false, c.is_empty.ensures))
    ]
