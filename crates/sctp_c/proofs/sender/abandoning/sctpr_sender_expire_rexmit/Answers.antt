use Rattle.std.proofs.Common.{length, ap, arith, inl, inr}
use Rattle.std.proofs.lemmas.Grind.{common_steps}
use Rattle.sctp_c.proofs.Leaving.{worn-few}
use Rattle.sctp_c.proofs.sender.abandoning.sctpr_sender_expire_rexmit.Goals.{else-not-is_empty-via-then-not-is_empty+else-rows-in_flight}
use Rattle.sctp_c.proofs.sender.abandoning.sctpr_sender_expire_rexmit.Goals.{else-not-is_empty-via-else-not-is_empty}
use Rattle.sctp_c.proofs.sender.abandoning.sctpr_sender_expire_rexmit.Goals as goal

pub returns-in-Ok-clause-whole : goal.returns-in-Ok-clause-whole
returns-in-Ok-clause-whole c _ =
    let few = worn-few c.get_mut.result.now.own in
    let told = ap length c.in-Ok.ensures.abandons.answer in
    elim c.else-not-is_empty.branch [
      | else-not-is_empty-via-then-not-is_empty+else-rows-in_flight w ↦ inr (grind (arith, common_steps, few, told, w.if-rows-in_flight.false))
      | else-not-is_empty-via-else-not-is_empty w ↦ inl (grind (arith, common_steps, w.if-not-is_empty.false, c.is_empty.ensures))
    ]
