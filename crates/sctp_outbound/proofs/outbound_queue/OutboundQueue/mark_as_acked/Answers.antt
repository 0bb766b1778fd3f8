use Rattle.std.proofs.Common.{refl, arith}
use Rattle.sctp_outbound.specs.Marks.{as_acknowledged}
use Rattle.sctp_serial.specs.DataChunks.{has_tsn}
use Rattle.sctp_outbound.proofs.lemmas.outbound_queue.Sendable.{sendable-marked}
use Rattle.sctp_outbound.proofs.lemmas.pending_queue.CompleteMessages.{KeepsMessage}
use Rattle.sctp_outbound.proofs.outbound_queue.OutboundQueue.mark_as_acked.Goals as goal

pub invariant_of-self : goal.invariant_of-self
invariant_of-self c =
    let keeps : KeepsMessage as_acknowledged = record { number = λ _. refl; begins = λ _. refl; ends = λ _. refl; kind = λ _. refl } in
    let left = rw c.mark_as_acked.ensures.acked at c.mark_as_acked.ensures.left in
    rw c.mark_as_acked.ensures.acked record {
      sendable = sendable-marked _ _ _ (has_tsn c.args.tsn) as_acknowledged keeps c.self.invariant.sendable;
      fits = omega (arith, left, c.self.invariant.fits);
    }
