use Rattle.std.proofs.Common.{true, refl, arith}
use Rattle.sctp_outbound.specs.Marks.{is_outstanding, with_retransmit}
use Rattle.sctp_outbound.proofs.lemmas.outbound_queue.Sendable.{sendable-marked}
use Rattle.sctp_outbound.proofs.lemmas.pending_queue.Waiting.{bytes_of-change_where}
use Rattle.sctp_outbound.proofs.lemmas.pending_queue.CompleteMessages.{KeepsMessage}
use Rattle.sctp_outbound.proofs.outbound_queue.OutboundQueue.mark_all_to_retransmit.Goals as goal

pub invariant_of-self : goal.invariant_of-self
invariant_of-self c =
    let keeps : KeepsMessage (with_retransmit true) = record { number = λ _. refl; begins = λ _. refl; ends = λ _. refl; kind = λ _. refl } in
    let bytes = bytes_of-change_where is_outstanding (with_retransmit true) (λ _. refl) c.self.inside.inflight.chunks in
    rw c.mark_all_to_retransmit.ensures record {
      sendable = sendable-marked _ _ _ is_outstanding (with_retransmit true) keeps c.self.invariant.sendable;
      fits = omega (arith, c.self.invariant.fits);
    }
