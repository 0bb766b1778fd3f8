use Rattle.std.proofs.Common.{refl, slice_index_or, arith}
use Rattle.sctp_outbound.specs.Marks.{as_acknowledged}
use Rattle.sctp_serial.specs.DataChunks.{has_tsn}
use Rattle.sctp_outbound.proofs.lemmas.outbound_queue.Sendable.{sendable-marked}
use Rattle.sctp_outbound.proofs.lemmas.payload_queue.Marked.{any_chunk}
use Rattle.sctp_outbound.proofs.lemmas.pending_queue.CompleteMessages.{KeepsMessage}
use Rattle.sctp_outbound.proofs.outbound_queue.OutboundQueue.mark_as_acked_at.Goals as goal

pub invariant_of-self : goal.invariant_of-self
invariant_of-self c =
    let keeps : KeepsMessage as_acknowledged = record { number = λ _. refl; begins = λ _. refl; ends = λ _. refl; kind = λ _. refl } in
    let is = c.mark_as_acked_at.ensures.alone any_chunk in
    let left = rw is at c.mark_as_acked_at.ensures.left in
    rw is record {
      sendable = sendable-marked _ _ _
          (has_tsn (slice_index_or c.self.inside.inflight.chunks c.args.place any_chunk).tsn) as_acknowledged keeps c.self.invariant.sendable;
      fits = omega (arith, left, c.self.invariant.fits);
    }
