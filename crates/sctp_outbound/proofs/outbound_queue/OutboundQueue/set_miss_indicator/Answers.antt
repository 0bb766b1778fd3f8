use Rattle.std.proofs.Common.{refl, arith}
use Rattle.sctp_outbound.specs.Marks.{with_miss_indicator}
use Rattle.sctp_serial.specs.DataChunks.{has_tsn}
use Rattle.sctp_outbound.proofs.lemmas.outbound_queue.Sendable.{sendable-marked}
use Rattle.sctp_outbound.proofs.lemmas.pending_queue.Waiting.{bytes_of-change_where}
use Rattle.sctp_outbound.proofs.lemmas.pending_queue.CompleteMessages.{KeepsMessage}
use Rattle.sctp_outbound.proofs.outbound_queue.OutboundQueue.set_miss_indicator.Goals as goal

pub invariant_of-self : goal.invariant_of-self
invariant_of-self c =
    let keeps : KeepsMessage (with_miss_indicator c.args.miss_indicator) =
    record { number = λ _. refl; begins = λ _. refl; ends = λ _. refl; kind = λ _. refl } in
    let bytes = bytes_of-change_where (has_tsn c.args.tsn) (with_miss_indicator c.args.miss_indicator) (λ _. refl) c.self.inside.inflight.chunks in
    rw c.set_miss_indicator.ensures.changed record {
      sendable = sendable-marked _ _ _ (has_tsn c.args.tsn) (with_miss_indicator c.args.miss_indicator) keeps c.self.invariant.sendable;
      fits = omega (arith, c.self.invariant.fits);
    }
