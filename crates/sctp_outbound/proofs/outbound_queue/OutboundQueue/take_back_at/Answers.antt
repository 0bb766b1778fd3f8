use Rattle.std.proofs.Common.{refl, ap, slice_index_or, arith}
use Rattle.sctp_outbound.specs.Marks.{as_taken_back}
use Rattle.sctp_outbound.specs.outbound_queue.OutboundQueue.{total_bytes}
use Rattle.sctp_outbound.specs.payload_queue.PayloadQueue.{Payload}
use Rattle.sctp_serial.specs.DataChunks.{bytes_of, has_tsn}
use Rattle.sctp_outbound.proofs.lemmas.outbound_queue.Sendable.{sendable-marked}
use Rattle.sctp_outbound.proofs.lemmas.payload_queue.Marked.{any_chunk}
use Rattle.sctp_outbound.proofs.lemmas.pending_queue.CompleteMessages.{KeepsMessage}
use Rattle.sctp_outbound.proofs.outbound_queue.OutboundQueue.take_back_at.Goals as goal

pub invariant_of-self : goal.invariant_of-self
invariant_of-self c =
    let keeps : KeepsMessage (as_taken_back c.args.user_data) = record { number = λ _. refl; begins = λ _. refl; ends = λ _. refl; kind = λ _. refl } in
    let is = c.take_back_at.ensures.alone any_chunk in
    let same = ap (λ (q : Payload). bytes_of q.chunks) is in
    let counted = c.take_back_at.ensures.counted any_chunk in
    rw is record {
      sendable = sendable-marked _ _ _ (has_tsn (slice_index_or c.self.inside.inflight.chunks c.args.place any_chunk).tsn)
          (as_taken_back c.args.user_data) keeps c.self.invariant.sendable;
      fits = omega (arith, same, counted, ap total_bytes c.self.view_is, c.requires.bytes);
    }
