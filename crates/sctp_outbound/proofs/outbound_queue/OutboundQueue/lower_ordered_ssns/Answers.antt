use Rattle.std.proofs.Common.{refl, arith}
use Rattle.sctp_outbound.specs.pending_queue.PendingQueue.{lower_by}
use Rattle.sctp_outbound.proofs.lemmas.outbound_queue.Sendable.{sendable-ordered_changed}
use Rattle.sctp_outbound.proofs.lemmas.pending_queue.Waiting.{bytes_of-change_where}
use Rattle.sctp_outbound.proofs.lemmas.pending_queue.CompleteMessages.{KeepsMessage}
use Rattle.sctp_outbound.proofs.outbound_queue.OutboundQueue.lower_ordered_ssns.Goals as goal
use Rattle.sctp_serial.specs.DataChunks.{is_on}

pub invariant_of-self : goal.invariant_of-self
invariant_of-self c =
    let keeps : KeepsMessage (lower_by c.args.by) = record { number = λ _. refl; begins = λ _. refl; ends = λ _. refl; kind = λ _. refl } in
    let bytes = bytes_of-change_where (is_on c.args.stream_identifier) (lower_by c.args.by) (λ _. refl) c.self.inside.pending.ordered in
    rw c.lower_ordered_ssns.ensures record {
      sendable = sendable-ordered_changed _ _ _ _ _ _ _ (is_on c.args.stream_identifier) (lower_by c.args.by) keeps c.self.invariant.sendable;
      fits = omega (arith, c.self.invariant.fits);
    }

pub returns-clause-bytes : goal.returns-clause-bytes
returns-clause-bytes c =
    let bytes = bytes_of-change_where (is_on c.args.stream_identifier) (lower_by c.args.by) (λ _. refl) c.self.inside.pending.ordered in
    rw (← c.self.view_is, c.lower_ordered_ssns.ensures) (omega arith)
