use Rattle.std.proofs.Common.{true, false, refl, arith}
use Rattle.sctp_outbound.specs.pending_queue.PendingQueue.{is_to_start, with_deadline}
use Rattle.sctp_outbound.specs.pending_queue.Whole.{stage_of}
use Rattle.sctp_outbound.proofs.lemmas.outbound_queue.Sendable.{sendable-changed}
use Rattle.sctp_outbound.proofs.lemmas.pending_queue.Waiting.{bytes_of-change_where}
use Rattle.sctp_outbound.proofs.lemmas.pending_queue.CompleteMessages.{KeepsMessage, numbers_ascend}
use Rattle.sctp_outbound.proofs.outbound_queue.OutboundQueue.start_timed_messages.Goals as goal

pub start_latest_messages-requires-clause-ordered : goal.start_latest_messages-requires-clause-ordered
start_latest_messages-requires-clause-ordered c = numbers_ascend false c.self.inside.next_message_id
    (stage_of false c.self.inside.pending.selected) c.self.inside.pending.ordered c.self.invariant.sendable.ordered

pub start_latest_messages-requires-clause-unordered : goal.start_latest_messages-requires-clause-unordered
start_latest_messages-requires-clause-unordered c = numbers_ascend true c.self.inside.next_message_id
    (stage_of true c.self.inside.pending.selected) c.self.inside.pending.unordered c.self.invariant.sendable.unordered

pub invariant_of-self : goal.invariant_of-self
invariant_of-self c =
    let first = c.self.inside.next_unstarted_message_id in
    let keeps : KeepsMessage (with_deadline c.args.now) = record { number = λ _. refl; begins = λ _. refl; ends = λ _. refl; kind = λ _. refl } in
    let ordered = bytes_of-change_where (is_to_start first) (with_deadline c.args.now) (λ _. refl) c.self.inside.pending.ordered in
    let unordered = bytes_of-change_where (is_to_start first) (with_deadline c.args.now) (λ _. refl) c.self.inside.pending.unordered in
    rw c.start_latest_messages.ensures record {
      sendable = sendable-changed _ _ _ _ _ _ _ _ _ (is_to_start first) (is_to_start first) (with_deadline c.args.now)
          (with_deadline c.args.now) keeps keeps c.self.invariant.sendable;
      fits = omega (arith, c.self.invariant.fits);
    }
