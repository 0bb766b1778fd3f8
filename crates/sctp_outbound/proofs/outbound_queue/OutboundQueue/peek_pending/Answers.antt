use Rattle.std.proofs.Common.{◌≡◌, Some, sym, subst}
use Rattle.sctp_outbound.specs.pending_queue.PendingQueue.{next_pending}
use Rattle.sctp_outbound.specs.pending_queue.Whole.{GoesOn, partially_sent}
use Rattle.sctp_outbound.proofs.lemmas.outbound_queue.Sendable.{goes_on}
use Rattle.sctp_outbound.proofs.outbound_queue.OutboundQueue.peek_pending.Goals as goal

pub returns-clause-goes_on : goal.returns-clause-goes_on
returns-clause-goes_on c = λ m h. subst (λ q. GoesOn m (next_pending q.pending)) c.self.view_is (goes_on c.self.inside.pending c.self.inside.inflight.chunks
    c.self.inside.next_message_id m c.self.invariant.sendable (subst (λ q. partially_sent q.pending ≡ Some m) (sym c.self.view_is) h))
