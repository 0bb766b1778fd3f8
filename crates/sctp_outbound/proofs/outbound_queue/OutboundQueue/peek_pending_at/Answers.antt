use Rattle.std.proofs.Common.{ap, ◌∙◌}
use Rattle.sctp_outbound.specs.outbound_queue.OutboundQueue.{after_sends}
use Rattle.sctp_outbound.specs.pending_queue.PendingQueue.{next_pending}
use Rattle.sctp_outbound.proofs.lemmas.outbound_queue.Sendable.{order_is}
use Rattle.sctp_outbound.proofs.outbound_queue.OutboundQueue.peek_pending_at.Goals as goal

pub peek_at-requires : goal.peek_at-requires
peek_at-requires c = (c.self.inside.next_message_id, c.self.invariant.sendable.ordered)

pub returns : goal.returns
returns c = c.peek_at.ensures
    ∙ order_is c.args.sends c.self.inside.pending c.self.inside.inflight.chunks c.self.inside.next_message_id c.self.invariant.sendable
    ∙ ap (λ q. next_pending (after_sends c.args.sends q.pending)) c.self.view_is
