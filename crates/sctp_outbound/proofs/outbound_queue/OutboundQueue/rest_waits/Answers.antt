use Rattle.std.proofs.Common.{◌≡◌, Some, true, sym, subst}
use Rattle.sctp_outbound.specs.outbound_queue.OutboundQueue.{Outbound}
use Rattle.sctp_outbound.specs.pending_queue.Whole.{partially_sent, waits}
use Rattle.sctp_outbound.proofs.lemmas.outbound_queue.Rest.{in-front, none-in-front}
use Rattle.sctp_outbound.proofs.outbound_queue.OutboundQueue.rest_waits.Goals as goal

pub returns-in-None : goal.returns-in-None
returns-in-None c =
    let q = c.self.inside in
    let partial = subst (λ (o : Outbound). waits c.args.message_id o.pending ≡ true → partially_sent o.pending ≡ Some c.args.message_id)
    (sym c.self.view_is) c.requires in
    rw (← c.self.view_is)
    (none-in-front q.pending q.inflight.chunks q.next_message_id c.args.message_id c.self.invariant.sendable partial (sym c.in-None.ensures))

pub returns-in-Some : goal.returns-in-Some
returns-in-Some c =
    let q = c.self.inside in
    let partial = subst (λ (o : Outbound). waits c.args.message_id o.pending ≡ true → partially_sent o.pending ≡ Some c.args.message_id)
    (sym c.self.view_is) c.requires in
    rw (← c.self.view_is)
    (in-front q.pending q.inflight.chunks q.next_message_id c.args.message_id c.self.invariant.sendable partial c.in-Some.chunk.now (sym c.in-Some.ensures))
