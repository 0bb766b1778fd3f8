use Rattle.std.proofs.Common.{◌≡◌, Some, sym, subst, arith}
use Rattle.std.specs.Option.{option_map}
use Rattle.sctp_data.specs.declared.chunk.chunk_payload_data.ChunkPayloadData.{ChunkPayloadData}
use Rattle.sctp_outbound.specs.pending_queue.PendingQueue.{next_pending}
use Rattle.sctp_outbound.proofs.lemmas.outbound_queue.Rest.{next_stands}
use Rattle.sctp_outbound.proofs.lemmas.outbound_queue.Sendable.{sendable-without}
use Rattle.sctp_outbound.proofs.outbound_queue.OutboundQueue.remove_pending.Goals as goal

pub invariant_of-self : goal.invariant_of-self
invariant_of-self c = record {
  sendable = rw c.pop_message-bytes.ensures.rest (sendable-without _ _ _ _ _ _ _ c.args.message_id c.self.invariant.sendable);
  fits = omega (arith, c.pop_message-bytes.ensures.left, c.self.invariant.fits);
}

pub pop_message-bytes-requires-clause-ordered : goal.pop_message-bytes-requires-clause-ordered
pop_message-bytes-requires-clause-ordered c =
    let next = subst (λ q. option_map (λ (x : ChunkPayloadData). x.message_id) (next_pending q.pending) ≡ Some c.args.message_id)
    (sym c.self.view_is) c.requires in
    (next_stands c.self.inside.pending c.self.inside.inflight.chunks c.self.inside.next_message_id c.args.message_id c.self.invariant.sendable next).0

pub pop_message-bytes-requires-clause-unordered : goal.pop_message-bytes-requires-clause-unordered
pop_message-bytes-requires-clause-unordered c =
    let next = subst (λ q. option_map (λ (x : ChunkPayloadData). x.message_id) (next_pending q.pending) ≡ Some c.args.message_id)
    (sym c.self.view_is) c.requires in
    (next_stands c.self.inside.pending c.self.inside.inflight.chunks c.self.inside.next_message_id c.args.message_id c.self.invariant.sendable next).1
