use Rattle.std.proofs.Common.{arith}
use Rattle.sctp_outbound.proofs.lemmas.outbound_queue.Sendable.{sendable-fewer, list_any-without_front, without_front_le}
use Rattle.sctp_outbound.proofs.outbound_queue.OutboundQueue.pop.Goals as goal

pub invariant_of-self : goal.invariant_of-self
invariant_of-self c = rw c.pop.ensures.rest record {
  sendable =
      sendable-fewer _ c.self.inside.inflight.chunks _ _ (λ m. list_any-without_front m c.args.tsn c.self.inside.inflight.chunks) c.self.invariant.sendable;
  fits = omega (arith, without_front_le c.args.tsn c.self.inside.inflight.chunks, c.self.invariant.fits);
}
