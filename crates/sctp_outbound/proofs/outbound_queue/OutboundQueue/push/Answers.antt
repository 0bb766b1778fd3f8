use Rattle.std.proofs.Common.{◌+◌, ◌<◌, ◌^◌, sym, ap, subst, ◌∙◌, arith, slice_get}
use Rattle.sctp_outbound.specs.outbound_queue.OutboundQueue.{total_bytes}
use Rattle.sctp_serial.specs.DataChunks.{bytes_of}
use Rattle.sctp_outbound.proofs.lemmas.outbound_queue.Sendable.{message_of_first, sendable-pushed}
use Rattle.sctp_outbound.proofs.outbound_queue.OutboundQueue.push.Goals as goal

pub invariant_of-self-2 : goal.invariant_of-self-2
invariant_of-self-2 c =
    let first = c.in-Some.ensures.value ∙ ap (λ xs. slice_get xs 0) c.deref.ensures.value in
    let message = message_of_first c.args.chunks.items c.in-Some.chunk.now first c.requires.message in
    let bytes = rw c.in_ok-push_message.ensures.ok at c.in_ok-push_message.ensures.bytes in
    let fits = subst (λ q. total_bytes q + bytes_of c.args.chunks.items < 2 ^ 64) (sym c.self.view_is) c.requires.bytes in
    rw c.in_ok-push_message.ensures.ok record {
      sendable = sendable-pushed c.in-Some.chunk.now.unordered _ _ _ _ _ _ c.args.chunks.items _ message c.self.invariant.sendable;
      fits = omega (arith, bytes, fits);
    }
