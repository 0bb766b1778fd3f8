use Rattle.std.proofs.Common.{◌+◌, ◌<◌, ◌^◌, ◌∷◌, [], length, sym, subst, ◌∙◌, arith}
use Rattle.sctp_outbound.specs.outbound_queue.OutboundQueue.{Outbound, total_bytes, with_message_id}
use Rattle.sctp_outbound.proofs.lemmas.outbound_queue.Sendable.{one_bytes, one_pushed, sendable-pushed}
use Rattle.sctp_outbound.proofs.outbound_queue.OutboundQueue.push_sole.Goals as goal

pub invariant_of-self-2 : goal.invariant_of-self-2
invariant_of-self-2 c =
    let x = with_message_id c.self.inside.next_message_id c.args.chunk in
    let q = c.self.inside.pending in
    let more = one_bytes x.unordered x q in
    let fits = subst (λ (o : Outbound). total_bytes o + length c.args.chunk.user_data < 2 ^ 64) (sym c.self.view_is) c.requires.bytes in
    rw (c.in_ok-push.ensures.ok ∙ one_pushed x q) record {
      sendable = sendable-pushed c.args.chunk.unordered _ _ _ _ _ _ (c.args.chunk ∷ []) _ c.requires.message c.self.invariant.sendable;
      fits = omega (arith, more, fits);
    }
