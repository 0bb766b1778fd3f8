use Rattle.std.proofs.Common.{◌≡◌, Some, refl, sym, ap, subst, ◌∙◌}
use Rattle.sctp_outbound.specs.outbound_queue.OutboundQueue.{Outbound, expired_of}
use Rattle.sctp_outbound.specs.pending_queue.PendingQueue.{lowered, next_pending}
use Rattle.sctp_outbound.proofs.lemmas.outbound_queue.Runs.{expired_ordered, expiring_is}
use Rattle.sctp_outbound.proofs.outbound_queue.OutboundQueue.expire_pending.Goals as goal

pub returns-then-not-unordered-clause-expired : goal.returns-then-not-unordered-clause-expired
returns-then-not-unordered-clause-expired c =
    let x = c.in_ok-chunk.chunk.now in
    let q = c.args.self.now in
    let next = subst (λ (o : Outbound). next_pending o.pending ≡ Some x) c.self.view_is (sym c.in_ok-chunk.ensures) in
    let it = expiring_is c.args.now q x next (sym c.is_expired.ensures ∙ c.if-not-is_expired.false) in
    c.lower_ordered_ssns.ensures.lowered
    ∙ ap (λ (r : Outbound). let p : Outbound = record r { pending = lowered x.stream_identifier 1 r.pending } in p) c.remove_pending-bytes.ensures.removed
    ∙ sym (ap (λ o. expired_of o q) it ∙ expired_ordered q x.stream_identifier x.message_id x refl c.if-not-unordered.true refl)
