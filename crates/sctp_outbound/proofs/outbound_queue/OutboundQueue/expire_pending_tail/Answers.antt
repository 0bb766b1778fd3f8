use Rattle.std.proofs.Common.{◌≡◌, Bool, true, false, not, ◌&&◌, Some, refl, sym, subst, ◌∙◌}
use Rattle.std.proofs.lemmas.Bool.{false≢true}
use Rattle.sctp_outbound.specs.outbound_queue.OutboundQueue.{Outbound}
use Rattle.sctp_outbound.specs.Marks.{IsBetween}
use Rattle.sctp_outbound.specs.pending_queue.Whole.{partially_sent, waits}
use Rattle.sctp_outbound.proofs.lemmas.payload_queue.Between.{between-all}
use Rattle.sctp_outbound.proofs.lemmas.outbound_queue.Sendable.{partial_in_front, kept_or_gone}
use Rattle.sctp_outbound.proofs.outbound_queue.OutboundQueue.expire_pending_tail.Goals as goal

not_first : (a b : Bool) → (not a && b) ≡ true → a ≡ false
not_first true b h = absurd (false≢true h)
not_first false b h = refl

pub returns-clause-partial : goal.returns-clause-partial
returns-clause-partial c =
    let q = c.self.inside in
    let old : Outbound =
    record { pending = q.pending; inflight = q.inflight; next_message_id = q.next_message_id; next_unstarted = q.next_unstarted_message_id } in
    let x = c.in-Some.chunk.now in
    let goes_on = not_first _ _ (sym c.is_expired_tail.ensures ∙ c.if-not-is_expired_tail.false) in
    let partial = partial_in_front q.pending q.inflight.chunks q.next_message_id x c.self.invariant.sendable (sym c.in-Some.ensures) goes_on in
    rw (c.in_ok-bytes.ensures.raised, c.in_ok-bytes.ensures.ok, ← c.self.view_is) (kept_or_gone x.message_id c.args.next_tsn.now old (λ _. partial))

pub abandon_message-requires-clause-between : goal.abandon_message-requires-clause-between
abandon_message-requires-clause-between c =
    let m = c.in-Some.chunk.now.message_id in
    subst (λ (o : Outbound). IsBetween m 0 c.len-len.result o.inflight.chunks) c.self.view_is
    (rw c.len-len.ensures (between-all m c.self.inside.inflight.chunks))

pub abandon_message-requires-clause-partial : goal.abandon_message-requires-clause-partial
abandon_message-requires-clause-partial c =
    let q = c.self.inside in
    let x = c.in-Some.chunk.now in
    let goes_on = not_first _ _ (sym c.is_expired_tail.ensures ∙ c.if-not-is_expired_tail.false) in
    let partial = partial_in_front q.pending q.inflight.chunks q.next_message_id x c.self.invariant.sendable (sym c.in-Some.ensures) goes_on in
    subst (λ (o : Outbound). waits x.message_id o.pending ≡ true → partially_sent o.pending ≡ Some x.message_id) c.self.view_is (λ _. partial)
