use Rattle.std.proofs.Common.{◌≡◌, Some, is_some, sym, ap, subst, ◌∙◌}
use Rattle.sctp_outbound.specs.outbound_queue.OutboundQueue.{Outbound, all_started, sent_next, sent_peeked}
use Rattle.sctp_outbound.specs.pending_queue.PendingQueue.{next_pending}
use Rattle.sctp_outbound.specs.pending_queue.Whole.{GoesOn, partially_sent}
use Rattle.sctp_outbound.proofs.lemmas.outbound_queue.Sendable.{goes_on}
use Rattle.sctp_outbound.proofs.lemmas.outbound_queue.Outbounds.{peeked_all_started, sent_none, sent_some}
use Rattle.sctp_outbound.proofs.outbound_queue.OutboundQueue.send_next.Goals as goal

pub returns-in_default-clause-ok : goal.returns-in_default-clause-ok
returns-in_default-clause-ok c = c.start_timed_messages.ensures
    ∙ sent_none c.args.next_tsn.now c.args.now c.args.self.now (c.in_default.ensures ∙ ap (λ q. next_pending q.pending) c.self.view_is)

pub send_peeked-requires-clause-some : goal.send_peeked-requires-clause-some
send_peeked-requires-clause-some c = rw c.start_timed_messages-2.ensures (peeked_all_started c.args.now _ ∙ ap is_some (sym c.in-Some.ensures))

pub returns-clause-ok : goal.returns-clause-ok
returns-clause-ok c =
    let q = c.self.inside in
    let old : Outbound =
    record { pending = q.pending; inflight = q.inflight; next_message_id = q.next_message_id; next_unstarted = q.next_unstarted_message_id } in
    c.send_peeked.ensures ∙ ap (λ r. sent_peeked r c.args.next_tsn.now c.args.now) c.start_timed_messages-2.ensures
    ∙ ap (λ i. let r : Outbound =
    record { pending = q.pending; inflight = i; next_message_id = q.next_message_id; next_unstarted = q.next_unstarted_message_id } in
    sent_peeked (all_started c.args.now r) c.args.next_tsn.now c.args.now) c.in_ok-reserve.ensures.ok
    ∙ sent_some c.args.next_tsn.now c.args.now old (ap is_some (sym c.in-Some.ensures))
    ∙ ap (λ r. sent_next r c.args.next_tsn.now c.args.now) c.self.view_is

pub returns-in_default-clause-goes_on : goal.returns-in_default-clause-goes_on
returns-in_default-clause-goes_on c =
    λ m h. subst (λ q. GoesOn m (next_pending q.pending)) c.self.view_is (goes_on c.self.inside.pending c.self.inside.inflight.chunks
    c.self.inside.next_message_id m c.self.invariant.sendable (subst (λ q. partially_sent q.pending ≡ Some m) (sym c.self.view_is) h))

pub returns-in_err-reserve-clause-goes_on : goal.returns-in_err-reserve-clause-goes_on
returns-in_err-reserve-clause-goes_on c =
    λ m h. subst (λ q. GoesOn m (next_pending q.pending)) c.self.view_is (goes_on c.self.inside.pending c.self.inside.inflight.chunks
    c.self.inside.next_message_id m c.self.invariant.sendable (subst (λ q. partially_sent q.pending ≡ Some m) (sym c.self.view_is) h))

pub returns-clause-goes_on : goal.returns-clause-goes_on
returns-clause-goes_on c = λ m h. subst (λ q. GoesOn m (next_pending q.pending)) c.self.view_is (goes_on c.self.inside.pending c.self.inside.inflight.chunks
    c.self.inside.next_message_id m c.self.invariant.sendable (subst (λ q. partially_sent q.pending ≡ Some m) (sym c.self.view_is) h))
