use Rattle.std.proofs.Common.{◌≡◌, true, false, refl, sym, ap, subst, ◌∙◌, arith}
use Rattle.sctp_outbound.specs.Marks.{is_of, as_abandoned}
use Rattle.sctp_outbound.specs.outbound_queue.OutboundQueue.{Outbound, abandon_chunks}
use Rattle.sctp_outbound.specs.pending_queue.Whole.{waits}
use Rattle.sctp_outbound.proofs.lemmas.outbound_queue.Abandoned.{abandoned_none, abandoned_room}
use Rattle.sctp_outbound.proofs.lemmas.outbound_queue.Sendable.{sendable-marked}
use Rattle.sctp_outbound.proofs.lemmas.pending_queue.CompleteMessages.{KeepsMessage}
use Rattle.sctp_outbound.proofs.outbound_queue.OutboundQueue.abandon_message.Goals as goal

pub invariant_of-self : goal.invariant_of-self
invariant_of-self c =
    let keeps : KeepsMessage as_abandoned = record { number = λ _. refl; begins = λ _. refl; ends = λ _. refl; kind = λ _. refl } in
    record {
      sendable = rw c.abandon_between.ensures.abandoned (sendable-marked _ _ _ (is_of c.args.message_id) as_abandoned keeps c.self.invariant.sendable);
      fits = omega (arith, c.abandon_between.ensures.left, c.self.invariant.fits);
    }

pub returns-then-not-rest_waits-clause-ok : goal.returns-then-not-rest_waits-clause-ok
returns-then-not-rest_waits-clause-ok c =
    let q = c.self.inside in
    let old : Outbound =
    record { pending = q.pending; inflight = q.inflight; next_message_id = q.next_message_id; next_unstarted = q.next_unstarted_message_id } in
    rw (← c.self.view_is, c.abandon_between.ensures.abandoned) (sym (abandoned_none c.args.message_id c.args.next_tsn.now old c.self.invariant.sendable
    (subst (λ (o : Outbound). waits c.args.message_id o.pending ≡ false) (sym c.self.view_is) (sym c.rest_waits.ensures ∙ c.if-not-rest_waits.true))))

pub returns-clause-ok : goal.returns-clause-ok
returns-clause-ok c =
    let q = c.self.inside in
    let old : Outbound =
    record { pending = q.pending; inflight = q.inflight; next_message_id = q.next_message_id; next_unstarted = q.next_unstarted_message_id } in
    c.abandon_with_tail-bytes.ensures.abandoned
    ∙ ap (λ i. let r : Outbound =
    record { pending = q.pending; inflight = i; next_message_id = q.next_message_id; next_unstarted = q.next_unstarted_message_id } in
    abandon_chunks c.args.message_id c.args.next_tsn.now r) c.in_ok-reserve.ensures.ok ∙ abandoned_room c.args.message_id c.args.next_tsn.now old
    (subst (λ (o : Outbound). waits c.args.message_id o.pending ≡ true) (sym c.self.view_is) (sym c.rest_waits.ensures ∙ c.if-not-rest_waits.false))
    ∙ ap (abandon_chunks c.args.message_id c.args.next_tsn.now) c.self.view_is
