use Rattle.std.proofs.Common.{sym, ap, ◌∙◌}
use Rattle.sctp_outbound.specs.outbound_queue.OutboundQueue.{closed_run, expiring, stream_and_kind}
use Rattle.sctp_outbound.proofs.lemmas.outbound_queue.Runs.{run_ends}
use Rattle.sctp_outbound.proofs.outbound_queue.OutboundQueue.expire_pending_run.Goals as goal

pub returns-then-not-unordered-clause-all : goal.returns-then-not-unordered-clause-all
returns-then-not-unordered-clause-all c = λ few h.
    let x = c.in-Some.chunk.now in
    let k = c.remove_run-messages.result.0 in
    let q = c.remove_run-messages.new.self in
    let closed = ap (λ u. closed_run x.stream_identifier u k q) c.if-not-unordered.true in
    run_ends c.args.now x.stream_identifier k x.unordered q (c.remove_run-messages.ensures.all few)
    (ap (λ r. stream_and_kind (expiring c.args.now r)) (closed ∙ sym c.lower_ordered_ssns.ensures.lowered) ∙ h)

pub returns-else-not-unordered-clause-all : goal.returns-else-not-unordered-clause-all
returns-else-not-unordered-clause-all c = λ few h.
    let x = c.in-Some.chunk.now in
    let k = c.remove_run-messages.result.0 in
    let q = c.remove_run-messages.new.self in
    let closed = ap (λ u. closed_run x.stream_identifier u k q) c.if-not-unordered.false in
    run_ends c.args.now x.stream_identifier k x.unordered q (c.remove_run-messages.ensures.all few)
    (ap (λ r. stream_and_kind (expiring c.args.now r)) closed ∙ h)
