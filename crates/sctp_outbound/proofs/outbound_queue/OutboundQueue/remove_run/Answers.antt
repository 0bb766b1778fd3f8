use Rattle.std.proofs.Common.{◌≡◌, suc, ◌+◌, sym, ap, ◌∙◌, subst, arith}
use Rattle.sctp_outbound.specs.outbound_queue.OutboundQueue.{AreExpiredOf, Outbound, closed_run, expired_of, expired_times, expiring, stream_and_kind}
use Rattle.sctp_outbound.specs.payload_queue.PayloadQueue.{Payload}
use Rattle.sctp_outbound.proofs.lemmas.outbound_queue.Runs.{first_in_run, next_in_run}
use Rattle.sctp_serial.specs.DataChunks.{bytes_of}
use Rattle.sctp_outbound.proofs.outbound_queue.OutboundQueue.remove_run.Goals as goal

pub loop-next-init : goal.loop-next-init
loop-next-init c =
    let n = first_in_run c.args.now c.args.stream_identifier c.args.message_id c.args.self.now c.args.unordered c.requires in
    let same = ap (λ (o : Outbound). o.inflight) c.remove_pending.ensures.removed in
    record {
      removed = ap (closed_run c.args.stream_identifier c.args.unordered 1) c.remove_pending.ensures.removed ∙ sym n.removed;
      of_one = (tt, n.answer);
      some = omega arith;
      in_flight = same;
      left = omega (arith, c.remove_pending.ensures.released, ap (λ (p : Payload). bytes_of p.chunks) same);
    }

pub loop-next-preserved : goal.loop-next-preserved
loop-next-preserved c =
    let s = c.args.stream_identifier in
    let inv = c.loop-next.invariant in
    let n = next_in_run c.args.now s c.loop-next.messages c.in-Some.next c.loop-next.self c.in-Some.ensures.some.0 c.args.unordered c.in-Some.ensures.some.1 in
    let removed = c.remove_pending-in-Some.ensures.removed in
    let same = ap (λ (o : Outbound). o.inflight) removed in
    let up : suc c.loop-next.messages ≡ c.loop-next.messages + 1 = omega arith in
    record {
      removed = ap (closed_run s c.args.unordered (c.loop-next.messages + 1)) removed ∙ sym n.removed
          ∙ ap (λ r. expired_of (expiring c.args.now r) r) inv.removed ∙ ap (λ k. expired_times c.args.now k c.args.self.now) up;
      of_one = subst (λ k. AreExpiredOf s c.args.unordered c.args.now k c.args.self.now) up
          (inv.of_one, sym (ap (λ r. stream_and_kind (expiring c.args.now r)) inv.removed) ∙ n.answer);
      some = omega arith;
      in_flight = same ∙ inv.in_flight;
      left = omega (arith, c.remove_pending-in-Some.ensures.released, ap (λ (p : Payload). bytes_of p.chunks) same, inv.left);
    }
