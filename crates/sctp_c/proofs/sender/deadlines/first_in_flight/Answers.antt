use Rattle.std.proofs.Common.{◌+◌, drop, ap, ◌∙◌, arith}
use Rattle.sctp_c.specs.Deadlines.{earlier, least_of}
use Rattle.sctp_c.proofs.Deadlines.{least-next}
use Rattle.sctp_c.proofs.sender.deadlines.first_in_flight.Goals as goal

pub loop-place-preserved : goal.loop-place-preserved
loop-place-preserved c = record {
  first =
      let chunks = c.args.queue.now.inflight.chunks in
      ap (λ f. least_of f (drop (c.loop-place.place + 1) chunks)) (c.earlier-first.ensures ∙ ap (earlier c.loop-place.first) c.deadline_at.ensures)
      ∙ least-next c.loop-place.place chunks c.loop-place.first (omega (arith, c.loop-place-test.true, c.loop-place.auto.place-end, c.inflight_len-place-end.ensures))
      ∙ c.loop-place.invariant.first;
}
