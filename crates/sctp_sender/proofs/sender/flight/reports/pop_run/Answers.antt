use Rattle.sctp_sender.proofs.Names.{◌<◌, length, ap, ◌∙◌, arith, ◌+◌, ◌%◌, ◌^◌, Outbound, with_inflight, without_front}
use Rattle.sctp_sender.proofs.Runs.{front-dropped}
use Rattle.sctp_sender.proofs.sender.flight.reports.pop_run.Goals as goal

pub loop-place-preserved : goal.loop-place-preserved
loop-place-preserved c =
    let q = c.args.queue.now in
    let i = c.loop-place.place in
    let lt : i < length q.inflight.chunks = omega (arith, c.loop-place-test.true, c.requires.within) in
    let step = front-dropped q.inflight.chunks c.args.first i c.ranges.first.fits c.requires.run lt in
    record {
      left = c.pop.ensures.rest
          ∙ ap (λ (o : Outbound). with_inflight o (without_front ((c.args.first + i) % 2 ^ 32) o.inflight.chunks)) c.loop-place.invariant.left
          ∙ ap (with_inflight q) step;
      turns = omega (arith, c.tick.ensures, c.loop-place.invariant.turns);
    }
