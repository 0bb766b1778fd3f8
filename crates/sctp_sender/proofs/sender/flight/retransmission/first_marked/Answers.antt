use Rattle.std.proofs.Common.{sym, arith}
use Rattle.sctp_sender.proofs.Unmarked.{one-passed}
use Rattle.sctp_sender.proofs.sender.flight.retransmission.first_marked.Goals as goal

pub loop-place-preserved : goal.loop-place-preserved
loop-place-preserved c =
    let inv = c.loop-place.invariant in
    record {
      unmarked = λ u. one-passed c.loop-place.place c.args.queue.now.inflight.chunks c.in-Some.chunk.now (sym c.in-Some.ensures)
          c.if-chunk.false (inv.unmarked u);
      cost = omega (arith, inv.cost, c.tick.ensures);
    }
