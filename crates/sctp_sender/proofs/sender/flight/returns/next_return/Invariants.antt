use Rattle.std.proofs.Common.{◌+◌, ◌-◌, ◌^◌, length}
use Rattle.sctp_sender.proofs.Returns.{Walked}
use Rattle.sctp_sender.proofs.WalkCosts.{IsPaid}
use Rattle.sctp_sender.proofs.sender.flight.returns.next_return.Given as goal

abbrev pub invariant-loop-at : goal.invariant-loop-at
invariant-loop-at l = record {
  walked : Walked l.count l.listed l.blocks l.queue.inflight.chunks l.initial.at.place l.at.place l.at.listed l.at.block;
  paid : IsPaid l.count l.listed l.blocks l.queue.inflight.chunks l.fn.turns l.initial.at.place l.initial.at.listed l.initial.at.block l.turns l.at.place
      l.at.listed l.at.block;
}

abbrev pub decreases-loop-at : goal.decreases-loop-at
decreases-loop-at l = (length l.listed - l.at.listed) + (length l.blocks - l.at.block) + (l.count + 2 ^ 16 - l.at.place)
