use Rattle.sctp_sender.proofs.Names.{◌≡◌, ◌+◌, ◌-◌, length, AreUnmarked}
use Rattle.sctp_sender.proofs.sender.flight.retransmission.first_marked.Given as goal

abbrev pub invariant-loop-place : goal.invariant-loop-place
invariant-loop-place l = record {
  unmarked : AreUnmarked l.from l.queue.inflight.chunks → AreUnmarked l.place l.queue.inflight.chunks;
  cost : l.turns + l.from ≡ l.initial.turns + l.place;
}

abbrev pub decreases-loop-place : goal.decreases-loop-place
decreases-loop-place l = length l.queue.inflight.chunks - l.place
