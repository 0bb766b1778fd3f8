use Rattle.std.proofs.Common.{◌≡◌, None, drop}
use Rattle.sctp_c.specs.Deadlines.{least_of}
use Rattle.sctp_c.proofs.sender.deadlines.first_in_flight.Given as goal

abbrev pub invariant-loop-place : goal.invariant-loop-place
invariant-loop-place l = record {
  first : least_of l.first (drop l.place l.queue.inflight.chunks) ≡ least_of None l.queue.inflight.chunks;
}
