use Rattle.sctp_sender.proofs.Names.{◌≡◌, drop, find, is_ordered_on}
use Rattle.sctp_sender.proofs.sender.flight.InFlight.place_of_ordered.Given as goal

abbrev pub invariant-loop-place : goal.invariant-loop-place
invariant-loop-place l = find (is_ordered_on l.stream) l.self.queue.inflight.chunks ≡ find (is_ordered_on l.stream) (drop l.place l.self.queue.inflight.chunks)
