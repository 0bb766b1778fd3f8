use Rattle.sctp_sender.proofs.Names.{◌≡◌, map, take, filter, is_worn}
use Rattle.sctp_sender.proofs.sender.flight.InFlight.worn_tsns.Given as goal

abbrev pub invariant-loop-place : goal.invariant-loop-place
invariant-loop-place l = l.tsns.items ≡ map (λ c. c.tsn) (filter is_worn (take l.place l.self.queue.inflight.chunks))
