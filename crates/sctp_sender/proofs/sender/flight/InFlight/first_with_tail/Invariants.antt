use Rattle.sctp_sender.proofs.Names.{◌≡◌, drop, with_tail}
use Rattle.sctp_sender.proofs.sender.flight.InFlight.first_with_tail.Given as goal

abbrev pub invariant-loop-tsn : goal.invariant-loop-tsn
invariant-loop-tsn l = with_tail l.tsns l.self ≡ with_tail (drop l.tsn-index l.tsns) l.self
