use Rattle.sctp_link.proofs.Names.{◌≡◌, map, take, number_at}
use Rattle.sctp_link.proofs.link.arrivals.message_numbers.Given as goal

abbrev pub invariant-loop-place : goal.invariant-loop-place
invariant-loop-place l = l.numbers.items ≡ map (number_at l.slots) (take l.place-index l.places)
