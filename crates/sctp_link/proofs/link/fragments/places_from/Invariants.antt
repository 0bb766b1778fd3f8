use Rattle.sctp_link.proofs.Names.{◌≡◌, numbers_from}
use Rattle.sctp_link.proofs.link.fragments.places_from.Given as goal

abbrev pub invariant-loop-at : goal.invariant-loop-at
invariant-loop-at l = l.places.items ≡ numbers_from l.first l.at
