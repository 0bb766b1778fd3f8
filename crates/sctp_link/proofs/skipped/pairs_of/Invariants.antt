use Rattle.sctp_link.proofs.Names.{◌≡◌, map, take, pair_in}
use Rattle.sctp_link.proofs.skipped.pairs_of.Given as goal

abbrev pub invariant-loop-number : goal.invariant-loop-number
invariant-loop-number l = l.pairs.items ≡ map (pair_in l.messages) (take l.number-index l.names)
