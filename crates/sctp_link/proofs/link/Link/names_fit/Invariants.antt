use Rattle.sctp_link.proofs.Names.{◌≡◌, true, take, list_all, names_fit}
use Rattle.sctp_link.proofs.link.Link.names_fit.Given as goal

abbrev pub invariant-loop-at : goal.invariant-loop-at
invariant-loop-at g l = list_all (λ r. names_fit l.self.recorded r.stream l.names) (take l.at l.self.recorded.streams) ≡ true
