use Rattle.sctp_link.proofs.Names.{◌≡◌, true, take, list_all, can_name}
use Rattle.sctp_link.proofs.link.Link.can_name_each.Given as goal

abbrev pub invariant-loop-at : goal.invariant-loop-at
invariant-loop-at g l = list_all (can_name l.self.recorded l.place) (take l.at l.messages) ≡ true
