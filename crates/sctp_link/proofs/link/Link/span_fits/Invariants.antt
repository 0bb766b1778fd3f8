use Rattle.sctp_link.proofs.Names.{◌≡◌, true, take, list_all, slot_fits}
use Rattle.sctp_link.proofs.link.Link.span_fits.Given as goal

abbrev pub invariant-loop-at : goal.invariant-loop-at
invariant-loop-at g l = list_all (slot_fits l.self.recorded) (take l.at l.places) ≡ true
