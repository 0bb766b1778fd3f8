use Rattle.sctp_association.proofs.Told.{each-loses-none}
use Rattle.sctp_association.proofs.laws.no_event_is_lost.Goals as goal

pub returns : goal.returns
returns c = each-loses-none
