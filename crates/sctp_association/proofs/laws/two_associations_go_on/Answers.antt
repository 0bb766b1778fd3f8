use Rattle.sctp_association.proofs.Links as links
use Rattle.sctp_association.proofs.laws.two_associations_go_on.Goals as goal

pub returns : goal.returns
returns c = record { begun = links.each-two-begin; acts = links.each-link-goes-on; turned = links.each-link-turns }
