use Rattle.sctp_association.proofs.HostCalls.{each-datagram-brings}
use Rattle.sctp_association.proofs.Links as links
use Rattle.sctp_association.proofs.Rules.{each-offered}
use Rattle.sctp_association.proofs.laws.two_associations_of_one_life_go_on.Goals as goal

pub returns : goal.returns
returns c = record {
  begun = links.each-one-life-begins;
  acts = links.each-one-life-goes-on;
  turned = links.each-one-life-turns;
  handled = each-datagram-brings;
  offered = each-offered;
}
