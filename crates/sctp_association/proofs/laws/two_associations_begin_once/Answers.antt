use Rattle.sctp_association.proofs.Setups as setups
use Rattle.sctp_association.proofs.laws.two_associations_begin_once.Goals as goal

pub returns : goal.returns
returns c = record {
  begun = setups.each-two-are-set-up;
  quiet = setups.each-quiet-keeps;
  written = setups.each-written-keeps;
  handled = setups.each-datagram-keeps;
  turned = setups.each-set-up-turns;
  delivered = setups.each-set-up-delivers;
  delivered_recent = setups.each-set-up-delivers-young;
}
