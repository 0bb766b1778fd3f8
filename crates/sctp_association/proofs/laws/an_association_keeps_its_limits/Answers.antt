use Rattle.sctp_association.proofs.Limited as limited
use Rattle.sctp_association.proofs.laws.an_association_keeps_its_limits.Goals as goal

pub returns : goal.returns
returns c = record {
  begun = limited.each-begins;
  deeds = limited.each-deed;
  quiet = limited.each-quiet;
  few = limited.few-by;
}
