use Rattle.sctp_association.proofs.Lasting as lasting
use Rattle.sctp_association.proofs.laws.an_unanswered_association_ends.Goals as goal

pub returns : goal.returns
returns c = record {
  quiet = lasting.each-quiet;
  between = lasting.each-later;
  counted = lasting.each-counts;
  ends = lasting.each-ends;
  few = lasting.few-left;
}
