use Rattle.sctp_association.proofs.Delivered.{brings-only, carries-only, each-comes}
use Rattle.sctp_association.proofs.Seldom.{each-seldom}
use Rattle.sctp_association.proofs.laws.what_comes_was_made.Goals as goal

pub returns : goal.returns
returns c = record {
  carried = carries-only;
  brought = brings-only;
  seldom = each-seldom;
  sessions = each-comes;
}
