use Rattle.sctp_datagram.proofs.Carried.{adds-no-plain, adds-none, carries-each, keeps-order}
use Rattle.sctp_datagram.proofs.laws.what_is_carried_was_put.Goals as goal

pub returns : goal.returns
returns c = record {
  plain = adds-no-plain;
  all = adds-none;
  each = carries-each;
  order = keeps-order;
}
