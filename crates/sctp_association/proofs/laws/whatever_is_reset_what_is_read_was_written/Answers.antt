use Rattle.sctp_association.proofs.OneLife.{each-delivers-any, each-delivers-young, each-few-young, each-link-delivers-any, each-link-delivers-young}
use Rattle.sctp_association.proofs.OneLife.{each-plain}
use Rattle.sctp_association.proofs.laws.whatever_is_reset_what_is_read_was_written.Goals as goal

pub returns : goal.returns
returns c = record {
  hosts = each-delivers-any;
  linked = each-link-delivers-any;
  weaker = each-plain;
  hosts_recent = each-delivers-young;
  linked_recent = each-link-delivers-young;
  few = each-few-young;
}
