use Rattle.sctp_association.proofs.Hosts as hosts
use Rattle.sctp_association.proofs.Links as links
use Rattle.sctp_association.proofs.PlainHosts.{each-delivers, each-plain-delivers-young}
use Rattle.sctp_association.proofs.laws.what_is_read_was_written.Goals as goal

pub returns : goal.returns
returns c = record {
  hosts = each-delivers;
  cut = hosts.each-cut;
  linked = links.each-link-delivers;
  few = links.each-link-is-cut;
  hosts_recent = each-plain-delivers-young;
  linked_recent = links.each-plain-link-delivers-young;
}
