use Rattle.sctp_association.specs.Most.{most_packets}
use Rattle.assocrun.proofs.host.print_datagrams.Given as goal

abbrev pub decreases-loop-association : goal.decreases-loop-association
decreases-loop-association g l = most_packets l.now l.association
