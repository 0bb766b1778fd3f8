use Rattle.sctp_association.specs.Most.{most_packets}
use Rattle.associate.proofs.host.Host.transmit.Given as goal

abbrev pub decreases-loop-network : goal.decreases-loop-network
decreases-loop-network l = most_packets l.now l.self.association
