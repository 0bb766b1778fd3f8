use Rattle.sctp_association.specs.Lasting.{LastsNoLonger}
use Rattle.sctp_association.specs.Most.{most_packets}
use Rattle.sctp_association.proofs.alone.lose.Given as goal

abbrev pub invariant-loop : goal.invariant-loop
invariant-loop l = LastsNoLonger l.initial.one l.one

abbrev pub decreases-loop : goal.decreases-loop
decreases-loop l = most_packets l.now l.one
