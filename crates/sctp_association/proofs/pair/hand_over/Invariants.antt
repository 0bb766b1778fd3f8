use Rattle.sctp_association.specs.Pairs.{Comes, ComesSetUp}
use Rattle.sctp_association.proofs.pair.hand_over.Given as goal

abbrev pub invariant-loop-time : goal.invariant-loop-time
invariant-loop-time l = Comes l.datagram l._time l.initial.other l.other × ComesSetUp l.datagram l._time l.initial.other l.other
