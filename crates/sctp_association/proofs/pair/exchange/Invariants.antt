use Rattle.sctp_association.specs.HostCalls.{Log}
use Rattle.sctp_association.specs.Pairs.{Exchanges}
use Rattle.sctp_association.proofs.pair.exchange.Given as goal

abbrev pub invariant-loop-round : goal.invariant-loop-round
invariant-loop-round l = (k m : Log) → Exchanges l.initial.one l.initial.other l.one l.other k m
