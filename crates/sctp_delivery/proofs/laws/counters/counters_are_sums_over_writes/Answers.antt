use Rattle.sctp_delivery.proofs.CounterLaws as counter_laws
use Rattle.sctp_delivery.proofs.laws.counters.counters_are_sums_over_writes.Goals as goal

pub returns : goal.returns
returns c = counter_laws.are-sums
