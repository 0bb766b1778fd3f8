use Rattle.sctp_receiver.proofs.ReadsCounted as counted
use Rattle.sctp_receiver.proofs.laws.counters.counters_are_sums.Goals as goal

pub returns : goal.returns
returns c = counted.sums
