use Rattle.sctp_model.proofs.receiver.Counted.{counters_are_sums}
use Rattle.sctp_model.proofs.laws.counters_count.Goals as goal

pub returns : goal.returns
returns c = record { sums = counters_are_sums }
