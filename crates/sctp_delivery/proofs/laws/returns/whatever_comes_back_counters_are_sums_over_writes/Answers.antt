use Rattle.sctp_delivery.proofs.PlainLaws as laws
use Rattle.sctp_delivery.proofs.laws.returns.whatever_comes_back_counters_are_sums_over_writes.Goals as goal

pub returns : goal.returns
returns c = laws.sums
