use Rattle.sctp_delivery.proofs.PlainRuns as runs
use Rattle.sctp_delivery.proofs.laws.returns.whatever_comes_back_each_other_write_is_read_in_the_end.Goals as goal

pub returns : goal.returns
returns c = runs.others-read
