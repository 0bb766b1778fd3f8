use Rattle.sctp_delivery.proofs.PlainRuns as runs
use Rattle.sctp_delivery.proofs.laws.returns.whatever_comes_back_bytes_are_accounted_for.Goals as goal

pub returns : goal.returns
returns c = runs.accounted
