use Rattle.sctp_reset.proofs.PeerRuns as runs
use Rattle.sctp_reset.proofs.laws.a_request_is_performed_once.Goals as goal

pub returns : goal.returns
returns c = record { once = runs.performs-once; alike = runs.answers-alike }
