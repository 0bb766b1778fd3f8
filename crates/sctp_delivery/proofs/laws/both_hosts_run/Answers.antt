use Rattle.sctp_delivery.proofs.Sessions as sessions
use Rattle.sctp_delivery.proofs.laws.both_hosts_run.Goals as goal

pub returns : goal.returns
returns c = sessions.runs
