use Rattle.sctp_delivery.proofs.StandsAny as stands
use Rattle.sctp_delivery.proofs.laws.stands.two_hosts_begin_a_session_of_every_call.Goals as goal

pub returns : goal.returns
returns c = stands.two-begin
