use Rattle.sctp_delivery.proofs.Stands as stands
use Rattle.sctp_delivery.proofs.laws.stands.two_hosts_begin_a_session.Goals as goal

pub returns : goal.returns
returns c = stands.two-begin
