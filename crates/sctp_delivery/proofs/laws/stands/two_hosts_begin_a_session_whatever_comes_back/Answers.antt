use Rattle.sctp_delivery.proofs.StandsSo as stands
use Rattle.sctp_delivery.proofs.laws.stands.two_hosts_begin_a_session_whatever_comes_back.Goals as goal

pub returns : goal.returns
returns c = stands.two-begin-so
