use Rattle.sctp_delivery.proofs.Stands as stands
use Rattle.sctp_delivery.proofs.laws.stands.each_call_leads_to_a_session.Goals as goal

pub returns : goal.returns
returns c = record { sender = stands.sender-steps; receiver = stands.receiver-steps }
