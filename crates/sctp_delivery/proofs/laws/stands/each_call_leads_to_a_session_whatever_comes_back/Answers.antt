use Rattle.sctp_delivery.proofs.StandsSo as stands
use Rattle.sctp_delivery.proofs.laws.stands.each_call_leads_to_a_session_whatever_comes_back.Goals as goal

pub returns : goal.returns
returns c = record { sender = stands.sender-steps-so; receiver = stands.receiver-steps-so; acked = stands.acked-steps-so }
