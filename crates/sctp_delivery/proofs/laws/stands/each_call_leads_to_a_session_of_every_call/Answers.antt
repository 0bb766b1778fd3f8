use Rattle.sctp_delivery.proofs.StandsAny as stands
use Rattle.sctp_delivery.proofs.laws.stands.each_call_leads_to_a_session_of_every_call.Goals as goal

pub returns : goal.returns
returns c = record {
  sender = stands.sender-steps;
  receiver = stands.receiver-steps;
  sender_other = stands.sender-other-steps;
  receiver_other = stands.receiver-other-steps;
  acked = stands.acked-steps;
}
