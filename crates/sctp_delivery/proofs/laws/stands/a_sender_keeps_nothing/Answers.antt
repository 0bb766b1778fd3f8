use Rattle.sctp_delivery.proofs.Stands as stands
use Rattle.sctp_delivery.proofs.laws.stands.a_sender_keeps_nothing.Goals as goal

pub returns : goal.returns
returns c = stands.keeps-nothing
