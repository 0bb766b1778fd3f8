use Rattle.sctp_delivery.proofs.Sessions as sessions
use Rattle.sctp_delivery.proofs.laws.messages_are_of_chunks_that_were_made.Goals as goal

pub returns : goal.returns
returns c = record { made = sessions.made; whole = sessions.messages }
