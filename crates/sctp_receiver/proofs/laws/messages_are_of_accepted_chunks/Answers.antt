use Rattle.sctp_receiver.proofs.Handed as handed
use Rattle.sctp_receiver.proofs.laws.messages_are_of_accepted_chunks.Goals as goal

pub returns : goal.returns
returns c = record { complete = handed.complete; alike = handed.alike; accepted = handed.accepted }
