use Rattle.sctp_delivery.proofs.EveryMessages as messages
use Rattle.sctp_delivery.proofs.laws.every_call.whatever_is_called_what_is_unordered_is_read_in_the_end.Goals as goal

pub returns : goal.returns
returns c = record { writes = messages.unordered-written-read; chunks = messages.unordered-sent-read }
