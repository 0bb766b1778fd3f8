use Rattle.sctp_delivery.proofs.EveryHeld as held
use Rattle.sctp_delivery.proofs.EveryMessages as messages
use Rattle.sctp_delivery.proofs.laws.every_call.whatever_is_called_what_is_unordered_is_held_or_read.Goals as goal

pub returns : goal.returns
returns c = record { held = held.held-or-read; ends = messages.unordered-read }
