use Rattle.sctp_delivery.proofs.Kept as kept
use Rattle.sctp_delivery.proofs.YoungHeld as young_held
use Rattle.sctp_delivery.proofs.laws.complete.what_is_taken_is_held_or_read.Goals as goal

pub returns : goal.returns
returns c = record { few = kept.held-or-read; recent = young_held.law }
