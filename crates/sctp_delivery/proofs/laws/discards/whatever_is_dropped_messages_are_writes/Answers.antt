use Rattle.sctp_delivery.proofs.DiscardRuns as runs
use Rattle.sctp_delivery.proofs.laws.discards.whatever_is_dropped_messages_are_writes.Goals as goal

pub returns : goal.returns
returns c = record { written = runs.written; tsns = runs.none-read-twice; own = runs.of-their-own }
