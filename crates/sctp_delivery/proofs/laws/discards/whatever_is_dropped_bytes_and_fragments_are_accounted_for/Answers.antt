use Rattle.sctp_delivery.proofs.DiscardRuns as runs
use Rattle.sctp_delivery.proofs.laws.discards.whatever_is_dropped_bytes_and_fragments_are_accounted_for.Goals as goal

pub returns : goal.returns
returns c = record { bytes = runs.accounted; made = runs.made; whole = runs.messages }
