use Rattle.sctp_delivery.proofs.EveryRuns as runs
use Rattle.sctp_delivery.proofs.laws.every_call.whatever_is_called_bytes_and_fragments_are_accounted_for.Goals as goal

pub returns : goal.returns
returns c = record { bytes = runs.accounted; made = runs.made; whole = runs.messages }
