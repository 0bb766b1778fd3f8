use Rattle.sctp_delivery.proofs.RefusedLaw as law
use Rattle.sctp_delivery.proofs.laws.progress.no_chunk_in_flight_is_refused.Goals as goal

pub returns : goal.returns
returns c = record { due = law.none-in-flight; read = law.none-where-read }
