use Rattle.sctp_delivery.proofs.ForwardLaw as law
use Rattle.sctp_delivery.proofs.laws.progress.no_forward_tsn_is_refused.Goals as goal

pub returns : goal.returns
returns c = law.none-made
