use Rattle.sctp_delivery.proofs.SackLaws as laws
use Rattle.sctp_delivery.proofs.sacks.what_is_acknowledged_stays_so.Goals as goal

pub returns : goal.returns
returns c = laws.stays-acknowledged
