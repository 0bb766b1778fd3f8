use Rattle.sctp_delivery.proofs.SackLaws as laws
use Rattle.sctp_delivery.proofs.EveryRecent as every_recent
use Rattle.sctp_delivery.proofs.sacks.no_sack_is_refused.Goals as goal

pub returns : goal.returns
returns c = record { few = laws.none-refused; recent = every_recent.none-young-refused }
