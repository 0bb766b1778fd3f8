use Rattle.sctp_delivery.proofs.SackLaws as laws
use Rattle.sctp_delivery.proofs.sacks.no_tsn_is_taken_twice.Goals as goal

pub returns : goal.returns
returns c = laws.none-twice
