use Rattle.sctp_delivery.proofs.SackLaws as laws
use Rattle.sctp_delivery.proofs.sacks.a_sack_of_all_leaves_nothing.Goals as goal

pub returns : goal.returns
returns c = laws.all-reported-leaves
