use Rattle.sctp_delivery.proofs.EveryRecent.{can-so}
use Rattle.sctp_delivery.proofs.laws.rounds.a_sack_can_be_made_and_taken.Goals as goal

pub returns : goal.returns
returns c = can-so
