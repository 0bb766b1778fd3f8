use Rattle.sctp_delivery.proofs.AmountLaws.{are-left}
use Rattle.sctp_delivery.proofs.laws.amounts.amounts_are_what_is_left.Goals as goal

pub returns : goal.returns
returns c = are-left
