use Rattle.sctp_delivery.proofs.AmountLaws.{end}
use Rattle.sctp_delivery.proofs.laws.amounts.amounts_end_at_nothing.Goals as goal

pub returns : goal.returns
returns c = end
