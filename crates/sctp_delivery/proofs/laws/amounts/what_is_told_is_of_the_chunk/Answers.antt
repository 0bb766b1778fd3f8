use Rattle.sctp_delivery.proofs.AmountLaws.{each-is-told}
use Rattle.sctp_delivery.proofs.laws.amounts.what_is_told_is_of_the_chunk.Goals as goal

pub returns : goal.returns
returns c = each-is-told
