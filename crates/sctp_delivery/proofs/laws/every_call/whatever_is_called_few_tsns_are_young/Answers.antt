use Rattle.sctp_delivery.proofs.EveryFewYoung.{few-young}
use Rattle.sctp_delivery.proofs.laws.every_call.whatever_is_called_few_tsns_are_young.Goals as goal

pub returns : goal.returns
returns c = few-young
