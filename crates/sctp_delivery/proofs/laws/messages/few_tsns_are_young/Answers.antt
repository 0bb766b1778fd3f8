use Rattle.sctp_delivery.proofs.FewYoung as few_young
use Rattle.sctp_delivery.proofs.laws.messages.few_tsns_are_young.Goals as goal

pub returns : goal.returns
returns c = few_young.few-young
