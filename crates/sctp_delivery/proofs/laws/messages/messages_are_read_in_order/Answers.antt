use Rattle.sctp_delivery.proofs.FewYoung as few_young
use Rattle.sctp_delivery.proofs.YoungOrder as young_order
use Rattle.sctp_delivery.proofs.laws.messages.messages_are_read_in_order.Goals as goal

pub returns : goal.returns
returns c = record { few = few_young.in-order; recent = young_order.law }
