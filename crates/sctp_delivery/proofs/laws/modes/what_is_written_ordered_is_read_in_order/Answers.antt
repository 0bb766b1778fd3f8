use Rattle.sctp_delivery.proofs.FewYoung as few_young
use Rattle.sctp_delivery.proofs.YoungOrder as young_order
use Rattle.sctp_delivery.proofs.laws.modes.what_is_written_ordered_is_read_in_order.Goals as goal

pub returns : goal.returns
returns c = record { few = few_young.as-written; recent = young_order.as-written }
