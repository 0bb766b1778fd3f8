use Rattle.sctp_delivery.proofs.Delivered as delivered
use Rattle.sctp_delivery.proofs.laws.messages.each_chunk_made_is_a_part_of_a_write.Goals as goal

pub returns : goal.returns
returns c = record { part = delivered.parts; same = delivered.same }
