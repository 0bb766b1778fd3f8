use Rattle.sctp_delivery.specs.Complete.{IsAllReadWhereSettled}
use Rattle.sctp_delivery.proofs.FewYoung.{of-reliable}
use Rattle.sctp_delivery.proofs.YoungEnd as young_end
use Rattle.sctp_delivery.proofs.laws.complete.each_write_is_read_where_nothing_is_held.Goals as goal

pub returns : goal.returns
returns c = record { few = of-reliable IsAllReadWhereSettled young_end.law; recent = young_end.law }
