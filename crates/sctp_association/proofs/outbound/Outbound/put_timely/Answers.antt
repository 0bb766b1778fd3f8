use Rattle.std.proofs.Common.{refl}
use Rattle.sctp_association.proofs.Fewer.{fewer_same}
use Rattle.sctp_association.proofs.Putting.{nothing}
use Rattle.sctp_association.proofs.outbound.Outbound.put_timely.Goals as goal

pub returns-then-is_front_late-clause-made : goal.returns-then-is_front_late-clause-made
returns-then-is_front_late-clause-made c = λ r. nothing _

pub returns-then-is_front_late-clause-fewer : goal.returns-then-is_front_late-clause-fewer
returns-then-is_front_late-clause-fewer c = fewer_same _ _ _ _ refl refl
