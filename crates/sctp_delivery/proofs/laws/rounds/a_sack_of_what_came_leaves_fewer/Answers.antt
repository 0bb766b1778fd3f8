use Rattle.sctp_delivery.proofs.RoundsEnd.{all-leave-fewer}
use Rattle.sctp_delivery.proofs.laws.rounds.a_sack_of_what_came_leaves_fewer.Goals as goal

pub returns : goal.returns
returns c = all-leave-fewer
