use Rattle.sctp_delivery.proofs.RoundsEnd.{all-skip}
use Rattle.sctp_delivery.proofs.laws.rounds.what_is_abandoned_can_be_passed.Goals as goal

pub returns : goal.returns
returns c = all-skip
