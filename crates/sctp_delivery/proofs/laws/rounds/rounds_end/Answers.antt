use Rattle.sctp_delivery.proofs.RoundsEnd.{all-end, all-take-one}
use Rattle.sctp_delivery.proofs.laws.rounds.rounds_end.Goals as goal

pub returns : goal.returns
returns c = record { fewer = all-take-one; done = all-end }
