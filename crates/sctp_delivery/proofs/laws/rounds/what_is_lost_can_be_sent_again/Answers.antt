use Rattle.sctp_delivery.proofs.RoundsEnd.{all-go-on}
use Rattle.sctp_delivery.proofs.laws.rounds.what_is_lost_can_be_sent_again.Goals as goal

pub returns : goal.returns
returns c = all-go-on
