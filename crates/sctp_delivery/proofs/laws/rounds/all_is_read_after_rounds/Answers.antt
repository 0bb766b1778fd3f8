use Rattle.sctp_delivery.proofs.RoundsEnd.{all-read-after}
use Rattle.sctp_delivery.proofs.laws.rounds.all_is_read_after_rounds.Goals as goal

pub returns : goal.returns
returns c = all-read-after
