use Rattle.sctp_delivery.proofs.OthersOnce.{held-read-or-passed}
use Rattle.sctp_delivery.proofs.laws.complete.what_is_taken_is_held_read_or_passed.Goals as goal

pub returns : goal.returns
returns c = held-read-or-passed
