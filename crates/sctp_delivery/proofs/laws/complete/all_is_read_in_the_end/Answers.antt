use Rattle.sctp_delivery.proofs.OthersOnce as others
use Rattle.sctp_delivery.proofs.laws.complete.all_is_read_in_the_end.Goals as goal

pub returns : goal.returns
returns c = others.all-read
