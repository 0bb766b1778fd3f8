use Rattle.sctp_delivery.proofs.OthersOnce as others
use Rattle.sctp_delivery.proofs.laws.complete.what_is_abandoned_was_written.Goals as goal

pub returns : goal.returns
returns c = record { written = others.of-writes; marked = others.theirs-marked }
