use Rattle.sctp_association.proofs.laws.what_is_sent_was_made.Goals as goal
use Rattle.sctp_association.proofs.Sessions.{each_is_sent}

pub returns : goal.returns
returns c = each_is_sent
