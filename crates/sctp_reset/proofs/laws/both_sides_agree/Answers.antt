use Rattle.sctp_reset.proofs.Agreement.{both-agree, each-can-end}
use Rattle.sctp_reset.proofs.laws.both_sides_agree.Goals as goal

pub returns : goal.returns
returns c = record { agree = both-agree; end = each-can-end }
