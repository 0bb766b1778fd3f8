use Rattle.sctp_sender.proofs.FarNumbers.{numbers-tell}
use Rattle.sctp_sender.proofs.laws.numbers_alone_bound_what_is_begun.Goals as goal

pub returns : goal.returns
returns c = numbers-tell
