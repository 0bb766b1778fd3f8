use Rattle.sctp_receiver.proofs.RepeatsTold as told
use Rattle.sctp_receiver.proofs.laws.duplicates.repeats_are_told_once.Goals as goal

pub returns : goal.returns
returns c = record { once = told.once; fill = told.fill }
