use Rattle.sctp_receiver.proofs.CreditTold as told
use Rattle.sctp_receiver.proofs.laws.credit.credit_is_what_is_left.Goals as goal

pub returns : goal.returns
returns c = record { exact = told.exact; opens = told.left; unlimited = told.unlimited }
