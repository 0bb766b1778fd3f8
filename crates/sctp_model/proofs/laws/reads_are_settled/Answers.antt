use Rattle.sctp_model.proofs.Composed.{reads_are_settled, reads_by_arrivals, none_is_lost}
use Rattle.sctp_model.proofs.laws.reads_are_settled.Goals as goal

pub returns-clause-settled : goal.returns-clause-settled
returns-clause-settled c = reads_are_settled

pub returns-clause-by_arrivals : goal.returns-clause-by_arrivals
returns-clause-by_arrivals c = reads_by_arrivals

pub returns-clause-none_lost : goal.returns-clause-none_lost
returns-clause-none_lost c = none_is_lost
