use Rattle.sctp_model.proofs.Exchanges.{messages_are_bounded, names_are_bounded}
use Rattle.sctp_model.proofs.laws.lengths_are_bounded.Goals as goal

pub returns-clause-messages : goal.returns-clause-messages
returns-clause-messages c = messages_are_bounded

pub returns-clause-names : goal.returns-clause-names
returns-clause-names c = names_are_bounded
