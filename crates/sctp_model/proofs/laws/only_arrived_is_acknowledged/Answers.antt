use Rattle.sctp_model.proofs.acknowledgement.Acknowledged.{acknowledged_arrived}
use Rattle.sctp_model.proofs.acknowledgement.Acknowledged.{acknowledged_is_reported}
use Rattle.sctp_model.proofs.acknowledgement.Acknowledged.{sacks_say}
use Rattle.sctp_model.proofs.laws.only_arrived_is_acknowledged.Goals as goal

pub returns-clause-arrived : goal.returns-clause-arrived
returns-clause-arrived c = acknowledged_arrived

pub returns-clause-reported : goal.returns-clause-reported
returns-clause-reported c = acknowledged_is_reported

pub returns-clause-say : goal.returns-clause-say
returns-clause-say c = sacks_say
