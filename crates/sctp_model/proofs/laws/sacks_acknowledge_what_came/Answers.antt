use Rattle.sctp_model.proofs.Exchanges.{acknowledges_seen, acknowledges_arrived}
use Rattle.sctp_model.proofs.laws.sacks_acknowledge_what_came.Goals as goal

pub returns-clause-seen : goal.returns-clause-seen
returns-clause-seen c = acknowledges_seen

pub returns-clause-arrived : goal.returns-clause-arrived
returns-clause-arrived c = acknowledges_arrived
