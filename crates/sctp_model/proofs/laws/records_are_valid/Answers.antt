use Rattle.sctp_model.proofs.receiver.ValidRun.{record_is_valid, slots_come_valid, skips_come_valid}
use Rattle.sctp_model.proofs.laws.records_are_valid.Goals as goal

pub returns-clause-valid : goal.returns-clause-valid
returns-clause-valid c = record_is_valid

pub returns-clause-slots : goal.returns-clause-slots
returns-clause-slots c = slots_come_valid

pub returns-clause-skips : goal.returns-clause-skips
returns-clause-skips c = skips_come_valid
