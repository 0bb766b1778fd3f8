use Rattle.sctp_model.proofs.sender.Sends.{emits_where_pending}
use Rattle.sctp_model.proofs.sender.Sends.{takes_pending}
use Rattle.sctp_model.proofs.sender.Sends.{idle_is_answered}
use Rattle.sctp_model.proofs.laws.each_send_emits.Goals as goal

pub returns-clause-idle : goal.returns-clause-idle
returns-clause-idle c = emits_where_pending

pub returns-clause-takes : goal.returns-clause-takes
returns-clause-takes c = takes_pending

pub returns-clause-answered : goal.returns-clause-answered
returns-clause-answered c = idle_is_answered
