use Rattle.sctp_model.proofs.Exchanges.{write_is_answered, send_is_answered, resend_is_answered}
use Rattle.sctp_model.proofs.laws.replies_tell.Goals as goal

pub returns-clause-write : goal.returns-clause-write
returns-clause-write c = write_is_answered

pub returns-clause-send : goal.returns-clause-send
returns-clause-send c = send_is_answered

pub returns-clause-resend : goal.returns-clause-resend
returns-clause-resend c = resend_is_answered
