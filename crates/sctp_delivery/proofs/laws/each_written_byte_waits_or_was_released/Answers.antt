use Rattle.sctp_delivery.proofs.Sessions as sessions
use Rattle.sctp_delivery.proofs.laws.each_written_byte_waits_or_was_released.Goals as goal

pub returns : goal.returns
returns c = sessions.accounted
