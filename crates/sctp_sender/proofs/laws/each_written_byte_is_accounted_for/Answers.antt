use Rattle.sctp_sender.proofs.Accounts.{accounted}
use Rattle.sctp_sender.proofs.laws.each_written_byte_is_accounted_for.Goals as goal

pub returns : goal.returns
returns c = accounted
