use Rattle.sctp_delivery.proofs.Uses.{reads-own}
use Rattle.sctp_delivery.proofs.laws.every_call.whatever_is_called_a_later_use_reads_its_own_writes.Goals as goal

pub returns : goal.returns
returns c = reads-own
