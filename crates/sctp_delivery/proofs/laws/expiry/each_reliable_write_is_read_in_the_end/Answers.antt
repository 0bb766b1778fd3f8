use Rattle.sctp_delivery.proofs.ExpiryLaws as reliable_writes
use Rattle.sctp_delivery.proofs.laws.expiry.each_reliable_write_is_read_in_the_end.Goals as goal

pub returns : goal.returns
returns c = reliable_writes.reliable-read
