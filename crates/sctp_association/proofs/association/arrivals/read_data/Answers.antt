use Rattle.std.proofs.Common.{Ok}
use Rattle.sctp_association.proofs.association.arrivals.read_data.Goals as goal
use Rattle.sctp_association.proofs.UserData.{short_read}

pub returns-in-Ok-clause-short : goal.returns-in-Ok-clause-short
returns-in-Ok-clause-short c = short_read _ _ _ (Ok c.in-Ok.data) c.bytes_of.ensures c.read_u16.ensures c.read_u16.type_inv c.in-Ok.ensures.found
