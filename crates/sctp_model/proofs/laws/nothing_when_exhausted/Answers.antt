use Rattle.sctp_model.proofs.receiver.ReadLaws.{nothing_where_read}
use Rattle.sctp_model.proofs.laws.nothing_when_exhausted.Goals as goal

pub returns : goal.returns
returns c = record { nothing = nothing_where_read }
