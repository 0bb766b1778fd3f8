use Rattle.sctp_receiver.proofs.Drained as drained
use Rattle.sctp_receiver.proofs.laws.drains.a_drain_gives_what_is_due.Goals as goal

pub returns : goal.returns
returns c = record { only = drained.only; all = drained.all }
