use Rattle.sctp_delivery.proofs.PlainEnds as ends
use Rattle.sctp_delivery.proofs.laws.returns.whatever_comes_back_every_session_can_end.Goals as goal

pub returns : goal.returns
returns c = record { ends = ends.all-end; all = ends.all-read }
