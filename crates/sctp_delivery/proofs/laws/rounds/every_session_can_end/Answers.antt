use Rattle.sctp_delivery.proofs.EndWindows.{all-end, all-read}
use Rattle.sctp_delivery.proofs.laws.rounds.every_session_can_end.Goals as goal

pub returns : goal.returns
returns c = record { ends = all-end; all = all-read }
