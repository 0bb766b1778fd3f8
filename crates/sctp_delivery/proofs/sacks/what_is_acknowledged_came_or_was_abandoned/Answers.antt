use Rattle.sctp_delivery.proofs.SackLaws as laws
use Rattle.sctp_delivery.proofs.sacks.what_is_acknowledged_came_or_was_abandoned.Goals as goal

pub returns : goal.returns
returns c = record { came = laws.acknowledged-came; released = laws.all-released-came; left = laws.all-left-came; passed = laws.pass-abandoned }
