use Rattle.sctp_model.proofs.Exchanges.{unordered_go_first}
use Rattle.sctp_model.proofs.laws.unordered_go_first.Goals as goal

pub returns : goal.returns
returns c = unordered_go_first
