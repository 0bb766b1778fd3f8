use Rattle.sctp_model.proofs.Exchanges.{outstanding_go_again}
use Rattle.sctp_model.proofs.laws.only_outstanding_goes_again.Goals as goal

pub returns : goal.returns
returns c = outstanding_go_again
