use Rattle.sctp_path.proofs.Doubling.{doubling}
use Rattle.sctp_path.proofs.laws.doubling_ends_at_the_greatest.Goals as goal

pub returns : goal.returns
returns c = doubling
