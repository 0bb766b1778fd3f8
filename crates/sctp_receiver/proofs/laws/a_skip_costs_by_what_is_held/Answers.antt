use Rattle.sctp_receiver.proofs.HeldSkips.{by-what-is-held}
use Rattle.sctp_receiver.proofs.laws.a_skip_costs_by_what_is_held.Goals as goal

pub returns : goal.returns
returns c = by-what-is-held
