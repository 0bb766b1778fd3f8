use Rattle.sctp_sender.proofs.SackCosts.{costs-of-new, costs-of-nothing-new}
use Rattle.sctp_sender.proofs.laws.a_sack_costs_by_what_is_new.Goals as goal

pub returns : goal.returns
returns c = record { any = costs-of-new; of_nothing_new = costs-of-nothing-new }
