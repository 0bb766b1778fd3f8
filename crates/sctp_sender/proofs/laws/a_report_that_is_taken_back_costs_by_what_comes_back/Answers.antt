use Rattle.sctp_sender.proofs.SackCosts.{costs-together}
use Rattle.sctp_sender.proofs.laws.a_report_that_is_taken_back_costs_by_what_comes_back.Goals as goal

pub returns : goal.returns
returns c = record { any = costs-together }
