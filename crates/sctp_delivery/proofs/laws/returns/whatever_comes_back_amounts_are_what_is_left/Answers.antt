use Rattle.sctp_delivery.proofs.PlainAmounts as amounts
use Rattle.sctp_delivery.proofs.laws.returns.whatever_comes_back_amounts_are_what_is_left.Goals as goal

pub returns : goal.returns
returns c = record { left = amounts.are-left; end = amounts.end }
