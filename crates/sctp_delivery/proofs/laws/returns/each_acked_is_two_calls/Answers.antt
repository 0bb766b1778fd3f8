use Rattle.sctp_delivery.proofs.PlainLaws as laws
use Rattle.sctp_delivery.proofs.laws.returns.each_acked_is_two_calls.Goals as goal

pub returns : goal.returns
returns c = laws.two-calls
