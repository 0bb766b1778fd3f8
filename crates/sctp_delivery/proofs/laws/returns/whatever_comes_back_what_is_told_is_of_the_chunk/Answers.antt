use Rattle.sctp_delivery.proofs.PlainAmounts as amounts
use Rattle.sctp_delivery.proofs.laws.returns.whatever_comes_back_what_is_told_is_of_the_chunk.Goals as goal

pub returns : goal.returns
returns c = record { gone = amounts.each-told; back = amounts.each-return-told }
