use Rattle.sctp_handshake.proofs.InitSteps.{offer_again}
use Rattle.sctp_handshake.proofs.laws.an_offer_is_read_as_it_was.Goals as goal

pub returns : goal.returns
returns c = offer_again
