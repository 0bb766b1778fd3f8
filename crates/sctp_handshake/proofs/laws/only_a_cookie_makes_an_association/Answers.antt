use Rattle.sctp_handshake.proofs.Steps.{after_down}
use Rattle.sctp_handshake.proofs.laws.only_a_cookie_makes_an_association.Goals as goal

pub returns : goal.returns
returns c = after_down
