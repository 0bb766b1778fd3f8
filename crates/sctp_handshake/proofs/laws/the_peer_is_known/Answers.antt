use Rattle.sctp_handshake.proofs.Steps.{after_valid}
use Rattle.sctp_handshake.proofs.laws.the_peer_is_known.Goals as goal

pub returns : goal.returns
returns c = after_valid
