use Rattle.std.proofs.Common.{refl}
use Rattle.sctp_handshake.proofs.Silence.{silent}
use Rattle.sctp_handshake.proofs.laws.silence_ends_it.Goals as goal

pub returns : goal.returns
returns c = λ n m t le lt. silent n m.state m refl t le lt
