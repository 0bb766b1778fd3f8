use Rattle.std.proofs.Common.{refl}
use Rattle.sctp_association.proofs.Telling.{tells_peer}
use Rattle.sctp_association.proofs.association.Association.abort.Goals as goal

pub returns-clause-tells : goal.returns-clause-tells
returns-clause-tells c = tells_peer _ _ (c.end_with.ensures.peer refl) c.end_with.ensures.tells
