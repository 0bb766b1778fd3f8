use Rattle.sctp_association.proofs.Telling.{tells_connect}
use Rattle.sctp_association.proofs.association.Association.connect.Goals as goal

pub returns-in-Ok-clause-tells : goal.returns-in-Ok-clause-tells
returns-in-Ok-clause-tells c =
    let told = c.follow.ensures.tells in
    tells_connect _ _ _ _ _ _ c.follow.ensures.kept.machine told.end told c.in-Ok.ensures.ok
