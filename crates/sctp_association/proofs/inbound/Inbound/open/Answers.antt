use Rattle.sctp_association.proofs.Noting.{tells_same}
use Rattle.std.proofs.Common.{refl}
use Rattle.sctp_association.proofs.Arriving.{received_same}
use Rattle.sctp_association.proofs.Brought.{notes_none}
use Rattle.sctp_association.proofs.inbound.Inbound.open.Goals as goal

pub returns-then-is_some-clause-received : goal.returns-then-is_some-clause-received
returns-then-is_some-clause-received c = received_same _ _ _ refl

pub returns-then-is_some-clause-tells : goal.returns-then-is_some-clause-tells
returns-then-is_some-clause-tells c = tells_same _ _

pub returns-then-is_some-clause-notes : goal.returns-then-is_some-clause-notes
returns-then-is_some-clause-notes c = notes_none _ _ _ _ refl
