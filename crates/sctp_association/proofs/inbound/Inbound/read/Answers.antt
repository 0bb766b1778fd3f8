use Rattle.sctp_association.proofs.Noting.{tells_in, tells_read}
use Rattle.sctp_association.proofs.inbound.Inbound.read.Goals as goal
use Rattle.sctp_association.proofs.inbound.Inbound.read.Goals.{else-was_full, else-was_full-via-else-was_full}
use Rattle.sctp_association.proofs.inbound.Inbound.read.Goals.{else-was_full-via-then-was_full+else-window-ne0, then-was_full+then-window-ne0}

pub returns-clause-tells : goal.returns-clause-tells
returns-clause-tells c = λ e. tells_in _ _ _ _ (elim c.if-was_full.branch [
  | then-was_full+then-window-ne0 w ↦ rw w.self-is (tells_read _ _ _ e c.in-Ok.ensures.ok)
  | else-was_full w ↦ rw w.self-is (elim w.else-was_full.branch [
    | else-was_full-via-then-was_full+else-window-ne0 v ↦ rw v.self-is (tells_read _ _ _ e c.in-Ok.ensures.ok)
    | else-was_full-via-else-was_full v ↦ rw v.self-is (tells_read _ _ _ e c.in-Ok.ensures.ok)
  ])
])
