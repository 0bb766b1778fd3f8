use Rattle.std.proofs.Common.{ap}
use Rattle.sctp_association.specs.declared.association.Association.{Association}
use Rattle.sctp_association.proofs.Telling.{streams_in, to_over}
use Rattle.sctp_association.proofs.association.Association.fail.Goals as goal

pub returns-clause-tells : goal.returns-clause-tells
returns-clause-tells c = to_over _ _ _ _ _ _ _ (ap (λ (x : Association). streams_in x.inbound) c.end.ensures.rest) c.end.ensures.told c.end.ensures.over
