use Rattle.std.proofs.Common.{arith, subst}
use Rattle.std.specs.Prelude.{IfSome}
use Rattle.sctp_association.proofs.association.Association.held_bytes.Goals as goal
use Rattle.sctp_association.specs.Held.{CostsLittle}

pub returns-in-Some-clause-within : goal.returns-in-Some-clause-within
returns-in-Some-clause-within c =
    let a = c.args.self.now in
    let little : CostsLittle a.config c.in-Some.inbound.receiver = subst (λ o. IfSome o (λ i. CostsLittle a.config i.receiver)) c.in-Some.is
    (c.what_is_held_is_bounded.ensures.bytes a) in
    omega (arith, c.held_bytes.ensures, little)
