use Rattle.sctp_association.proofs.Telling.{passes_none, to_same}
use Rattle.std.proofs.Common.{refl, rules, ◌≡◌}
use Rattle.std.specs.Prelude.{None}
use Rattle.sctp_association.proofs.AcksOn.{told_none}
use Rattle.sctp_association.proofs.Begun.{begun_none}
use Rattle.sctp_association.proofs.association.Association.follow.Goals as goal

pub returns-then-not-is_silent-clause-begun : goal.returns-then-not-is_silent-clause-begun
returns-then-not-is_silent-clause-begun c = c.follow_answer.ensures.begun

pub returns-else-ne-clause-begun : goal.returns-else-ne-clause-begun
returns-else-ne-clause-begun c =
    let none : c.args.answer.told ≡ None = search rules in
    begun_none _ _ _ _ _ none refl

pub returns-else-ne-clause-tells : goal.returns-else-ne-clause-tells
returns-else-ne-clause-tells c =
    let none : c.args.answer.told ≡ None = search rules in
    passes_none _ _ _ _ none to_same refl

pub returns-else-ne-clause-acks : goal.returns-else-ne-clause-acks
returns-else-ne-clause-acks c =
    let none : c.args.answer.told ≡ None = search rules in
    told_none _ _ _ _ none refl
