use Rattle.std.proofs.Common.{refl, rules, ◌≡◌}
use Rattle.std.specs.Prelude.{None}
use Rattle.sctp_association.proofs.Begun.{begun_none}
use Rattle.sctp_association.proofs.association.Association.take_answer.Goals as goal

pub returns-then-is_none-2-clause-begun : goal.returns-then-is_none-2-clause-begun
returns-then-is_none-2-clause-begun c =
    let none : c.args.answer.told ≡ None = search rules in
    begun_none _ _ _ _ _ none refl

pub returns-clause-begun : goal.returns-clause-begun
returns-clause-begun c = c.follow.ensures.begun
