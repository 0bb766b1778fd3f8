use Rattle.sctp_association.proofs.Telling.{to_new}
use Rattle.std.proofs.Common.{None, Some, ap, refl, rules, ◌≡◌}
use Rattle.sctp_association.proofs.Begun.{begins_none, begins_some}
use Rattle.sctp_association.proofs.association.Association.begin.Goals as goal

pub returns-in_default-clause-begun : goal.returns-in_default-clause-begun
returns-in_default-clause-begun c _ =
    let none : c.args.self.now.machine.peer ≡ None = search rules in
    begins_none _ _ _ _ none refl

pub returns-in_default-2-clause-begun : goal.returns-in_default-2-clause-begun
returns-in_default-2-clause-begun c _ =
    let none : c.args.self.now.machine.peer ≡ None = search rules in
    begins_none _ _ _ _ none refl

pub returns-clause-begun : goal.returns-clause-begun
returns-clause-begun c none =
    let some : c.args.self.now.machine.peer ≡ Some c.in-Some-Some.peer = search rules in
    begins_some _ _ _ _ _ some (none, (ap (λ o. o.sender) c.connected.ensures.rest, ap Some c.new.ensures.receiver))

pub returns-clause-tells : goal.returns-clause-tells
returns-clause-tells c = to_new _ _ _ c.new.result _ _ _ c.new.ensures.receiver
