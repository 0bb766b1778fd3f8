use Rattle.std.proofs.Common.{◌≡◌, rules, insert, subst, sym, ap, ◌∙◌}
use Rattle.sctp_c.specs.Types.{Up, noted, type_of}
use Rattle.sctp_c.specs.declared.sender.types.Noted.{Noted}
use Rattle.sctp_c.proofs.Noted.{found-new, found-others, up-insert}
use Rattle.sctp_c.proofs.sender.types.Types.note.Goals as goal

pub invariant_of-self-2 : goal.invariant_of-self-2
invariant_of-self-2 c =
    let put : c.insert.new.self.items ≡ insert c.args.self.now c.before-place.result (noted c.args.message c.args.number) = search rules in
    subst Up (sym put) (up-insert c.args.self.now c.before-place.result (noted c.args.message c.args.number) (subst Up c.self.view_is c.self.invariant) c.before-place.ensures.point)

pub returns-clause-given : goal.returns-clause-given
returns-clause-given c =
    let put : c.insert.new.self.items ≡ insert c.args.self.now c.before-place.result (noted c.args.message c.args.number) = search rules in
    ap (type_of c.args.message) put
    ∙ found-new c.args.self.now c.before-place.result (noted c.args.message c.args.number) c.before-place.ensures.bound c.before-place.ensures.point

pub returns-clause-others : goal.returns-clause-others
returns-clause-others c m other =
    let put : c.insert.new.self.items ≡ insert c.args.self.now c.before-place.result (noted c.args.message c.args.number) = search rules in
    ap (type_of m) put ∙ found-others m c.args.self.now c.before-place.result (noted c.args.message c.args.number) (λ e. other (sym e))
