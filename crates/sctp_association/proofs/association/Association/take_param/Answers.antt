use Rattle.std.proofs.Common.{false, refl, rules, true, ◌≡◌}
use Rattle.sctp_association.proofs.Arriving.{follows_same}
use Rattle.sctp_association.proofs.Arrived.{alike_halves}
use Rattle.sctp_association.proofs.Reconfigs.{param_denied, param_ok, param_other}
use Rattle.sctp_association.specs.Reconfigs.{is_denied, is_read}
use Rattle.sctp_association.proofs.association.Association.take_param.Goals as goal

pub returns-in-14-clause-came : goal.returns-in-14-clause-came
returns-in-14-clause-came c = follows_same _ _ _ _ (alike_halves _ _ c.deny.ensures.halves)

pub returns-in_default-clause-came : goal.returns-in_default-clause-came
returns-in_default-clause-came c = follows_same _ _ _ _ refl

pub returns-in-13-clause-made : goal.returns-in-13-clause-made
returns-in-13-clause-made c =
    let on : is_read c.args.typ ≡ true = search rules in
    let plain : is_denied c.args.typ ≡ false = search rules in
    param_ok c.follow_param.result c.args.typ c.args.raw.now c.args.at c.args.now c.args.self.now c.follow_param.new.self on plain c.follow_param.ensures.made

pub returns-in-14-clause-made : goal.returns-in-14-clause-made
returns-in-14-clause-made c =
    let on : is_denied c.args.typ ≡ true = search rules in
    let plain : is_read c.args.typ ≡ false = search rules in
    param_denied c.args.typ c.args.raw.now c.args.at c.args.now c.args.self.now c.deny.new.self on plain c.deny.ensures.made

pub returns-in_default-clause-made : goal.returns-in_default-clause-made
returns-in_default-clause-made c =
    let read : is_read c.args.typ ≡ false = search rules in
    let denied : is_denied c.args.typ ≡ false = search rules in
    param_other c.args.typ c.args.raw.now c.args.at c.args.now c.args.self.now c.args.self.now read denied refl
