use Rattle.std.proofs.Common.{◌≡◌, ◌<◌, rules, length, vec_len, subst, sym, ap, ◌∙◌, arith}
use Rattle.sctp_c.specs.Types.{Up}
use Rattle.sctp_c.specs.declared.sender.types.Noted.{Noted}
use Rattle.sctp_c.proofs.Noted.{at-place, found-at, found-none}
use Rattle.sctp_c.proofs.sender.types.Types.get.Goals as goal

pub returns-then-place-len : goal.returns-then-place-len
returns-then-place-len c =
    let many : length c.self.inside.rows.items ≡ vec_len c.self.inside.rows = search rules in
    sym (found-none c.args.message c.before-place.result c.args.self.now (subst Up c.self.view_is c.self.invariant) c.before-place.ensures.point
    (λ d lt e. omega (arith, lt, many, c.if-place-len.true, c.len.ensures, ap length c.self.view_is)))

pub returns-then-row-message : goal.returns-then-row-message
returns-then-row-message c =
    sym (found-none c.args.message c.before-place.result c.args.self.now (subst Up c.self.view_is c.self.invariant) c.before-place.ensures.point
    (λ d lt e. c.if-row-message.true
    (sym (ap (λ (r : Noted). r.message) (at-place c.self.inside.rows.items c.args.self.now c.before-place.result c.index-row.result.now d c.self.view_is c.index-row.ensures lt)) ∙ e)))

pub returns : goal.returns
returns c =
    let many : length c.self.inside.rows.items ≡ vec_len c.self.inside.rows = search rules in
    let row = c.index-row.result.now in
    let lt : c.before-place.result < length c.args.self.now = omega (arith, many, c.if-place-len.false, c.len.ensures, ap length c.self.view_is) in
    let is = at-place c.self.inside.rows.items c.args.self.now c.before-place.result row row c.self.view_is c.index-row.ensures lt in
    sym (found-at c.args.message c.before-place.result c.args.self.now row lt c.before-place.ensures.point
    (ap (λ (r : Noted). r.message) is ∙ c.if-row-message.false) ∙ ap (λ (r : Noted). r.number) is)
