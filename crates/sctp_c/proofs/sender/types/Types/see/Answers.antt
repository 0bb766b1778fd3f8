use Rattle.std.proofs.Common.{◌≡◌, ◌<◌, rules, true, length, vec_len, subst, sym, ap, ◌∙◌, arith}
use Rattle.sctp_c.specs.Types.{Up, is_stamped, type_of}
use Rattle.sctp_c.specs.declared.sender.types.Noted.{Noted}
use Rattle.sctp_c.proofs.Noted.{at-place, seen-none, seen-now, seen-others, seen-types, set-is, up-set}
use Rattle.sctp_c.proofs.sender.types.Types.see.Goals as goal

pub returns-then-place-len-clause-seen : goal.returns-then-place-len-clause-seen
returns-then-place-len-clause-seen c =
    let many : length c.self.inside.rows.items ≡ vec_len c.self.inside.rows = search rules in
    seen-none c.args.stamp c.args.message c.args.self.now c.before-place.result (subst Up c.self.view_is c.self.invariant) c.before-place.ensures.point
    (λ d lt e. omega (arith, lt, many, c.if-place-len.true, c.len.ensures, ap length c.self.view_is))

pub returns-then-index-message-clause-seen : goal.returns-then-index-message-clause-seen
returns-then-index-message-clause-seen c =
    seen-none c.args.stamp c.args.message c.args.self.now c.before-place.result (subst Up c.self.view_is c.self.invariant) c.before-place.ensures.point
    (λ d lt e. c.if-index-message.true
    (sym (ap (λ (r : Noted). r.message) (at-place c.self.inside.rows.items c.args.self.now c.before-place.result c.index.result.now d c.self.view_is c.index.ensures lt)) ∙ e))

pub invariant_of-self : goal.invariant_of-self
invariant_of-self c =
    let many : length c.self.inside.rows.items ≡ vec_len c.self.inside.rows = search rules in
    let lt : c.before-place.result < length c.args.self.now = omega (arith, many, c.if-place-len.false, c.len.ensures, ap length c.self.view_is) in
    let row = c.index_mut.result.now in
    subst Up (sym (set-is c.self.inside.rows.items c.args.self.now c.args.stamp c.before-place.result row c.self.view_is c.index_mut.ensures.value))
    (up-set c.args.stamp c.args.self.now c.before-place.result row lt (subst Up c.self.view_is c.self.invariant))

pub returns-clause-same : goal.returns-clause-same
returns-clause-same c m =
    let many : length c.self.inside.rows.items ≡ vec_len c.self.inside.rows = search rules in
    let lt : c.before-place.result < length c.args.self.now = omega (arith, many, c.if-place-len.false, c.len.ensures, ap length c.self.view_is) in
    let row = c.index_mut.result.now in
    ap (type_of m) (set-is c.self.inside.rows.items c.args.self.now c.args.stamp c.before-place.result row c.self.view_is c.index_mut.ensures.value)
    ∙ seen-types c.args.stamp m c.args.self.now c.before-place.result row lt

pub returns-clause-seen : goal.returns-clause-seen
returns-clause-seen c =
    let many : length c.self.inside.rows.items ≡ vec_len c.self.inside.rows = search rules in
    let lt : c.before-place.result < length c.args.self.now = omega (arith, many, c.if-place-len.false, c.len.ensures, ap length c.self.view_is) in
    let row = c.index_mut.result.now in
    let first = c.index.result.now in
    let is = at-place c.self.inside.rows.items c.args.self.now c.before-place.result first row c.self.view_is c.index.ensures lt in
    ap (is_stamped c.args.stamp c.args.message) (set-is c.self.inside.rows.items c.args.self.now c.args.stamp c.before-place.result row c.self.view_is c.index_mut.ensures.value)
    ∙ seen-now c.args.stamp c.args.message c.args.self.now c.before-place.result row lt c.before-place.ensures.point
    (ap (λ (r : Noted). r.message) is ∙ c.if-index-message.false)

pub returns-clause-kept : goal.returns-clause-kept
returns-clause-kept c m seen =
    let many : length c.self.inside.rows.items ≡ vec_len c.self.inside.rows = search rules in
    let lt : c.before-place.result < length c.args.self.now = omega (arith, many, c.if-place-len.false, c.len.ensures, ap length c.self.view_is) in
    let row = c.index_mut.result.now in
    ap (is_stamped c.args.stamp m) (set-is c.self.inside.rows.items c.args.self.now c.args.stamp c.before-place.result row c.self.view_is c.index_mut.ensures.value)
    ∙ seen-others c.args.stamp m c.args.self.now c.before-place.result row lt seen
