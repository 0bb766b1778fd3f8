use Rattle.sctp_link.proofs.Names.{◌<◌, ◌≤◌, length, sym, arith, slice_set, nat_tests, subst, HasNames}
use Rattle.sctp_link.proofs.skips.NamedTables.{named-none, named-absent, named-past, named-put}
use Rattle.sctp_link.proofs.skipped.put_name.Goals as goal

pub returns-in_default-clause-names : goal.returns-in_default-clause-names
returns-in_default-clause-names c = λ names rest.
    let past : length c.args.messages.now ≤ c.args.number = (let t = c.in_default.ensures.lookup in grind (arith, nat_tests)) in
    named-none c.args.messages.now c.args.number c.args.progress.now names rest c.args.table.now.items past

pub returns-in_default-place_of-clause-names : goal.returns-in_default-place_of-clause-names
returns-in_default-place_of-clause-names c = λ names rest.
    let look = c.in-Some.ensures.lookup in
    let inside : c.args.number < length c.args.messages.now = (let t = look.0 in grind (arith, nat_tests)) in
    named-absent c.args.messages.now c.args.number c.args.progress.now names rest c.args.table.now.items c.in-Some.message.now inside look.1
    c.in_default-place_of.ensures

pub returns-then-place-len-clause-names : goal.returns-then-place-len-clause-names
returns-then-place-len-clause-names c = λ names rest h.
    let ms = c.args.messages.now in
    let ps = c.args.progress.now in
    let table = c.args.table.now.items in
    let place = c.in-Some-place_of.place in
    let look = c.in-Some.ensures.lookup in
    let inside : c.args.number < length ms = (let t = look.0 in grind (arith, nat_tests)) in
    let there : place < length table = omega (arith, c.if-place-len.true, c.len.ensures) in
    subst (λ w. HasNames ms names rest ps (slice_set table place w)) (sym c.with_name.ensures)
    (named-put ms c.args.number ps names rest table c.in-Some.message.now inside look.1 place c.in-Some-place_of.ensures c.index.result.now there
    c.index.ensures h)

pub returns-else-place-len-clause-names : goal.returns-else-place-len-clause-names
returns-else-place-len-clause-names c = λ names rest.
    let look = c.in-Some.ensures.lookup in
    let inside : c.args.number < length c.args.messages.now = (let t = look.0 in grind (arith, nat_tests)) in
    named-past c.args.messages.now c.args.number c.args.progress.now names rest c.args.table.now.items c.in-Some.message.now inside look.1
    c.in-Some-place_of.place c.in-Some-place_of.ensures (omega (arith, c.if-place-len.false, c.len.ensures))
