use Rattle.sctp_link.proofs.Names.{◌<◌, ◌≤◌, ◌∙◌, ap, length, arith, nat_tests, Named}
use Rattle.sctp_link.proofs.skips.Skipping.{nowhere-named, absent-named, place-named}
use Rattle.sctp_link.proofs.skipped.record_name.Goals as goal

pub returns-in_default : goal.returns-in_default
returns-in_default c =
    let past : length c.args.messages.now ≤ c.args.number = (let t = c.in_default.ensures.lookup in grind (arith, nat_tests)) in
    nowhere-named c.args.messages.now c.args.number past c.args.progress.now

pub returns-in_default-place_of : goal.returns-in_default-place_of
returns-in_default-place_of c =
    let look = c.in-Some.ensures.lookup in
    let inside : c.args.number < length c.args.messages.now = (let t = look.0 in grind (arith, nat_tests)) in
    absent-named c.args.messages.now c.args.number c.in-Some.message.now inside look.1 c.args.progress.now c.in_default-place_of.ensures

pub returns : goal.returns
returns c =
    let look = c.in-Some.ensures.lookup in
    let inside : c.args.number < length c.args.messages.now = (let t = look.0 in grind (arith, nat_tests)) in
    c.record_named.ensures ∙ place-named c.args.messages.now c.args.number c.in-Some.message.now inside look.1 c.args.progress.now c.in-Some-place_of.place
    c.in-Some-place_of.ensures c.with_name-named.result.end (ap (λ (d : Named). d.end) c.with_name-named.ensures)
