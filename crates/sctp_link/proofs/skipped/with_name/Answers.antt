use Rattle.sctp_link.proofs.Names.{◌<◌, length, ap, ◌∙◌, sym, arith, nat_tests}
use Rattle.sctp_link.proofs.skips.Skipping.{index-raw}
use Rattle.sctp_link.proofs.skipped.with_name.Goals as goal

pub overflow_add-message : goal.overflow_add-message
overflow_add-message c =
    let look = c.in-Some.ensures.lookup in
    let inside : c.args.number < length c.args.messages.now = (let t = look.0 in grind (arith, nat_tests)) in
    let m = c.in-Some.message.now in
    let raw = index-raw c.args.messages.now c.args.number m inside ∙ ap (λ x. x.index) (sym look.1) in
    omega (arith, c.requires c.args.number, raw)
