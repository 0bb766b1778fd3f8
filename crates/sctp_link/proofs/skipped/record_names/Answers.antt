use Rattle.sctp_link.proofs.Names.{◌+◌, drop, drop_all, drop_more, slice_index_or}
use Rattle.sctp_link.proofs.skips.Skipping.{named-rest, none-named}
use Rattle.sctp_link.proofs.skipped.record_names.Goals as goal

pub loop-number-preserved : goal.loop-number-preserved
loop-number-preserved c =
    let ms = c.args.messages.now in
    let names = c.args.names.now in
    let i = c.loop-number.number-index in
    let n = slice_index_or names i 0 in
    let rest = drop (i + 1) names in
    cc (c.record_name.ensures, named-rest ms n rest c.loop-number.progress, drop_more names i 0 c.loop-number-test.true, c.loop-number.invariant)

pub returns : goal.returns
returns c =
    let ms = c.args.messages.now in
    let names = c.args.names.now in
    cc (none-named ms c.loop-number.progress, drop_all c.loop-number.number-index names c.loop-number-test.false, c.loop-number.invariant)
