use Rattle.sctp_receiver.proofs.Names.{◌≡◌, ◌≤◌, map, length, ap, ◌∙◌, arith, rules, drop, block_of}
use Rattle.std.specs.Prelude.{take}
use Rattle.sctp_receiver.proofs.RunBlocks.{spans, first-blocks, blocks-end, blocks-all, blocks-are}
use Rattle.sctp_receiver.proofs.TsnRuns.{read-run}
use Rattle.sctp_receiver.proofs.receiver.tsn_filter.runs.gap_ack_blocks.Goals as goal

pub returns-then-len-most-clause-blocks : goal.returns-then-len-most-clause-blocks
returns-then-len-most-clause-blocks c =
    let rs = c.args.runs.now.items in
    let i = c.loop-place.invariant in
    let all = map block_of (spans 65536 c.args.base rs) in
    let full : length c.loop-place.blocks.items ≡ c.args.most = search rules in
    first-blocks c.args.most c.loop-place.blocks.items (map block_of (spans 65536 c.args.base (drop c.loop-place.place rs))) all full i.so_far
    ∙ ap (take c.args.most) (blocks-are c.args.base rs c.ranges.base.fits c.requires)

pub returns-then-start-gt65535-clause-blocks : goal.returns-then-start-gt65535-clause-blocks
returns-then-start-gt65535-clause-blocks c =
    let rs = c.args.runs.now.items in
    let i = c.loop-place.invariant in
    let all = map block_of (spans 65536 c.args.base rs) in
    let test = c.loop-place-test.true in
    let at = read-run rs c.loop-place.place c.index-run.result.now (search rules) c.index-run.ensures in
    blocks-end c.args.base c.loop-place.place c.args.most rs c.index-run.result.now c.loop-place.blocks.items all at
    (let far = c.if-start-gt65535.true in omega (arith, far, c.distance-start.ensures.value)) (omega (arith, i.count, i.within)) i.so_far
    ∙ ap (take c.args.most) (blocks-are c.args.base rs c.ranges.base.fits c.requires)

pub returns-clause-blocks : goal.returns-clause-blocks
returns-clause-blocks c =
    let rs = c.args.runs.now.items in
    let i = c.loop-place.invariant in
    let all = map block_of (spans 65536 c.args.base rs) in
    let test = c.loop-place-test.false in
    let end : length rs ≤ c.loop-place.place = search rules in
    blocks-all c.args.base c.loop-place.place c.args.most rs c.loop-place.blocks.items all end (omega (arith, i.count, i.within)) i.so_far
    ∙ ap (take c.args.most) (blocks-are c.args.base rs c.ranges.base.fits c.requires)
