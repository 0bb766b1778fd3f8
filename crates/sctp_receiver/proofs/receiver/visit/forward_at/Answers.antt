use Rattle.std.proofs.Common.{rules, arith, ◌<◌, ◌^◌, length}
use Rattle.sctp_receiver.proofs.CostSums.{is-part, changed-fits, changed-sum}
use Rattle.sctp_receiver.proofs.receiver.visit.forward_at.Goals as goal

pub moved-requires-clause-part : goal.moved-requires-clause-part
moved-requires-clause-part c =
    let h = is-part c.args.streams.now.items c.args.place c.index_mut-stream.result.now c.requires.place c.index_mut-stream.ensures.value in
    omega (arith, h, c.requires.cost, c.cost_of-before.ensures)

pub moved-requires-clause-fits : goal.moved-requires-clause-fits
moved-requires-clause-fits c =
    let ls = c.args.streams.now.items in
    let few : length ls < 2 ^ 64 = search rules in
    let h = changed-fits ls c.args.place c.index_mut-stream.result.now c.requires.place c.index_mut-stream.ensures.value few
    (record c.index_mut-stream.result.now { queue = c.skip_on.new.queue }) in
    omega (arith, h, c.requires.cost, c.cost_of-before.ensures, c.cost_of.ensures)

pub returns-clause-cost : goal.returns-clause-cost
returns-clause-cost c =
    let h = changed-sum c.args.streams.now.items c.args.place c.index_mut-stream.result.now c.requires.place c.index_mut-stream.ensures.value
    (record c.index_mut-stream.result.now { queue = c.skip_on.new.queue }) in
    omega (arith, h, c.moved.ensures, c.requires.cost, c.cost_of-before.ensures, c.cost_of.ensures)
