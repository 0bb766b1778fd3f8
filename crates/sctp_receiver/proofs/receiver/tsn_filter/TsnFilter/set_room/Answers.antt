use Rattle.sctp_receiver.proofs.Names.{◌≤◌, arith, tsns_of, count_of_runs}
use Rattle.sctp_receiver.proofs.RunBlocks.{run-count}
use Rattle.sctp_receiver.proofs.receiver.tsn_filter.TsnFilter.set_room.Goals as goal

pub invariant_of-self : goal.invariant_of-self
invariant_of-self c =
    let f = c.self.inside in
    let i = c.self.invariant in
    let n = run-count f.cumulative_tsn f.runs.items i.in_range i.runs in
    let runs : count_of_runs f.cumulative_tsn (tsns_of f.runs.items) ≤ c.args.room = rw (← c.self.view_is) at c.requires.runs in
    let less : c.args.room ≤ f.room = rw (← c.self.view_is) at c.requires.less in
    record { in_range = i.in_range; runs = i.runs; places = omega (arith, n, runs); capacity = omega (arith, less, i.capacity) }
