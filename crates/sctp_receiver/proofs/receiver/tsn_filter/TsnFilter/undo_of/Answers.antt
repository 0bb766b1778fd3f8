use Rattle.sctp_receiver.proofs.Names.{arith}
use Rattle.sctp_receiver.proofs.RunBlocks.{run-count}
use Rattle.sctp_receiver.proofs.TsnRuns.{runs-rise}
use Rattle.sctp_receiver.proofs.receiver.tsn_filter.TsnFilter.undo_of.Goals as goal

pub returns-then-tsn-cumulative_tsn-clause-rise : goal.returns-then-tsn-cumulative_tsn-clause-rise
returns-then-tsn-cumulative_tsn-clause-rise c =
    rw (← c.self.view_is) (runs-rise c.self.inside.cumulative_tsn 0 c.self.inside.runs.items c.self.invariant.in_range c.self.invariant.runs)

pub returns-else-tsn-cumulative_tsn-clause-rise : goal.returns-else-tsn-cumulative_tsn-clause-rise
returns-else-tsn-cumulative_tsn-clause-rise c =
    rw (← c.self.view_is) (runs-rise c.self.inside.cumulative_tsn 0 c.self.inside.runs.items c.self.invariant.in_range c.self.invariant.runs)

pub returns-then-tsn-cumulative_tsn-clause-runs : goal.returns-then-tsn-cumulative_tsn-clause-runs
returns-then-tsn-cumulative_tsn-clause-runs c =
    let n = run-count c.self.inside.cumulative_tsn c.self.inside.runs.items c.self.invariant.in_range c.self.invariant.runs in
    rw (← c.self.view_is) (omega (arith, n, c.self.invariant.places))

pub returns-else-tsn-cumulative_tsn-clause-runs : goal.returns-else-tsn-cumulative_tsn-clause-runs
returns-else-tsn-cumulative_tsn-clause-runs c =
    let n = run-count c.self.inside.cumulative_tsn c.self.inside.runs.items c.self.invariant.in_range c.self.invariant.runs in
    rw (← c.self.view_is) (omega (arith, n, c.self.invariant.places))
