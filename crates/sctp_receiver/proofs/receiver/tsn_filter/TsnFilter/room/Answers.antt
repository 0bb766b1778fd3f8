use Rattle.sctp_receiver.proofs.Names.{arith}
use Rattle.sctp_receiver.proofs.RunBlocks.{run-count}
use Rattle.sctp_receiver.proofs.receiver.tsn_filter.TsnFilter.room.Goals as goal

pub returns-clause-runs : goal.returns-clause-runs
returns-clause-runs c =
    let n = run-count c.self.inside.cumulative_tsn c.self.inside.runs.items c.self.invariant.in_range c.self.invariant.runs in
    rw (← c.self.view_is) (omega (arith, n, c.self.invariant.places))
