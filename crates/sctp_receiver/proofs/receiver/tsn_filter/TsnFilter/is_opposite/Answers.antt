use Rattle.sctp_receiver.proofs.TsnRuns.{runs-rise}
use Rattle.sctp_receiver.proofs.receiver.tsn_filter.TsnFilter.is_opposite.Goals as goal

pub returns-clause-rise : goal.returns-clause-rise
returns-clause-rise c =
    rw (← c.self.view_is) (runs-rise c.self.inside.cumulative_tsn 0 c.self.inside.runs.items c.self.invariant.in_range c.self.invariant.runs)
