use Rattle.sctp_receiver.proofs.Names.{length, ap, sym, arith, Filter}
use Rattle.sctp_receiver.proofs.FilterCalls.{come-expected}
use Rattle.sctp_receiver.proofs.TsnRuns.{fewer-runs}
use Rattle.sctp_receiver.proofs.receiver.tsn_filter.TsnFilter.has_come_counted.Goals as goal

pub returns-then-tsn-self-clause-answer : goal.returns-then-tsn-self-clause-answer
returns-then-tsn-self-clause-answer c =
    let f = c.self.inside in
    rw (← c.self.view_is, c.if-tsn-self.true)
    (sym (come-expected f.cumulative_tsn f.runs.items f.duplicates.items f.room c.self.invariant.in_range c.self.invariant.runs))

pub returns-else-sna32lte-clause-cost : goal.returns-else-sna32lte-clause-cost
returns-else-sna32lte-clause-cost c =
    let few = fewer-runs c.self.inside.runs.items in
    let beyond = ap (λ (f : Filter). length f.beyond) c.self.view_is in
    omega (arith, few, beyond, c.contains.ensures.cost)
