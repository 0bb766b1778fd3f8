use Rattle.sctp_link.proofs.Names.{ap, ◌∙◌, map, Filter, placeholder}
use Rattle.sctp_link.proofs.link_receiver.LinkReceiver.filter.Goals as goal

pub returns-clause-beyond : goal.returns-clause-beyond
returns-clause-beyond c = rw (← c.self.view_is) (c.queue.ensures.beyond ∙ ap (λ (f : Filter). map placeholder f.beyond) c.self.invariant.tsns)

pub returns-clause-duplicates : goal.returns-clause-duplicates
returns-clause-duplicates c = rw (← c.self.view_is) (c.queue.ensures.duplicates ∙ ap (λ (f : Filter). f.duplicates) c.self.invariant.tsns)
