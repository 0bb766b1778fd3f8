use Rattle.std.proofs.Common.{sym, ◌∙◌}
use Rattle.sctp_serial.proofs.lemmas.Serials.{held-any}
use Rattle.sctp_link.proofs.tsns.QueueCalls.{come-expected}
use Rattle.sctp_link.proofs.link_receiver.tsn_queue.TsnQueue.has_come.Goals as goal

pub returns-then-tsn-self : goal.returns-then-tsn-self
returns-then-tsn-self c =
    rw (← c.self.view_is, c.if-tsn-self.true)
    (sym (come-expected c.self.inside.cumulative_tsn c.self.inside.queue c.self.invariant.in_range c.self.invariant.rise))

pub returns-else-sna32lte : goal.returns-else-sna32lte
returns-else-sna32lte c =
    rw (← c.self.view_is, ← c.sna32lte.ensures.value, c.if-sna32lte.false)
    (c.is_some.ensures ∙ c.get_counted.ensures.variant ∙ held-any c.args.tsn c.self.inside.queue.chunks)
