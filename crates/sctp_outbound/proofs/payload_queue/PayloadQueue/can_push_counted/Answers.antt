use Rattle.std.proofs.Common.{not, ap, sym, ◌∙◌}
use Rattle.sctp_outbound.proofs.payload_queue.PayloadQueue.can_push_counted.Goals as goal

pub returns-then-is_none-clause-answer : goal.returns-then-is_none-clause-answer
returns-then-is_none-clause-answer c = rw (sym c.get_counted.ensures.variant ∙ c.if-is_none.ensures) (ap not c.sna32lte.ensures.value)

pub returns-else-is_none-clause-answer : goal.returns-else-is_none-clause-answer
returns-else-is_none-clause-answer c = rw (sym c.get_counted.ensures.variant ∙ c.if-is_none.ensures) c.if-is_none.false
