use Rattle.std.proofs.Common.{ap₂, sym, ◌∙◌}
use Rattle.std.specs.Option.{option_or}
use Rattle.std.specs.List.{filter}
use Rattle.sctp_outbound.specs.Marks.{is_of}
use Rattle.sctp_outbound.proofs.lemmas.pending_queue.Waiting.{last_of-append}
use Rattle.sctp_outbound.proofs.pending_queue.PendingQueue.pop_message.Goals as goal

pub returns-clause-last : goal.returns-clause-last
returns-clause-last c =
    rw (← c.self.view_is) (c.or.ensures ∙ ap₂ option_or c.pop_message-unordered.ensures.last c.pop_message-ordered.ensures.last
    ∙ sym (last_of-append (filter (is_of c.args.message_id) c.self.inside.ordered.chunks) (filter (is_of c.args.message_id) c.self.inside.unordered.chunks)))
