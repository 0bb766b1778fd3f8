use Rattle.std.proofs.Common.{subst}
use Rattle.sctp_outbound.specs.Marks.{IsBetween}
use Rattle.sctp_outbound.specs.payload_queue.PayloadQueue.{Payload}
use Rattle.sctp_outbound.proofs.lemmas.payload_queue.Between.{between-all}
use Rattle.sctp_outbound.proofs.payload_queue.PayloadQueue.abandon_message.Goals as goal

pub abandon_between-requires : goal.abandon_between-requires
abandon_between-requires c = subst (λ (q : Payload). IsBetween c.args.message_id 0 c.len-len.result q.chunks) c.self.view_is
    (rw c.len-len.ensures (between-all c.args.message_id c.self.inside.held.chunks))
