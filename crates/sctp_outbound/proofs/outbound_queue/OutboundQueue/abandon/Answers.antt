use Rattle.std.proofs.Common.{subst}
use Rattle.sctp_outbound.specs.Marks.{IsBetween}
use Rattle.sctp_outbound.specs.outbound_queue.OutboundQueue.{Outbound}
use Rattle.sctp_outbound.proofs.lemmas.payload_queue.Between.{between-all}
use Rattle.sctp_outbound.proofs.outbound_queue.OutboundQueue.abandon.Goals as goal

pub abandon_between-requires-clause-between : goal.abandon_between-requires-clause-between
abandon_between-requires-clause-between x = λ c found. subst (λ (o : Outbound). IsBetween c.message_id 0 x.len-len.result o.inflight.chunks) x.self.view_is
    (rw x.len-len.ensures (between-all c.message_id x.self.inside.inflight.chunks))
