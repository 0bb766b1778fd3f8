use Rattle.std.proofs.Common.{length}
use Rattle.sctp_outbound.specs.pending_queue.Whole.{IsMessageOrNone}
use Rattle.sctp_outbound.proofs.lemmas.outbound_queue.Messages.{IsRest}
use Rattle.sctp_outbound.proofs.outbound_queue.message.is_message_or_none.Given as goal

abbrev pub invariant-loop-chunk : goal.invariant-loop-chunk
invariant-loop-chunk l = record {
  whole : IsRest l.first.unordered l.begun l.rest → IsMessageOrNone l.chunks;
  rest : IsMessageOrNone l.chunks → IsRest l.first.unordered l.begun l.rest;
}

abbrev pub decreases-loop-chunk : goal.decreases-loop-chunk
decreases-loop-chunk l = length l.rest
