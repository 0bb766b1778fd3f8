use Rattle.sctp_sender.proofs.Names.{◌≡◌, ◌+◌, take, change_where, as_acknowledged, with_inflight, is_answered}
use Rattle.sctp_sender.proofs.sender.flight.answers.acknowledge_answered.Given as goal

abbrev pub invariant-loop-one : goal.invariant-loop-one
invariant-loop-one l = record {
  queue : l.queue
      ≡ with_inflight l.initial.queue (change_where (is_answered (take l.one-index l.released)) as_acknowledged l.initial.queue.inflight.chunks);
  turns : l.turns ≡ l.initial.turns + l.one-index;
}
