use Rattle.sctp_sender.proofs.Names.{◌+◌, ◌≤◌, drop, count_by, is_number, messages_of}
use Rattle.sctp_sender.proofs.Opened.{IsClosedOn}
use Rattle.sctp_sender.proofs.sender.flight.answers.is_open_from.Given as goal

abbrev pub invariant-loop-end : goal.invariant-loop-end
invariant-loop-end l = record {
  closed : IsClosedOn l.queue.inflight.chunks l.message l.place l.end;
  not_back : l.initial.turns ≤ l.turns;
  cost : l.turns + count_by (is_number l.message) (drop l.end (messages_of l.queue.inflight.chunks))
      ≤ l.initial.turns + count_by (is_number l.message) (drop l.place (messages_of l.queue.inflight.chunks));
}
