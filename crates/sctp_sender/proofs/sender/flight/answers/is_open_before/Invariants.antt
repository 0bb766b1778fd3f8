use Rattle.sctp_sender.proofs.Names.{◌+◌, ◌≤◌, take, count_by, is_number, messages_of}
use Rattle.sctp_sender.proofs.Opened.{IsClosedBack}
use Rattle.sctp_sender.proofs.sender.flight.answers.is_open_before.Given as goal

abbrev pub invariant-loop-start : goal.invariant-loop-start
invariant-loop-start l = record {
  closed : IsClosedBack l.queue.inflight.chunks l.message l.place l.start;
  not_back : l.initial.turns ≤ l.turns;
  cost : l.turns + count_by (is_number l.message) (take l.start (messages_of l.queue.inflight.chunks))
      ≤ l.initial.turns + count_by (is_number l.message) (take l.place (messages_of l.queue.inflight.chunks));
}

abbrev pub decreases-loop-start : goal.decreases-loop-start
decreases-loop-start l = l.start
