use Rattle.sctp_sender.proofs.Names.{◌≡◌, ◌+◌, drop, with_inflight}
use Rattle.sctp_sender.proofs.sender.flight.reports.pop_run.Given as goal

abbrev pub invariant-loop-place : goal.invariant-loop-place
invariant-loop-place l = record {
  left : l.queue ≡ with_inflight l.initial.queue (drop l.place l.initial.queue.inflight.chunks);
  turns : l.turns ≡ l.initial.turns + l.place;
}
