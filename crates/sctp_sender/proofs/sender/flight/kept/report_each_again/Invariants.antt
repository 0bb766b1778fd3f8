use Rattle.sctp_sender.proofs.Names.{◌≡◌, ◌+◌, ◌≤◌, length, take, with_inflight, reported_again}
use Rattle.sctp_sender.proofs.sender.flight.kept.report_each_again.Given as goal

abbrev pub invariant-loop-place : goal.invariant-loop-place
invariant-loop-place l = record {
  queue : l.queue ≡ with_inflight l.initial.queue (reported_again (take l.place-index l.places) l.initial.queue.inflight.chunks);
  top : l.place-index ≤ length l.places;
  turns : l.turns ≡ l.initial.turns + l.place-index;
}
