use Rattle.sctp_sender.proofs.Names.{◌≡◌, drop, find, is_kept}
use Rattle.sctp_sender.proofs.sender.flight.skips.first_kept.Given as goal

abbrev pub invariant-loop-place : goal.invariant-loop-place
invariant-loop-place l = find is_kept l.queue.inflight.chunks ≡ find is_kept (drop l.place l.queue.inflight.chunks)
