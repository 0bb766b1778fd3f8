use Rattle.std.proofs.Common.{◌≤◌}
use Rattle.sctp_sender.proofs.sender.flight.places.message_start.Given as goal

abbrev pub invariant-loop-start : goal.invariant-loop-start
invariant-loop-start l = l.start ≤ l.place

abbrev pub decreases-loop-start : goal.decreases-loop-start
decreases-loop-start l = l.start
