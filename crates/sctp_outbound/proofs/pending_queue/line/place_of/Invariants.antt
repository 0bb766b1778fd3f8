use Rattle.std.proofs.Common.{◌≤◌, length}
use Rattle.sctp_outbound.proofs.pending_queue.line.place_of.Given as goal

abbrev pub invariant-loop-place : goal.invariant-loop-place
invariant-loop-place l = l.place ≤ length l.chunks.items

abbrev pub decreases-loop-place : goal.decreases-loop-place
decreases-loop-place l = l.place
