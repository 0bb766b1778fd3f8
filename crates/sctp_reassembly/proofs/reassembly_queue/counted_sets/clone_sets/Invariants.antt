use Rattle.std.proofs.Common.{◌≡◌, take}
use Rattle.sctp_reassembly.proofs.reassembly_queue.counted_sets.clone_sets.Given as goal

abbrev pub invariant-loop-place : goal.invariant-loop-place
invariant-loop-place l = l.copies.items ≡ take l.place l.sets.items
