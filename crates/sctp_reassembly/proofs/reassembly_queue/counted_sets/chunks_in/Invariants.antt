use Rattle.std.proofs.Common.{◌≡◌, ◌+◌, ◌-◌, ◌^◌, take, min}
use Rattle.sctp_reassembly.specs.reassembly_queue.Counts.{set_chunks}
use Rattle.sctp_reassembly.proofs.reassembly_queue.counted_sets.chunks_in.Given as goal

abbrev pub invariant-loop-place : goal.invariant-loop-place
invariant-loop-place l = record {
  count : l.count ≡ min (set_chunks (take l.place l.sets.items)) (2 ^ 64 - 1);
  turns : l.turns ≡ l.initial.turns + l.place;
}
