use Rattle.std.proofs.Common.{◌≡◌, ◌+◌, drop, length}
use Rattle.sctp_reassembly.specs.reassembly_queue.Fragments.{is_complete, completes}
use Rattle.sctp_reassembly.proofs.reassembly_queue.chunks.follow_on.Given as goal

abbrev pub invariant-loop-chunk : goal.invariant-loop-chunk
invariant-loop-chunk l = record {
  follow : completes l.last (drop l.chunk-index l.rest) ≡ is_complete l.chunks;
  turns : l.turns ≡ l.initial.turns + l.chunk-index;
  long : length l.rest + 1 ≡ length l.chunks;
}
