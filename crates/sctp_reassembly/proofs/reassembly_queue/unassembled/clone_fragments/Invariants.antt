use Rattle.std.proofs.Common.{◌≡◌, ◌≤◌, take}
use Rattle.std.specs.VecDeque.{deque_capacity}
use Rattle.sctp_reassembly.proofs.reassembly_queue.unassembled.clone_fragments.Given as goal

abbrev pub invariant-loop-place : goal.invariant-loop-place
invariant-loop-place l = record {
  copied : l.copies.items ≡ take l.place l.chunks.items;
  room : l.places ≤ deque_capacity l.copies;
}
