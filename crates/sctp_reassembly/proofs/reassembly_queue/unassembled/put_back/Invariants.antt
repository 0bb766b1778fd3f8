use Rattle.std.proofs.Common.{◌≡◌, ◌+◌, ◌≤◌, ◌++◌, length}
use Rattle.std.specs.VecDeque.{deque_capacity}
use Rattle.sctp_reassembly.proofs.reassembly_queue.unassembled.put_back.Given as goal

abbrev pub invariant-loop-fragment : goal.invariant-loop-fragment
invariant-loop-fragment l = record {
  value : l.kept ++ l.chunks.items ≡ l.initial.kept ++ l.initial.chunks.items;
  room : length l.chunks.items + length l.kept ≤ deque_capacity l.chunks;
  capacity : deque_capacity l.initial.chunks ≤ deque_capacity l.chunks;
  turns : l.turns + length l.kept ≡ l.initial.turns + length l.initial.kept;
}

abbrev pub decreases-loop-fragment : goal.decreases-loop-fragment
decreases-loop-fragment l = length l.kept
