use Rattle.std.proofs.Common.{◌≡◌, ◌≤◌, take, drop, vec_len, vec_capacity}
use Rattle.std.specs.VecDeque.{deque_capacity}
use Rattle.sctp_reassembly.proofs.reassembly_queue.unassembled.take_each.Given as goal

abbrev pub invariant-loop-moved : goal.invariant-loop-moved
invariant-loop-moved l = record {
  kept : l.kept.items ≡ take l._moved l.initial.chunks.items;
  rest : l.chunks.items ≡ drop l._moved l.initial.chunks.items;
  room : l.count ≤ vec_capacity l.kept;
  len : vec_len l.kept ≡ l._moved;
  capacity : deque_capacity l.chunks ≡ deque_capacity l.initial.chunks;
}
