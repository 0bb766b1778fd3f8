use Rattle.std.proofs.Common.{◌≡◌, drop}
use Rattle.std.specs.VecDeque.{deque_capacity}
use Rattle.sctp_reassembly.proofs.reassembly_queue.unassembled.Loose.drop_front_counted.Given as goal

abbrev pub invariant-loop-gone : goal.invariant-loop-gone
invariant-loop-gone l = record {
  rest : l.self-inside.chunks.items ≡ drop l._gone l.initial.self-inside.chunks.items;
  counted : l.self-inside.n_bytes ≡ l.initial.self-inside.n_bytes;
  serial : l.self-inside.serial ≡ l.initial.self-inside.serial;
  places : l.self-inside.places ≡ l.initial.self-inside.places;
  capacity : deque_capacity l.self-inside.chunks ≡ deque_capacity l.initial.self-inside.chunks;
}
