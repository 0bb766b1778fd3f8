use Rattle.sctp_sender.proofs.Names.{◌≡◌, ◌+◌, ◌-◌, length, deque_capacity, filled}
use Rattle.std.specs.VecDeque.{deque_len}
use Rattle.sctp_sender.proofs.sender.flight.anew.fill.Given as goal

abbrev pub invariant-loop-turns : goal.invariant-loop-turns
invariant-loop-turns l = record {
  goes_on : filled l.places l.kept.items ≡ filled l.places l.initial.kept.items;
  turns : l.turns + length l.initial.kept.items ≡ l.initial.turns + length l.kept.items;
  capacity : deque_capacity l.kept ≡ deque_capacity l.initial.kept;
}

abbrev pub decreases-loop-turns : goal.decreases-loop-turns
decreases-loop-turns l = l.places - deque_len l.kept
