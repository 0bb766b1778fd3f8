use Rattle.sctp_sender.proofs.Names.{◌≡◌, ◌+◌, drop, deque_capacity}
use Rattle.sctp_sender.proofs.sender.flight.anew.drop_front.Given as goal

abbrev pub invariant-loop-left : goal.invariant-loop-left
invariant-loop-left l = record {
  rest : drop l.left l.kept.items ≡ drop l.initial.left l.initial.kept.items;
  turns : l.turns + l.left ≡ l.initial.turns + l.initial.left;
  capacity : deque_capacity l.kept ≡ deque_capacity l.initial.kept;
}

abbrev pub decreases-loop-left : goal.decreases-loop-left
decreases-loop-left l = l.left
