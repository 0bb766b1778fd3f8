use Rattle.sctp_sender.proofs.Names.{◌≡◌, ◌+◌, ◌≤◌, length, take, vec_capacity}
use Rattle.sctp_sender.proofs.sender.flight.order.copied.Given as goal

abbrev pub invariant-loop-block : goal.invariant-loop-block
invariant-loop-block l = record {
  copied : l.copy.items ≡ take l.block-index l.blocks;
  room : length l.blocks ≤ vec_capacity l.copy;
  turns : l.turns ≡ l.initial.turns + l.block-index;
}
