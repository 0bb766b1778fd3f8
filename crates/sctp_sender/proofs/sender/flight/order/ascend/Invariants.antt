use Rattle.sctp_sender.proofs.Names.{◌≡◌, ◌+◌, drop, ascends_from}
use Rattle.sctp_sender.proofs.sender.flight.order.ascend.Given as goal

abbrev pub invariant-loop-block : goal.invariant-loop-block
invariant-loop-block l = record {
  rest : ascends_from 0 l.blocks ≡ ascends_from l.last (drop l.block-index l.blocks);
  turns : l.turns ≡ l.initial.turns + l.block-index;
}
