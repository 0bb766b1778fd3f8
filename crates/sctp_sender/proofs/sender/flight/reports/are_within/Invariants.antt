use Rattle.sctp_sender.proofs.Names.{◌≡◌, ◌+◌, drop, list_all, is_within}
use Rattle.sctp_sender.proofs.sender.flight.reports.are_within.Given as goal

abbrev pub invariant-loop-block : goal.invariant-loop-block
invariant-loop-block l = record {
  rest : list_all (is_within l.left) l.blocks ≡ list_all (is_within l.left) (drop l.block-index l.blocks);
  turns : l.turns ≡ l.initial.turns + l.block-index;
}
