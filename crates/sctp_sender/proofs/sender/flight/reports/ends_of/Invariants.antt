use Rattle.sctp_sender.proofs.Names.{◌≡◌, ◌+◌, ◌≤◌, ◌^◌, length, take, after_blocks, HasEnds}
use Rattle.sctp_sender.proofs.sender.flight.reports.ends_of.Given as goal

abbrev pub invariant-loop-block : goal.invariant-loop-block
invariant-loop-block l = record {
  count : length l.ends.items ≡ after_blocks l.blocks;
  small : length l.ends.items ≤ 2 ^ 16;
  ends : HasEnds l.ends.items (take l.block-index l.blocks);
  turns : l.turns ≡ l.initial.turns + l.block-index;
}
