use Rattle.sctp_sender.proofs.Names.{◌≡◌, ◌+◌, ◌≤◌, ◌^◌, drop, max, after_blocks}
use Rattle.sctp_sender.proofs.sender.flight.reports.after_blocks.Given as goal

abbrev pub invariant-loop-block : goal.invariant-loop-block
invariant-loop-block l = record {
  so_far : max l.after (after_blocks (drop l.block-index l.blocks)) ≡ after_blocks l.blocks;
  small : l.after ≤ 2 ^ 16;
  turns : l.turns ≡ l.initial.turns + l.block-index;
}
