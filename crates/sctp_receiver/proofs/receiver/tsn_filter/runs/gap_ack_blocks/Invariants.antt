use Rattle.sctp_receiver.proofs.Names.{◌≡◌, ◌+◌, ◌≤◌, ◌++◌, length, map, drop, min, block_of}
use Rattle.std.specs.Prelude.{vec_capacity}
use Rattle.sctp_receiver.proofs.RunBlocks.{spans}
use Rattle.sctp_receiver.proofs.receiver.tsn_filter.runs.gap_ack_blocks.Given as goal

abbrev pub invariant-loop-place : goal.invariant-loop-place
invariant-loop-place l = record {
  so_far : l.blocks.items ++ map block_of (spans 65536 l.base (drop l.place l.runs.items)) ≡ map block_of (spans 65536 l.base l.runs.items);
  count : length l.blocks.items ≡ l.place;
  within : l.place ≤ l.most;
  room : min l.most (length l.runs.items) ≤ vec_capacity l.blocks;
  turns : l.turns ≡ l.initial.turns + l.place;
}
