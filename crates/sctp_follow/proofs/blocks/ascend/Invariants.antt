use Rattle.std.proofs.Common.{◌≤◌}
use Rattle.std.specs.List.{AllAdjacentBelow}
use Rattle.sctp_data.specs.declared.chunk.chunk_selective_ack.GapAckBlock.{GapAckBlock}
use Rattle.sctp_follow.proofs.blocks.ascend.Given as goal

abbrev pub invariant-loop-place : goal.invariant-loop-place
invariant-loop-place l = record {
  starts : AllAdjacentBelow (λ (x y : GapAckBlock). x.start ≤ y.start) l.blocks l.place;
  ends : AllAdjacentBelow (λ (x y : GapAckBlock). x.end ≤ y.end) l.blocks l.place;
}
