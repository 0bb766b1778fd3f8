use Rattle.std.proofs.Common.{arith}
use Rattle.std.proofs.lemmas.List.Sorted.{IsNonDecreasingBy-from_all_adjacent}
use Rattle.sctp_data.specs.declared.chunk.chunk_selective_ack.GapAckBlock.{GapAckBlock}
use Rattle.sctp_follow.proofs.blocks.ascend.Goals as goal

pub returns : goal.returns
returns c _ = record {
  starts = IsNonDecreasingBy-from_all_adjacent (λ (b : GapAckBlock). b.start) c.args.blocks.now (λ k d h. c.loop-place.invariant.starts k d (omega arith));
  ends = IsNonDecreasingBy-from_all_adjacent (λ (b : GapAckBlock). b.end) c.args.blocks.now (λ k d h. c.loop-place.invariant.ends k d (omega arith));
}
