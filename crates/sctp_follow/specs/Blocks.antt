-- Gap ack blocks that are looked through by halving.
use Rattle.std.specs.Prelude.{◌≡◌, ℕ, List}
use Rattle.std.specs.List.{list_any}
use Rattle.std.specs.List.Sorted.{IsNonDecreasingBy}
use Rattle.sctp_data.specs.declared.chunk.chunk_selective_ack.GapAckBlock.{GapAckBlock}
use Rattle.sctp_data.specs.declared.chunk.chunk_selective_ack.ChunkSelectiveAck.{ChunkSelectiveAck}
use Rattle.sctp_follow.specs.Outstanding.{is_in_block}

-- neither their starts nor their ends fall, as of those that a receiver makes (RFC 9260 3.3.4)
pub record Ascend (blocks : List GapAckBlock) : Type 0 where
  pub starts : IsNonDecreasingBy (λ b. b.start) blocks
  pub ends : IsNonDecreasingBy (λ b. b.end) blocks

-- the same TSNs are in both
abbrev pub HaveTheSame : List GapAckBlock → List GapAckBlock → Type 0
HaveTheSame one other =
    (offset : ℕ) → list_any (is_in_block offset) one ≡ list_any (is_in_block offset) other

-- these blocks have the TSNs of a SACK's own, and ascend
pub record AreFor (sack : ChunkSelectiveAck) (blocks : List GapAckBlock) : Type 0 where
  pub ascend : Ascend blocks
  pub same : HaveTheSame blocks sack.gap_ack_blocks.items
