-- SACK: what arrived (RFC 4960 3.3.4).
use Rattle.std.specs.Prelude.{◌≡◌, ℕ, ◌+◌, ◌*◌, ◌≤◌, List, ◌++◌, length}
use Rattle.std.specs.List.{flat_map}
use Rattle.sctp_util.specs.Each.{each}
use Rattle.sctp_util.specs.Field.{be16, be32, u16_at, u32_at}
use Rattle.sctp_data.specs.declared.chunk.chunk_selective_ack.GapAckBlock.{GapAckBlock}
use Rattle.sctp_data.specs.declared.chunk.chunk_selective_ack.ChunkSelectiveAck.{ChunkSelectiveAck}

-- the wire part of a SACK
pub record Sack : Type 0 where
  pub cumulative_tsn_ack : ℕ
  pub advertised_receiver_window_credit : ℕ
  pub gap_ack_blocks : List GapAckBlock
  pub duplicate_tsn : List ℕ

abbrev pub sack_of : ChunkSelectiveAck → Sack
sack_of c = record {
  cumulative_tsn_ack = c.cumulative_tsn_ack;
  advertised_receiver_window_credit = c.advertised_receiver_window_credit;
  gap_ack_blocks = c.gap_ack_blocks.items;
  duplicate_tsn = c.duplicate_tsn.items;
}

abbrev pub block_at : List ℕ → ℕ → GapAckBlock
block_at value at = record { start = u16_at value at; end = u16_at value (at + 2) }

abbrev pub blocks_in : List ℕ → ℕ
blocks_in value = u16_at value 8

abbrev pub duplicates_in : List ℕ → ℕ
duplicates_in value = u16_at value 10

-- what a value says: the two lists stand one behind the other
abbrev pub sack_in : List ℕ → Sack
sack_in value = record {
  cumulative_tsn_ack = u32_at value 0;
  advertised_receiver_window_credit = u32_at value 4;
  gap_ack_blocks = each (blocks_in value) (λ i. block_at value (12 + 4 * i));
  duplicate_tsn = each (duplicates_in value) (λ i. u32_at value (12 + 4 * blocks_in value + 4 * i));
}

-- further bytes are ignored
pub record ReadsSack (value : List ℕ) (s : Sack) : Type 0 where
  pub headed : 12 ≤ length value
  pub long : 12 + 4 * blocks_in value + 4 * duplicates_in value ≤ length value
  pub fields : s ≡ sack_in value

abbrev pub block_encoding : GapAckBlock → List ℕ
block_encoding b = be16 b.start ++ be16 b.end

unfoldable pub sack_value : Sack → List ℕ
sack_value s =
    be32 s.cumulative_tsn_ack ++ be32 s.advertised_receiver_window_credit
    ++ be16 (length s.gap_ack_blocks) ++ be16 (length s.duplicate_tsn)
    ++ flat_map block_encoding s.gap_ack_blocks ++ flat_map be32 s.duplicate_tsn
