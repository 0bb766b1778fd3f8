-- What is read of a SACK that may be cut off, or of an NR-SACK.
use Rattle.std.specs.Prelude.{◌≡◌, ℕ, ◌+◌, ◌-◌, ◌*◌, ◌/◌, Bool, ◌&&◌, ◌||◌, leb, if◌then◌else◌, List, length, ◌==◌, min}
use Rattle.sctp_util.specs.Each.{each}
use Rattle.sctp_util.specs.Field.{u16_at, u32_at}
use Rattle.sctp_chunks.specs.Framing.{type_at}
use Rattle.sctp_data.specs.SelectiveAck.{block_at}
use Rattle.sctp_data.specs.declared.chunk.chunk_selective_ack.ChunkSelectiveAck.{ChunkSelectiveAck}

-- a SACK (RFC 9260 3.3.4, type 3) or an NR-SACK (type 16), as far as its window
abbrev pub is_sack : List ℕ → Bool
is_sack bytes = leb 12 (length bytes) && ((type_at bytes == 3) || (type_at bytes == 16))

-- where its blocks begin
abbrev pub first_block : List ℕ → ℕ
first_block bytes = if type_at bytes == 3 then 16 else 20

-- how many it says: an NR-SACK has a second list, of TSNs that its receiver will not drop, right behind the first
abbrev pub said_blocks : List ℕ → ℕ
said_blocks bytes = u16_at bytes 12 + (if type_at bytes == 3 then 0 else u16_at bytes 14)

-- how many duplicate TSNs it says
abbrev pub said_duplicates : List ℕ → ℕ
said_duplicates bytes = u16_at bytes (if type_at bytes == 3 then 14 else 16)

-- all that stands before its blocks is there
abbrev pub has_counts : List ℕ → Bool
has_counts bytes = is_sack bytes && leb (first_block bytes) (length bytes)

-- how many of its blocks are there
abbrev pub block_count : List ℕ → ℕ
block_count bytes = min (said_blocks bytes) ((length bytes - first_block bytes) / 4)

-- its cumulative TSN, its window, and the blocks that are there
pub record IsReadOf (bytes : List ℕ) (sack : ChunkSelectiveAck) : Type 0 where
  pub cumulative : sack.cumulative_tsn_ack ≡ u32_at bytes 4
  pub credit : sack.advertised_receiver_window_credit ≡ u32_at bytes 8
  pub blocks : sack.gap_ack_blocks.items ≡ each (block_count bytes) (λ i. block_at bytes (first_block bytes + 4 * i))
