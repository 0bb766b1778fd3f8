-- Which distances past its cumulative TSN the gap ack blocks of a SACK report (RFC 4960 3.3.4).
use Rattle.std.specs.Prelude.{◌≡◌, ℕ, suc, ◌+◌, ◌<◌, ◌≤◌, Bool, true, false, ◌&&◌, ◌==◌, nat_le, nat_lt, if◌then◌else◌, List, [], ◌∷◌, max, map, slice_index_or}
use Rattle.std.specs.List.{list_any}
use Rattle.sctp_data.specs.declared.chunk.chunk_payload_data.ChunkPayloadData.{ChunkPayloadData}
use Rattle.sctp_data.specs.declared.chunk.chunk_selective_ack.GapAckBlock.{GapAckBlock}
use Rattle.sctp_outbound.specs.payload_queue.Blocks.{is_in_blocks}

-- one more than the last distance that the block reports, 0 where it reports none
abbrev pub after_block : GapAckBlock → ℕ
after_block b = if nat_lt b.end b.start then 0 else b.end + 1

-- one more than the greatest distance that a block reports, 0 where none reports any
abbrev pub after_blocks : List GapAckBlock → ℕ
after_blocks [] = 0
after_blocks (b ∷ bs) = max (after_block b) (after_blocks bs)

-- the block begins at the first distance, and goes on to the second or beyond
abbrev pub goes_from_to : ℕ → ℕ → GapAckBlock → Bool
goes_from_to first last b = (b.start == first) && nat_le last b.end

-- at each distance stands one more than the greatest end of the blocks that begin there, 0 where none does
abbrev pub HasEnds : List ℕ → List GapAckBlock → Type 0
HasEnds ends blocks =
    (first last : ℕ) → first ≤ last → nat_lt last (slice_index_or ends first 0)
    ≡ list_any (goes_from_to first last) blocks

-- a distance is marked exactly where a block reports it
abbrev pub Marks : List Bool → List GapAckBlock → Type 0
Marks marks blocks = (n : ℕ) → slice_index_or marks n false ≡ is_in_blocks blocks n

-- each block reports something, and begins behind the one before it, the first behind the distance
abbrev pub ascends_from : ℕ → List GapAckBlock → Bool
ascends_from last [] = true
ascends_from last (b ∷ bs) =
    (nat_lt last b.start && nat_le b.start b.end) && ascends_from b.end bs

-- the blocks ascend, and report the same distances from 1 on as the others
pub record AreSorted (sorted blocks : List GapAckBlock) : Type 0 where
  pub ascend : ascends_from 0 sorted ≡ true
  pub same : (n : ℕ) → 0 < n → is_in_blocks sorted n ≡ is_in_blocks blocks n

-- the chunk in flight at each distance that the blocks report is acknowledged
abbrev pub AreKnown : List GapAckBlock → List ChunkPayloadData → Type 0
AreKnown blocks chunks =
    (k : ℕ) → is_in_blocks blocks (suc k) ≡ true
    → slice_index_or (map (λ c. c.acked) chunks) k false ≡ true
