-- What gap ack blocks report (RFC 4960 3.3.4).
use Rattle.std.specs.Prelude.{◌≡◌, ◌≢◌, ℕ, ◌+◌, ◌%◌, ◌^◌, ◌<◌, ◌≤◌, Bool, false, ◌&&◌, nat_le, nat_lt, ◌==◌, List, [], ◌∷◌, ◌++◌, map, length, min, ◌-◌}
use Rattle.std.specs.Prelude.{slice_index_or}
use Rattle.std.specs.Prelude.{codes}
use Rattle.std.specs.Fmt.{decimal}
use Rattle.std.specs.List.{All, AllPairs, list_any, filter}
use Rattle.sctp_data.specs.declared.chunk.chunk_payload_data.ChunkPayloadData.{ChunkPayloadData}
use Rattle.sctp_data.specs.declared.chunk.chunk_selective_ack.GapAckBlock.{GapAckBlock}
use Rattle.sctp_util.specs.Serial.{distance}
use Rattle.sctp_serial.specs.Runs.{IsRising}
use Rattle.sctp_outbound.specs.declared.payload_queue.blocks.Run.{Run}

-- each block is a run, and ends more than one before each later one begins
pub record BlocksAscend (blocks : List GapAckBlock) : Type 0 where
  pub runs : All (λ b. b.start ≤ b.end) blocks
  pub apart : AllPairs (λ a b. a.end + 1 < b.start) blocks

abbrev pub is_in_block : ℕ → GapAckBlock → Bool
is_in_block n b = nat_le b.start n && nat_le n b.end

-- whether the distance lies in a block
abbrev pub is_in_blocks : List GapAckBlock → ℕ → Bool
is_in_blocks blocks n = list_any (is_in_block n) blocks

-- a distance that a block can hold
abbrev pub is_offset : ℕ → Bool
is_offset n = nat_lt 0 n && nat_lt n (2 ^ 16)

-- whether the chunk is at the distance n, from 1 to 65,535, after the cumulative TSN
abbrev pub is_reported : ℕ → ℕ → ChunkPayloadData → Bool
is_reported cumulative n c = is_offset n && (n == distance cumulative c.tsn)

-- the blocks ascend and never touch, and have exactly the distances from 1 to 65,535 at which a chunk is held
pub record Reports (cumulative : ℕ) (chunks : List ChunkPayloadData)
    (blocks : List GapAckBlock) : Type 0 where
  pub ascend : BlocksAscend blocks
  pub exact : (n : ℕ) → is_in_blocks blocks n ≡ list_any (is_reported cumulative n) chunks

-- the distances from 1 to 65,535 of the chunks after the cumulative TSN
abbrev pub gap_offsets : ℕ → List ChunkPayloadData → List ℕ
gap_offsets cumulative chunks = filter is_offset (map (λ c. distance cumulative c.tsn) chunks)

-- a block as its two ends
abbrev pub ends_of : GapAckBlock → ℕ × ℕ
ends_of b = (b.start, b.end)

-- from the place on, each chunk lies after the cumulative TSN, and farther than the one before
pub record AscendsFrom (cumulative : ℕ) (chunks : List ChunkPayloadData) (place : ℕ) : Type 0 where
  pub after : (k : ℕ) (d : ChunkPayloadData) → place ≤ k → k < length chunks → 0
      < distance cumulative (slice_index_or chunks k d).tsn
  pub farther : (i j : ℕ) (d : ChunkPayloadData) → place ≤ i → i < j → j < length chunks
      → distance cumulative (slice_index_or chunks i d).tsn
      < distance cumulative (slice_index_or chunks j d).tsn

-- the chunks after the cumulative TSN begin at the place, and no block can hold one before it
pub record IsFirstAfter (cumulative : ℕ) (chunks : List ChunkPayloadData) (place : ℕ) : Type 0 where
  pub in_range : place ≤ length chunks
  pub before : (k : ℕ) (d : ChunkPayloadData) → k < place
      → is_offset (distance cumulative (slice_index_or chunks k d).tsn) ≡ false
  pub ascends : AscendsFrom cumulative chunks place

-- of the places before the end, TSNs rise by one from the first to the last, and no farther
pub record IsRunUntil (chunks : List ChunkPayloadData) (end first last : ℕ) : Type 0 where
  pub from : first ≤ last
  pub to : last < end
  pub rising : IsRising chunks first last
  pub stops : last + 1 < end → (d : ChunkPayloadData)
      → (slice_index_or chunks (last + 1) d).tsn ≢ ((slice_index_or chunks last d).tsn + 1) % 2 ^ 32

-- how far the chunk at a place lies after the cumulative TSN; 0 past the last
abbrev pub offset_at : ℕ → List ChunkPayloadData → ℕ → ℕ
offset_at cumulative chunks place =
    distance cumulative (slice_index_or (map (λ c. c.tsn) chunks) place cumulative)

-- the chunk at the place lies at a distance that a block can hold
pub record IsAtOffset (cumulative : ℕ) (chunks : List ChunkPayloadData) (place offset : ℕ) : Type 0
  where
    pub in_range : place < length chunks
    pub positive : 0 < offset
    pub small : offset < 2 ^ 16
    pub here : offset ≡ offset_at cumulative chunks place

-- the run from the place on, as far as a block can hold it, and what is told of the chunk behind it
pub record IsRunFrom (cumulative : ℕ) (chunks : List ChunkPayloadData) (place offset : ℕ) (run : Run)
    : Type 0 where
  pub some : place < run.next
  pub rises : IsRunUntil chunks (place + min (length chunks - place) (2 ^ 16 - offset))
      place (run.next - 1)
  pub ends : run.end ≡ offset + (run.next - 1 - place)
  pub goes_on : run.behind ≡ offset_at cumulative chunks run.next

-- runs as text, a comma before each: `,2-3,5-5`
abbrev pub runs_text : List (ℕ × ℕ) → List ℕ
runs_text [] = []
runs_text (b ∷ bs) = codes "," ++ decimal b.0 ++ codes "-" ++ decimal b.1 ++ runs_text bs

-- the cumulative TSN and the runs as text: `cumTSN=10,2-3,5-5`
abbrev pub gap_text : ℕ → List (ℕ × ℕ) → List ℕ
gap_text cumulative runs = codes "cumTSN=" ++ decimal cumulative ++ runs_text runs
