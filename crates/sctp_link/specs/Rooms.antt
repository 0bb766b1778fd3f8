-- Room for the numbers of unordered messages that become complete.
use Rattle.std.specs.Prelude.{◌≡◌, ℕ, ◌+◌, ◌<◌, ◌≤◌, Bool, ◌==◌, List, length, slice_index_or}
use Rattle.std.specs.List.{count_by}
use Rattle.std.specs.VecDeque.{deque_len, deque_capacity}
use Rattle.sctp_data.specs.declared.chunk.chunk_payload_data.ChunkPayloadData.{ChunkPayloadData}
use Rattle.sctp_link.specs.declared.progress.StreamProgress.{StreamProgress}

-- a chunk is one of stream s
abbrev pub is_of : ℕ → ChunkPayloadData → Bool
is_of s c = c.stream_identifier == s

-- how many of these chunks are a stream's
abbrev pub chunks_of : StreamProgress → List ChunkPayloadData → ℕ
chunks_of p cs = count_by (is_of p.number) cs

-- each stream has room for as many numbers as these chunks are its own
abbrev pub HasRoom : List ChunkPayloadData → List StreamProgress → Type 0
HasRoom cs ps =
    (k : ℕ) (p : StreamProgress) → k < length ps → p ≡ slice_index_or ps k p
    → deque_len p.complete + chunks_of p cs ≤ deque_capacity p.complete

-- each stream that has one of the chunks cs has counted its own of these
abbrev pub HasCounted : List ChunkPayloadData → List ChunkPayloadData → List StreamProgress → Type 0
HasCounted cs these ps =
    (k : ℕ) (p : StreamProgress) → k < length ps → p ≡ slice_index_or ps k p
    → 0 < chunks_of p cs → p.incoming ≡ chunks_of p these
