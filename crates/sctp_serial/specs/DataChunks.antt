-- Words on DATA chunks that every queue shares.
use Rattle.std.specs.Prelude.{ℕ, ◌+◌, ◌-◌, ◌%◌, ◌^◌, ◌==◌, Bool, List, length, map}
use Rattle.std.specs.List.{sum_by}
use Rattle.sctp_data.specs.declared.chunk.chunk_payload_data.ChunkPayloadData.{ChunkPayloadData}
use Rattle.sctp_util.specs.Serial.{comes_before}

-- the chunk with this TSN
abbrev pub has_tsn : ℕ → ChunkPayloadData → Bool
has_tsn tsn c = c.tsn == tsn

-- a chunk of this stream
abbrev pub is_on : ℕ → ChunkPayloadData → Bool
is_on stream c = c.stream_identifier == stream

-- the chunk under this TSN
abbrev pub under_tsn : ℕ → ChunkPayloadData → ChunkPayloadData
under_tsn tsn c = record c { tsn = tsn }

abbrev pub tsns : List ChunkPayloadData → List ℕ
tsns chunks = map (λ c. c.tsn) chunks

-- the TSN after this one, modulo 2^32 (RFC 4960 3.3.1)
abbrev pub following_tsn : ℕ → ℕ
following_tsn tsn = (tsn + 1) % 2 ^ 32

-- the TSN before this one
abbrev pub preceding_tsn : ℕ → ℕ
preceding_tsn tsn = (tsn + (2 ^ 32 - 1)) % 2 ^ 32

-- the order of chunks in a queue: by TSN
abbrev pub chunk_before : ChunkPayloadData → ChunkPayloadData → Bool
chunk_before x y = comes_before x.tsn y.tsn

-- how many bytes of user data the chunks carry
abbrev pub bytes_of : List ChunkPayloadData → ℕ
bytes_of chunks = sum_by (λ c. length c.user_data) chunks
