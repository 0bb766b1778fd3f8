-- How long the message of a chunk would be with it.
use Rattle.std.specs.Prelude.{ℕ, ◌+◌, not, ◌==◌, if◌then◌else◌, List, [], ◌∷◌, length, reverse}
use Rattle.std.specs.List.{list_any}
use Rattle.sctp_util.specs.Lists.{after_leading}
use Rattle.sctp_data.specs.declared.chunk.chunk_payload_data.ChunkPayloadData.{ChunkPayloadData}
use Rattle.sctp_data.specs.ChunkSet.{ChunkSet}
use Rattle.sctp_reassembly.specs.reassembly_queue.Fragments.{chunks_of_ssn}
use Rattle.sctp_serial.specs.DataChunks.{bytes_of, has_tsn, following_tsn, preceding_tsn}

-- the bytes of neighbours, from back to front, while TSNs go down by one from this one, stopping after one that begins
abbrev pub bytes_down : ℕ → List ChunkPayloadData → ℕ
bytes_down tsn [] = 0
bytes_down tsn (y ∷ ys) =
    if y.tsn == preceding_tsn tsn then length y.user_data
    + (if y.beginning_fragment then 0 else bytes_down y.tsn ys) else 0

-- the bytes of neighbours while TSNs go up by one from this one, stopping after one that ends
abbrev pub bytes_up : ℕ → List ChunkPayloadData → ℕ
bytes_up tsn [] = 0
bytes_up tsn (y ∷ ys) =
    if y.tsn == following_tsn tsn then length y.user_data
    + (if y.ending_fragment then 0 else bytes_up y.tsn ys) else 0

-- from the last fragment of this TSN to the front
abbrev pub back_from : ℕ → List ChunkPayloadData → List ChunkPayloadData
back_from tsn xs = after_leading (λ y. not (has_tsn tsn y)) (reverse xs)

-- from the last fragment of this TSN to the end
abbrev pub on_from : ℕ → List ChunkPayloadData → List ChunkPayloadData
on_from tsn [] = []
on_from tsn (y ∷ ys) =
    if list_any (has_tsn tsn) ys then on_from tsn ys else (if has_tsn tsn y then y ∷ ys else [])

abbrev pub size_before : ChunkPayloadData → List ChunkPayloadData → ℕ
size_before x unassembled =
    if x.beginning_fragment then 0 else bytes_down x.tsn
    (back_from (preceding_tsn x.tsn) unassembled)

abbrev pub size_after : ChunkPayloadData → List ChunkPayloadData → ℕ
size_after x unassembled =
    if x.ending_fragment then 0 else bytes_up x.tsn (on_from (following_tsn x.tsn) unassembled)

-- with the fragments of its set, or with the unassembled neighbours that belong to its message
abbrev pub projected_size : ChunkPayloadData → List ChunkSet → List ChunkPayloadData → ℕ
projected_size x ordered unassembled =
    if x.unordered then size_before x unassembled + length x.user_data + size_after x unassembled
    else bytes_of (chunks_of_ssn x.stream_sequence_number ordered) + length x.user_data
