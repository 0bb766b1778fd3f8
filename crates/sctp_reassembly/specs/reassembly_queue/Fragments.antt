-- The fragments of one message, and what makes them whole (RFC 4960 3.3.1, 6.5, 6.6).
use Rattle.std.specs.Prelude.{ℕ, remove, Bool, false, ◌&&◌, ◌==◌, not, if◌then◌else◌, Option, Some, None, List, [], ◌∷◌, ◌++◌}
use Rattle.std.specs.List.{list_any}
use Rattle.sctp_util.specs.Serial.{comes_before16}
use Rattle.sctp_util.specs.Lists.{insert_before, change_first}
use Rattle.sctp_data.specs.declared.chunk.chunk_payload_data.ChunkPayloadData.{ChunkPayloadData}
use Rattle.sctp_data.specs.ChunkSet.{ChunkSet}
use Rattle.sctp_serial.specs.DataChunks.{has_tsn, chunk_before, following_tsn}

-- those bytes, one fragment after another
abbrev pub payload_of : List ChunkPayloadData → List ℕ
payload_of [] = []
payload_of (x ∷ xs) = x.user_data ++ payload_of xs

-- ## Complete sets

-- the chunks after x follow one another, and the last ends
abbrev pub completes : ChunkPayloadData → List ChunkPayloadData → Bool
completes x [] = x.ending_fragment
completes x (y ∷ ys) = (y.tsn == following_tsn x.tsn) && completes y ys

-- not empty, the first begins, the last ends, and TSNs rise by one
abbrev pub is_complete : List ChunkPayloadData → Bool
is_complete [] = false
is_complete (x ∷ xs) = x.beginning_fragment && completes x xs

-- ## Putting in

abbrev pub set_before : ChunkSet → ChunkSet → Bool
set_before x y = comes_before16 x.ssn y.ssn

abbrev pub has_ssn : ℕ → ChunkSet → Bool
has_ssn ssn x = x.ssn == ssn

-- x at its place, unless its number is there
abbrev pub with_chunk : ChunkPayloadData → ChunkSet → ChunkSet
with_chunk x set =
    record set {
      chunks = if list_any (has_tsn x.tsn) set.chunks then set.chunks
          else insert_before chunk_before x set.chunks;
    }

-- the set without the chunk at a place
abbrev pub without_chunk : ℕ → ChunkSet → ChunkSet
without_chunk place set = record set { chunks = remove set.chunks place }

-- a set that x alone makes
abbrev pub new_set : ChunkPayloadData → ChunkSet
new_set x = record { ssn = x.stream_sequence_number; ppi = x.payload_type; chunks = x ∷ [] }

-- x in the first set of its number, or in a new set at its place
abbrev pub sets_with : ChunkPayloadData → List ChunkSet → List ChunkSet
sets_with x sets =
    if list_any (has_ssn x.stream_sequence_number) sets
    then change_first (has_ssn x.stream_sequence_number) (with_chunk x) sets
    else insert_before set_before (new_set x) sets

-- the chunks of the first set of this number
abbrev pub chunks_of_ssn : ℕ → List ChunkSet → List ChunkPayloadData
chunks_of_ssn ssn [] = []
chunks_of_ssn ssn (set ∷ sets) = if has_ssn ssn set then set.chunks else chunks_of_ssn ssn sets

-- what putting x in answers: whether the fragments are complete with it, or nothing where its TSN is there
abbrev pub answer_with : ChunkPayloadData → List ChunkPayloadData → Option Bool
answer_with x chunks =
    if list_any (has_tsn x.tsn) chunks then None
    else Some (is_complete (insert_before chunk_before x chunks))

-- whether they became complete by x
abbrev pub is_complete_after : ChunkPayloadData → List ChunkPayloadData → Bool
is_complete_after x chunks =
    not (list_any (has_tsn x.tsn) chunks) && is_complete (insert_before chunk_before x chunks)
