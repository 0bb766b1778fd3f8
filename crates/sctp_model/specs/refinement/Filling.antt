-- Which chunks a Send takes from the pending queue: the first, however long, then those that the limit still holds.
use Rattle.std.specs.Prelude.{ℕ, zero, suc, Bool, false, if◌then◌else◌, List, [], ◌∷◌, ◌++◌, length, Option, Some, None, nat_le, ◌+◌}
use Rattle.sctp_data.specs.declared.chunk.chunk_payload_data.ChunkPayloadData.{ChunkPayloadData}
use Rattle.sctp_outbound.specs.pending_queue.PendingQueue.{Pending, next_pending}
use Rattle.sctp_outbound.specs.outbound_queue.OutboundQueue.{taken_of}
use Rattle.sctp_model.specs.Changes.{chunk_length, plus}
use Rattle.sctp_serial.specs.DataChunks.{following_tsn, under_tsn}

-- the chunk, where there is one
abbrev pub leaving : ℕ → Option ChunkPayloadData → List ChunkPayloadData
leaving tsn None = []
leaving tsn (Some c) = under_tsn tsn c ∷ []

-- its length, padding included
abbrev pub length_shown : Option ChunkPayloadData → Option ℕ
length_shown None = None
length_shown (Some c) = Some (chunk_length (length c.user_data))

-- with a chunk of this length the datagram is no longer than the limit
abbrev pub fits_in : ℕ → ℕ → Option ℕ → Bool
fits_in limit used None = false
fits_in limit used (Some more) = nat_le (used + more) limit

-- further chunks, each the next that is shown then, for as long as the next one fits: at most this many
abbrev pub further : ℕ → ℕ → ℕ → ℕ → Pending → List ChunkPayloadData
further zero limit used tsn q = []
further (suc most) limit used tsn q =
    if fits_in limit used (length_shown (next_pending q))
    then leaving tsn (next_pending q)
    ++ further most limit (plus used (length_shown (next_pending q)))
    (following_tsn tsn) (taken_of (next_pending q) q)
    else []

-- the chunks of a datagram, the first under this TSN
abbrev pub chunks_taken : ℕ → ℕ → Pending → List ChunkPayloadData
chunks_taken limit tsn q =
    leaving tsn (next_pending q) ++ further limit limit (plus 12 (length_shown (next_pending q)))
    (following_tsn tsn) (taken_of (next_pending q) q)
