-- What is told of the chunks in flight that a SACK reports anew (RFC 4960 6.2.1).
use Rattle.std.specs.Prelude.{◌≡◌, ℕ, suc, ◌-◌, ◌<◌, ◌≤◌, Bool, true, false, not, ◌&&◌, ◌||◌, ◌==◌, nat_eq, nat_lt, List, length, slice_index_or, Option}
use Rattle.std.specs.List.{list_all, list_any}
use Rattle.sctp_data.specs.declared.chunk.chunk_payload_data.ChunkPayloadData.{ChunkPayloadData}
use Rattle.sctp_data.specs.declared.chunk.chunk_selective_ack.GapAckBlock.{GapAckBlock}
use Rattle.sctp_outbound.specs.payload_queue.Blocks.{is_in_blocks}
use Rattle.sctp_serial.specs.DataChunks.{has_tsn}
use Rattle.sctp_sender.specs.declared.sender.flight.Released.{Released}
use Rattle.sctp_sender.specs.Flight.{is_half}

-- ## Which chunks

-- no message is acknowledged whole
abbrev pub no_message : ℕ → Bool
no_message m = false

-- of the places from one on and before another it picks those whose chunk is not acknowledged
abbrev pub PicksOpen : (ChunkPayloadData → Bool) → ℕ → ℕ → List ChunkPayloadData → Type 0
PicksOpen p from to chunks =
    (k : ℕ) (d : ChunkPayloadData) → from ≤ k → k < to → k < length chunks
    → p (slice_index_or chunks k d) ≡ not (slice_index_or chunks k d).acked

-- the place is one of the first so many, or at a distance behind them that the blocks report
abbrev pub is_reached : ℕ → List GapAckBlock → ℕ → Bool
is_reached count blocks k = nat_lt k count || is_in_blocks blocks (suc k - count)

-- it picks the chunks at those places that are not acknowledged
abbrev pub PicksAnew : (ChunkPayloadData → Bool) → ℕ → List GapAckBlock → List ChunkPayloadData
    → Type 0
PicksAnew p count blocks chunks =
    (k : ℕ) (d : ChunkPayloadData) → k < length chunks
    → p (slice_index_or chunks k d)
    ≡ (not (slice_index_or chunks k d).acked && is_reached count blocks k)

-- it was told of the chunk
abbrev pub is_answered_as : ChunkPayloadData → Released → Bool
is_answered_as c r = has_tsn r.tsn c

abbrev pub is_answered : List Released → ChunkPayloadData → Bool
is_answered rs c = list_any (is_answered_as c) rs

-- it is told of the chunk, as of its message
abbrev pub is_of_chunk : Released → ChunkPayloadData → Bool
is_of_chunk r c = has_tsn r.tsn c && (c.message_id == r.message)

-- each chunk that was told of is in flight
abbrev pub AreInFlight : List Released → List ChunkPayloadData → Type 0
AreInFlight rs chunks = list_all (λ r. list_any (is_of_chunk r) chunks) rs ≡ true

-- ## Which messages

-- abandoned, or not acknowledged
abbrev pub is_open : ChunkPayloadData → Bool
is_open c = c.abandoned || not c.acked

-- the chunk is of the message, and open
abbrev pub is_open_of : ℕ → ChunkPayloadData → Bool
is_open_of m c = nat_eq m c.message_id && is_open c

-- the message is not the one that is partially sent, and no chunk in flight of it is open
abbrev pub is_closed : Option ℕ → List ChunkPayloadData → ℕ → Bool
is_closed partial chunks m = not (is_half partial m) && not (list_any (is_open_of m) chunks)

-- what is told says whether the message is
abbrev pub judged : Option ℕ → List ChunkPayloadData → Released → Released
judged partial chunks r = record r { is_message_acked = is_closed partial chunks r.message }
