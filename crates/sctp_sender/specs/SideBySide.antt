-- The chunks of each message stand side by side in flight.
use Rattle.std.specs.Prelude.{◌≡◌, ◌≢◌, ℕ, ◌<◌, ◌≤◌, Bool, true, ◌==◌, List, [], ◌∷◌, ◌++◌, length, map, slice_index_or, Option, Some, None}
use Rattle.std.specs.List.{list_any}
use Rattle.sctp_data.specs.declared.chunk.chunk_payload_data.ChunkPayloadData.{ChunkPayloadData}
use Rattle.sctp_outbound.specs.outbound_queue.OutboundQueue.{Outbound}
use Rattle.sctp_outbound.specs.pending_queue.Whole.{partially_sent}

abbrev pub is_number : ℕ → ℕ → Bool
is_number m n = n == m

-- equal numbers stand side by side
abbrev pub StandSideBySide : List ℕ → Type 0
StandSideBySide [] = Unit {0}
StandSideBySide (m ∷ []) = Unit {0}
StandSideBySide (m ∷ n ∷ ms) =
    (list_any (is_number m) (n ∷ ms) ≡ true → n ≡ m) × StandSideBySide (n ∷ ms)

-- the messages of the chunks, one by one
abbrev pub messages_of : List ChunkPayloadData → List ℕ
messages_of chunks = map (λ c. c.message_id) chunks

abbrev pub number_of_half : Option ℕ → List ℕ
number_of_half None = []
number_of_half (Some m) = m ∷ []

-- those of what is in flight, and behind them the one that is partially sent
abbrev pub messages_in_line : Outbound → List ℕ
messages_in_line q =
    messages_of q.inflight.chunks ++ number_of_half (partially_sent q.pending)

-- no chunk before the place is of the message of one from there on
abbrev pub IsApartAt : ℕ → List ChunkPayloadData → Type 0
IsApartAt place chunks =
    (i j : ℕ) (d : ChunkPayloadData) → i < place → place ≤ j → j < length chunks
    → (slice_index_or chunks i d).message_id ≢ (slice_index_or chunks j d).message_id
