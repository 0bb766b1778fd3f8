-- How far apart the numbers of ordered messages in flight are (RFC 4960 6.5, 6.6; RFC 1982).
use Rattle.std.specs.Prelude.{◌≡◌, ℕ, ◌+◌, ◌-◌, ◌%◌, ◌^◌, ◌<◌, ◌⊎◌, Bool, true, not, ◌&&◌, nat_le, if◌then◌else◌, List, [], ◌∷◌, ◌++◌, length, Option, Some}
use Rattle.std.specs.Prelude.{None, is_some}
use Rattle.std.specs.List.{filter, find}
use Rattle.sctp_data.specs.declared.chunk.chunk_payload_data.ChunkPayloadData.{ChunkPayloadData}
use Rattle.sctp_outbound.specs.pending_queue.PendingQueue.{next_pending}
use Rattle.sctp_serial.specs.DataChunks.{is_on}
use Rattle.sctp_sender.specs.Flight.{Flight, may_send}
use Rattle.sctp_sender.specs.declared.sender.refusal.SenderRefusal.{SenderRefusal}
use Rattle.sctp_sender.specs.declared.sender.refusal.SenderRefusal.TheVariants.{SsnsUsedUp, TsnsUsedUp}

-- an ordered chunk of the stream
abbrev pub is_ordered_on : ℕ → ChunkPayloadData → Bool
is_ordered_on stream c = is_on stream c && not c.unordered

-- the first ordered chunk of a stream in flight, be it acknowledged, abandoned or terminal
abbrev pub first_ordered : ℕ → Flight → Option ChunkPayloadData
first_ordered stream f = find (is_ordered_on stream) f.queue.inflight.chunks

-- how far a chunk's stream sequence number is past that of another, modulo 2^16; 0 where there is no other
abbrev pub past_number : Option ChunkPayloadData → ChunkPayloadData → ℕ
past_number None c = 0
past_number (Some first) c =
    (c.stream_sequence_number + (2 ^ 16 - first.stream_sequence_number)) % 2 ^ 16

-- the first fragment of an ordered message
abbrev pub begins_ordered : ChunkPayloadData → Bool
begins_ordered c = c.beginning_fragment && not c.unordered

-- it begins an ordered message whose number is 2^14 or more past that of the first ordered chunk of its stream in flight; as
-- each message from that chunk's on has a chunk in flight, 2^14 or more are in flight then
abbrev pub is_too_far : Flight → ChunkPayloadData → Bool
is_too_far f c =
    begins_ordered c && (nat_le (2 ^ 14) (length f.queue.inflight.chunks)
    && nat_le (2 ^ 14) (past_number (first_ordered c.stream_identifier f) c))

-- each of these has the number of the one before it, or the next one, modulo 2^16; the first comes after the number n
abbrev pub StepFrom : ℕ → List ChunkPayloadData → Type 0
StepFrom n [] = Unit {0}
StepFrom n (c ∷ cs) =
    ((c.stream_sequence_number ≡ n) ⊎ (c.stream_sequence_number ≡ (n + 1) % 2 ^ 16))
    × StepFrom c.stream_sequence_number cs

abbrev pub Step : List ChunkPayloadData → Type 0
Step [] = Unit {0}
Step (c ∷ cs) = (c.stream_sequence_number < 2 ^ 16) × StepFrom c.stream_sequence_number cs

-- behind the ordered chunks of its stream in flight it has the number of the last, or the next one, and so have they
abbrev pub IsInTurn : Flight → ChunkPayloadData → Type 0
IsInTurn f c = Step (filter (is_ordered_on c.stream_identifier) f.queue.inflight.chunks ++ c ∷ [])

-- where numbers were given in turn, the distance of the numbers alone tells whether an ordered message is too far
abbrev pub NumbersTell : Type 0
NumbersTell =
    (f : Flight) (c : ChunkPayloadData) → IsInTurn f c → begins_ordered c ≡ true
    → is_too_far f c ≡ nat_le (2 ^ 14) (past_number (first_ordered c.stream_identifier f) c)

-- why the fragment that is next is not sent
abbrev pub refusal_of : Option ChunkPayloadData → Flight → Option SenderRefusal
refusal_of None f = None
refusal_of (Some c) f =
    if not (may_send f) then Some TsnsUsedUp else (if is_too_far f c then Some SsnsUsedUp else None)

abbrev pub send_refusal : Flight → Option SenderRefusal
send_refusal f = refusal_of (next_pending f.queue.pending) f

-- and why not, however far its number goes
abbrev pub tsn_refusal : Flight → Option SenderRefusal
tsn_refusal f =
    if may_send f then None
    else (if is_some (next_pending f.queue.pending) then Some TsnsUsedUp else None)
