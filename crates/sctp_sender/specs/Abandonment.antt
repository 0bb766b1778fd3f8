-- Messages that are abandoned, and the FORWARD-TSN that says so (RFC 3758 3.5).
use Rattle.std.specs.Prelude.{◌≡◌, ℕ, ◌+◌, ◌-◌, ◌*◌, ◌<◌, ◌≤◌, Bool, true, false, length, map, get_or, slice_index_or, ◌==◌, ◌&&◌, not, nat_lt, nat_le, take}
use Rattle.std.specs.Prelude.{if◌then◌else◌, List, [], ◌∷◌, Option, Some, None, option_map, unwrap_or}
use Rattle.std.specs.List.{find, filter}
use Rattle.sctp_util.specs.Serial.{distance}
use Rattle.sctp_data.specs.declared.chunk.chunk_payload_data.ChunkPayloadData.{ChunkPayloadData}
use Rattle.sctp_data.specs.declared.chunk.chunk_forward_tsn.ChunkForwardTsnStream.{ChunkForwardTsnStream}
use Rattle.sctp_outbound.specs.pending_queue.PendingQueue.{last_of}
use Rattle.sctp_outbound.specs.pending_queue.Whole.{ends}
use Rattle.sctp_serial.specs.Window.{is_held}
use Rattle.sctp_sender.specs.declared.sender.refusal.SenderRefusal.{SenderRefusal}
use Rattle.sctp_sender.specs.declared.sender.refusal.SenderRefusal.TheVariants.{NotInFlight, TsnsUsedUp}
use Rattle.sctp_sender.specs.Flight.{Flight, has_tail_at, may_send}
use Rattle.sctp_serial.specs.DataChunks.{has_tsn, preceding_tsn, is_on}

-- why the message of a TSN is not abandoned: the TSN is not in flight, or its terminal chunk would need one TSN too many
abbrev pub abandon_refusal : ℕ → Flight → Option SenderRefusal
abandon_refusal tsn f =
    if not (is_held f.queue.inflight.chunks tsn) then Some NotInFlight else (
    if has_tail_at f tsn && not (may_send f) then Some TsnsUsedUp else None
    )

-- ## FORWARD-TSN

-- its message is not abandoned
abbrev pub is_kept : ChunkPayloadData → Bool
is_kept c = not c.abandoned

-- the TSN before the first in flight whose message is not abandoned; where there is none, the last that was given out
abbrev pub advanced_ack_point : Flight → ℕ
advanced_ack_point f =
    preceding_tsn (unwrap_or (option_map (λ c. c.tsn)
    (find is_kept f.queue.inflight.chunks)) f.next_tsn)

-- how far a TSN is past the acknowledged one
abbrev pub ahead : Flight → ℕ → ℕ
ahead f tsn = distance f.acked_tsn tsn

-- a FORWARD-TSN can go there: past what is acknowledged, and no farther than to the advanced point
abbrev pub can_skip_to : ℕ → Flight → Bool
can_skip_to tsn f = nat_lt 0 (ahead f tsn) && nat_le (ahead f tsn) (ahead f (advanced_ack_point f))

-- an ordered chunk of a message that is abandoned
abbrev pub is_named : ChunkPayloadData → Bool
is_named c = c.abandoned && not c.unordered

-- those of the chunks in flight up to a TSN
abbrev pub named_up_to : ℕ → Flight → List ChunkPayloadData
named_up_to tsn f = filter is_named (take (ahead f tsn) f.queue.inflight.chunks)

-- it is there, and ends its message
abbrev pub ends_in : Option ChunkPayloadData → Bool
ends_in None = false
ends_in (Some c) = c.ending_fragment

-- a FORWARD-TSN can go there, and the chunk there ends a message
abbrev pub is_end : ℕ → Flight → Bool
is_end tsn f = can_skip_to tsn f && ends_in (find (has_tsn tsn) f.queue.inflight.chunks)

-- the last of the chunks in flight up to a TSN that ends its message
abbrev pub last_end : ℕ → Flight → Option ChunkPayloadData
last_end tsn f = last_of (filter ends (take (ahead f tsn) f.queue.inflight.chunks))

-- where a FORWARD-TSN up to a TSN goes: to the last TSN up to there at which a message ends; nowhere where one can't go to the TSN
abbrev pub skip_end : ℕ → Flight → Option ℕ
skip_end tsn f = if can_skip_to tsn f then option_map (λ c. c.tsn) (last_end tsn f) else None

-- of the first `count` chunks the last that ends a message has the place before `end`; `end` is 0 where none does
pub record IsLastEnd (end count : ℕ) (chunks : List ChunkPayloadData) : Type 0 where
  pub within : end ≤ count
  pub ended : 0 < end → (d : ChunkPayloadData)
      → ends (slice_index_or chunks (end - 1) d) ≡ true
  pub last : (k : ℕ) (d : ChunkPayloadData) → end < k → k ≤ count
      → ends (slice_index_or chunks (k - 1) d) ≡ false

abbrev pub is_pair_of : ℕ → ChunkForwardTsnStream → Bool
is_pair_of s p = p.identifier == s

abbrev pub streams_of : List ChunkForwardTsnStream → List ℕ
streams_of pairs = map (λ p. p.identifier) pairs

abbrev pub pair_of : ChunkPayloadData → ChunkForwardTsnStream
pair_of c = record { identifier = c.stream_identifier; sequence = c.stream_sequence_number }

abbrev pub pairs_of : Option ChunkPayloadData → List ChunkForwardTsnStream
pairs_of None = []
pairs_of (Some c) = pair_of c ∷ []

-- of each stream there is one pair, with the number of the last of these chunks on it; none where there is no such chunk
abbrev pub Name : List ChunkForwardTsnStream → List ChunkPayloadData → Type 0
Name pairs cs = (s : ℕ) → filter (is_pair_of s) pairs ≡ pairs_of (last_of (filter (is_on s) cs))

-- the pairs that name these chunks are more than so many
abbrev pub IsMore : ℕ → List ChunkPayloadData → Type 0
IsMore room cs =
    (pairs : List ChunkForwardTsnStream) × (Name pairs cs) × (room < length pairs)

-- a chunk to the TSN, of 8 bytes and 4 a pair, is longer than so many bytes
abbrev pub IsTooLong : ℕ → ℕ → Flight → Type 0
IsTooLong bytes tsn f =
    (pairs : List ChunkForwardTsnStream) × (Name pairs (named_up_to tsn f))
    × (bytes < 8 + 4 * length pairs)

-- a chunk to the TSN is at most so many bytes long
abbrev pub Fit : ℕ → ℕ → Flight → Type 0
Fit bytes tsn f =
    (pairs : List ChunkForwardTsnStream) → Name pairs (named_up_to tsn f)
    → 8 + 4 * length pairs ≤ bytes

-- none of the first so many pairs is of the stream
abbrev pub IsNoPair : ℕ → List ChunkForwardTsnStream → ℕ → Type 0
IsNoPair s pairs count =
    (k : ℕ) (d : ChunkForwardTsnStream) → k < count → is_pair_of s (get_or pairs k d) ≡ false

-- the first pair of the stream stands there
pub record IsFirstPair (s : ℕ) (pairs : List ChunkForwardTsnStream) (k : ℕ) : Type 0 where
  pub inside : k < length pairs
  pub here : (d : ChunkForwardTsnStream) → is_pair_of s (get_or pairs k d) ≡ true
  pub before : IsNoPair s pairs k
