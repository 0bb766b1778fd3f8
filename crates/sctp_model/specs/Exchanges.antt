-- What a sender and a receiver can count on in each exchange: laws of every history, in words that no event's definition uses.
use Rattle.std.specs.Prelude.{◌≡◌, ℕ, ◌+◌, ◌*◌, ◌^◌, ◌<◌, ◌≤◌, ◌%◌, Bool, true, false, ◌==◌, if◌then◌else◌, List, [], ◌∷◌, length, map, slice_get, All, Some}
use Rattle.std.specs.Prelude.{None}
use Rattle.sctp_data.specs.declared.chunk.chunk_payload_data.ChunkPayloadData.{ChunkPayloadData}
use Rattle.sctp_data.specs.declared.chunk.chunk_payload_data.PayloadProtocolIdentifier.{PayloadProtocolIdentifier}
use Rattle.sctp_util.specs.Kept.{numbers_from}
use Rattle.sctp_model.specs.declared.event.Event.TheVariants as E
use Rattle.sctp_model.specs.Reply as R
use Rattle.sctp_model.specs.LinkRecord.{Setup, Data, Forward, LinkRecord}
use Rattle.sctp_model.specs.Messages.{message_at, message_of, slot_at, slots_of, sent_of, fragment_count, is_unsent, place_of}
use Rattle.sctp_model.specs.Contents.{chunk_at}
use Rattle.sctp_model.specs.Laws.{is_ordered, is_unordered, sent_before, blocks_by}
use Rattle.sctp_model.specs.Log
use Rattle.sctp_model.specs.Steps.{History, after, refusal_of, reply_to}

-- ## What DATA chunks say (RFC 4960 3.3.1)

-- the DATA chunks of message n that have TSNs, in their order
abbrev pub chunks_of : LinkRecord → ℕ → List ChunkPayloadData
chunks_of w n = map (chunk_at w) (slots_of w n)

-- of so many places, the one with this number alone
abbrev pub alone : ℕ → ℕ → List Bool
alone place count = map (λ i. i == place) (numbers_from 0 count)

-- the first fragment alone begins the message, and the last one alone ends it
abbrev pub BeginAndEnd : Setup → History → LinkRecord → List Log.LogEntry → Type 0
BeginAndEnd setup h w log =
    (n last : ℕ) → n < length w.messages → fragment_count w n ≡ last + 1
    → (map (λ c. c.beginning_fragment) (chunks_of w n) ≡ alone 0 (sent_of w n))
    × (map (λ c. c.ending_fragment) (chunks_of w n) ≡ alone last (sent_of w n))

-- the stream sequence number of a message that was sent: how many ordered ones of its stream were sent before an ordered one, or were
-- written before an unordered one; modulo 2^16 (RFC 4960 6.5)
abbrev pub number_of : LinkRecord → ℕ → ℕ
number_of w n =
    (if is_ordered w n then length (sent_before w n) else (message_at w n).before) % 2 ^ 16

-- the chunk says of what message it is
abbrev pub SaysMessage : LinkRecord → ℕ → ChunkPayloadData → Type 0
SaysMessage w n c =
    (c.stream_identifier ≡ (message_at w n).stream) × ((c.unordered ≡ is_unordered w n)
    × ((c.payload_type ≡ (message_at w n).ppi) × (c.stream_sequence_number ≡ number_of w n)))

-- each chunk says its message's stream, order, payload type and stream sequence number
abbrev pub ChunksSayMessages : Setup → History → LinkRecord → List Log.LogEntry → Type 0
ChunksSayMessages setup h w log = (n : ℕ) → All (SaysMessage w n) (chunks_of w n)

-- the user data of a message all of which was sent join to what was written
abbrev pub ChunksJoin : Setup → History → LinkRecord → List Log.LogEntry → Type 0
ChunksJoin setup h w log =
    (n : ℕ) → n < length w.messages → sent_of w n ≡ fragment_count w n
    → Log.joined_bytes (chunks_of w n) ≡ (message_at w n).bytes

-- ## What goes first, and what goes again (RFC 4960 6.1; RFC 3758 3.5)

-- an ordered message is begun only where no unordered one waits
abbrev pub UnorderedGoFirst : Setup → History → LinkRecord → List Log.LogEntry → Type 0
UnorderedGoFirst setup h w log =
    (now d tsn ssn count n m : ℕ) → reply_to w (E.Send now) ≡ R.Sent d tsn ssn count
    → message_of (after w (E.Send now)) (length w.slots) ≡ n → is_ordered w n ≡ true
    → sent_of w n ≡ 0 → m < length w.messages → is_unordered w m ≡ true → is_unsent w m ≡ false

-- what is sent again was sent, no SACK that was taken reports it, and its message was not abandoned
abbrev pub OutstandingGoAgain : Setup → History → LinkRecord → List Log.LogEntry → Type 0
OutstandingGoAgain setup h w log =
    (tsn : ℕ) → refusal_of w (E.Resend tsn) ≡ None
    → (place_of w tsn < length w.slots)
    × ((Log.is_acknowledged_in setup h (place_of w tsn) ≡ false)
    × ((message_at w (message_of w (place_of w tsn))).abandoned ≡ false))

-- ## What a SACK acknowledges (RFC 4960 6.2.1)

-- the record once a SACK is made, and comes at once
abbrev pub acknowledged : LinkRecord → ℕ → LinkRecord
acknowledged w credit = after (after w (E.Ack credit)) (E.Acked (length w.network))

-- a SACK acknowledges all that was seen from the first TSN on without a break
abbrev pub AcknowledgesSeen : Setup → History → LinkRecord → List Log.LogEntry → Type 0
AcknowledgesSeen setup h w log =
    (credit place : ℕ) → place < Log.seen_count log (length w.slots)
    → ((slot_at (acknowledged w credit) place).acknowledged ≡ true)
    × (place < (acknowledged w credit).taken)

-- beyond that it acknowledges all that came within 65,535 TSNs, unless its blocks are used up
abbrev pub AcknowledgesArrived : Setup → History → LinkRecord → List Log.LogEntry → Type 0
AcknowledgesArrived setup h w log =
    (credit place : ℕ) → place < length w.slots → Log.arrived_new log place ≡ true
    → place < Log.seen_count log (length w.slots) + 65535 → length (blocks_by w log) < 16379
    → (slot_at (acknowledged w credit) place).acknowledged ≡ true

-- ## What replies tell

-- a Write tells how many messages were written before it, and how many fragments its own has
abbrev pub WriteIsAnswered : Setup → History → LinkRecord → List Log.LogEntry → Type 0
WriteIsAnswered setup h w log =
    (s byte : ℕ) (ppi : PayloadProtocolIdentifier) (bytes : List ℕ)
    → reply_to w (E.Write s ppi (byte ∷ bytes)) ≡ R.Wrote (Some (length (Log.writes_in h)))
    (fragment_count (after w (E.Write s ppi (byte ∷ bytes))) (length (Log.writes_in h)))

-- a Send tells the TSN and the stream sequence number of its first chunk
abbrev pub SendIsAnswered : Setup → History → LinkRecord → List Log.LogEntry → Type 0
SendIsAnswered setup h w log =
    (now d tsn ssn count : ℕ) → reply_to w (E.Send now) ≡ R.Sent d tsn ssn count
    → ((chunk_at (after w (E.Send now)) (length w.slots)).tsn ≡ tsn)
    × ((chunk_at (after w (E.Send now)) (length w.slots)).stream_sequence_number ≡ ssn)

-- a Resend tells its datagram, which has that chunk alone
abbrev pub ResendIsAnswered : Setup → History → LinkRecord → List Log.LogEntry → Type 0
ResendIsAnswered setup h w log =
    (tsn d : ℕ) → reply_to w (E.Resend tsn) ≡ R.Resent d
    → slice_get (after w (E.Resend tsn)).network d ≡ Some (Data (place_of w tsn ∷ []))

-- ## What is bounded

-- a message is no longer than the greatest, and has a byte
abbrev pub MessagesAreBounded : Setup → History → LinkRecord → List Log.LogEntry → Type 0
MessagesAreBounded setup h w log =
    (n : ℕ) → n < length w.messages
    → (0 < length (message_at w n).bytes) × (length (message_at w n).bytes ≤ setup.largest)

-- a FORWARD-TSN has no more names than its chunk has room for (RFC 3758 3.2)
abbrev pub NamesAreBounded : Setup → History → LinkRecord → List Log.LogEntry → Type 0
NamesAreBounded setup h w log =
    (k upto : ℕ) (names : List ℕ) → slice_get w.network k ≡ Some (Forward upto names)
    → 8 + 4 * length names ≤ 65535
