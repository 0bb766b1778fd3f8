-- What was read in the end of a session of every call (RFC 4960 6.2, 6.9), on a stream that goes on.
use Rattle.std.specs.Prelude.{◌≡◌, ◌≢◌, ℕ, ◌+◌, ◌-◌, ◌^◌, ◌<◌, Bool, true, false, not, nat_eq, List, [], ◌∷◌, ◌++◌, length, slice_index_or, AllPairs, Contains}
use Rattle.std.specs.Prelude.{if◌then◌else◌, map}
use Rattle.std.specs.Prelude.{Option}
use Rattle.std.specs.Prelude.{All, ◌⊎◌}
use Rattle.std.specs.List.{filter, list_any, sum_by}
use Rattle.sctp_receiver.specs.Receiver.{filter_of}
use Rattle.sctp_receiver.specs.ReceiverRuns.{fragments_read}
use Rattle.sctp_receiver.specs.TsnFilter.{has_come}
use Rattle.sctp_serial.specs.DataChunks.{has_tsn, is_on}
use Rattle.sctp_data.specs.declared.chunk.chunk_payload_data.ChunkPayloadData.{ChunkPayloadData}
use Rattle.sctp_data.specs.PayloadData.{Data, data_of}
use Rattle.sctp_receiver.specs.ReceiverRuns.{Message}
use Rattle.sctp_sender.specs.Abandonment.{is_pair_of}
use Rattle.sctp_delivery.specs.Complete.{fragments_held, is_all_acknowledged, is_exhausted}
use Rattle.sctp_delivery.specs.Sacks.{was_passed}
use Rattle.sctp_delivery.specs.Abandoned.{abandoned_by}
use Rattle.sctp_delivery.specs.EveryCall.{AnyCall, ReceiverOther, RunsAny, closes_incoming, discards, makes, of_receiving, of_sending, passes_over}
use Rattle.sctp_delivery.specs.EveryCall.{resets_incoming}
use Rattle.sctp_delivery.specs.EveryCall.{single_messages, tsns_given_any, was_dropped}
use Rattle.sctp_delivery.specs.EveryOrder.{is_unbroken, plain_calls}
use Rattle.sctp_delivery.specs.Messages.{StandAt}
use Rattle.sctp_delivery.specs.Modes.{sendings, unknown}
use Rattle.sctp_delivery.specs.Returns.{at_start_with}
use Rattle.sctp_delivery.specs.SenderCalls.{Made, Write, data_chunk, forward_tsn}
use Rattle.sctp_delivery.specs.Session.{Session, bytes_written, of_receiver, of_sender}
use Rattle.sctp_receiver.specs.declared.receiver.limits.Limits.{Limits}
use Rattle.sctp_sender.specs.declared.sender.Reported.{Reported}

-- a FORWARD-TSN that names the stream
abbrev pub is_naming : ℕ → Made → Bool
is_naming s (data_chunk d) = false
is_naming s (forward_tsn f) = list_any (is_pair_of s) f.streams

-- the sender made none
abbrev pub is_unnamed : ℕ → List Made → Bool
is_unnamed s ms = not (list_any (is_naming s) ms)

-- of these messages one was read on the stream, and the chunk is a fragment of it
abbrev pub IsReadOn : ℕ → Data → List Message → Type 0
IsReadOn stream d ms =
    (m : Message) × Contains ms m × (m.stream ≡ stream)
    × (c : ChunkPayloadData) × Contains m.fragments c × (data_of c ≡ d)

-- where nothing waits to be sent, nothing is in flight, and nothing is to be read: on such a stream each ordered DATA chunk that was made was
-- read
abbrev pub IsSentReadInTheEnd : List AnyCall → Session → Type 0
IsSentReadInTheEnd calls s =
    is_exhausted s.sending.sender s.receiving.receiver ≡ true
    → (stream : ℕ) → is_unbroken calls stream ≡ true → is_unnamed stream s.made ≡ true
    → (d : Data) → Contains s.made (data_chunk d) → d.stream_identifier ≡ stream
    → d.unordered ≡ false → IsReadOn stream d s.receiving.read

-- ## Writes

-- the messages that calls abandoned or let expire
abbrev pub abandoned_any : (old : Session) (calls : List AnyCall) (new : Session)
    → RunsAny old calls new → List ℕ
abandoned_any old [] new run = []
abandoned_any old (makes (of_sender call) ∷ cs) new run =
    abandoned_by call old.sending.sender ++ abandoned_any run.0 cs new run.1.1
abandoned_any old (makes (of_receiver call) ∷ cs) new run = abandoned_any run.0 cs new run.1.1
abandoned_any old (of_sending call ∷ cs) new run = abandoned_any run.0 cs new run.1.1
abandoned_any old (of_receiving call ∷ cs) new run = abandoned_any run.0 cs new run.1.1

-- P of these, of the calls and of the session, after each session that gives out fewer than 2^31 TSNs, and in which fewer than 2^64 bytes were
-- written; the first TSN is a number of 32 bits, and fragments have some bytes
abbrev pub AfterEachAnyOfMessages : (List ℕ → List AnyCall → Session → Type 0) → Type 0
AfterEachAnyOfMessages P =
    (reported : Reported) (tsn size max most : ℕ) (limits : Option Limits)
    (calls : List AnyCall) (s : Session)
    → (run : RunsAny (at_start_with reported tsn size max most limits) calls s) → tsn < 2 ^ 32
    → 0 < size
    → tsns_given_any (at_start_with reported tsn size max most limits) calls s run < 2 ^ 31
    → bytes_written s < 2 ^ 64
    → P (abandoned_any (at_start_with reported tsn size max most limits) calls s run) calls s

-- the write at place k is one on the stream, unordered or not, and its message, which has the number length s.written - (k + 1), is none of these
pub record IsLeftOn (unordered : Bool) (stream : ℕ) (gone : List ℕ) (calls : List AnyCall)
    (s : Session) (k : ℕ) : Type 0 where
  pub inside : k < length s.written
  pub on : (w : Write) → (slice_index_or s.written k w).stream ≡ stream
  pub kind : (slice_index_or (sendings (plain_calls calls)) k unknown).mode.unordered
      ≡ unordered
  pub left : list_any (nat_eq (length s.written - (k + 1))) gone ≡ false

-- where nothing waits to be sent, nothing is in flight, and nothing is to be read: each message of which no fragment but the first begins one is a
-- write at a place of its own; and on a stream that goes on, whatever FORWARD-TSNs were made, each ordered write that was not abandoned stands at
-- one of these, so it was read exactly once
abbrev pub IsOrderedReadInTheEnd : List ℕ → List AnyCall → Session → Type 0
IsOrderedReadInTheEnd gone calls s =
    is_exhausted s.sending.sender s.receiving.receiver ≡ true
    → (places : List ℕ) × StandAt s.written (single_messages s.receiving.read) places
    × AllPairs (λ p q. p ≢ q) places
    × ((stream : ℕ) → is_unbroken calls stream ≡ true
    → (k : ℕ) → IsLeftOn false stream gone calls s k → Contains places k)

-- ## Unordered writes

-- the message of a chunk that is in flight and has not come, and that the receiver drops by the call
abbrev pub dropped_by : ReceiverOther → Session → List ℕ
dropped_by (discards c) s =
    if has_come c.tsn (filter_of s.receiving.receiver) then []
    else map (λ d. d.message_id)
    (filter (has_tsn c.tsn) s.sending.sender.flight.queue.inflight.chunks)
dropped_by (closes_incoming stream) s = []
dropped_by (resets_incoming stream last) s = []
dropped_by (passes_over f) s = []

-- the messages of which it dropped a chunk so
abbrev pub dropped_any : (old : Session) (calls : List AnyCall) (new : Session)
    → RunsAny old calls new → List ℕ
dropped_any old [] new run = []
dropped_any old (makes call ∷ cs) new run = dropped_any run.0 cs new run.1.1
dropped_any old (of_sending call ∷ cs) new run = dropped_any run.0 cs new run.1.1
dropped_any old (of_receiving call ∷ cs) new run =
    dropped_by call old ++ dropped_any run.0 cs new run.1.1

-- P of the messages that calls abandoned, let expire, or dropped a chunk of, of the calls and of the session, after each such session
abbrev pub AfterEachAnyOfLost : (List ℕ → List AnyCall → Session → Type 0) → Type 0
AfterEachAnyOfLost P =
    (reported : Reported) (tsn size max most : ℕ) (limits : Option Limits)
    (calls : List AnyCall) (s : Session)
    → (run : RunsAny (at_start_with reported tsn size max most limits) calls s) → tsn < 2 ^ 32
    → 0 < size
    → tsns_given_any (at_start_with reported tsn size max most limits) calls s run < 2 ^ 31
    → bytes_written s < 2 ^ 64
    → P (abandoned_any (at_start_with reported tsn size max most limits) calls s run
    ++ dropped_any (at_start_with reported tsn size max most limits) calls s run) calls s

-- where nothing waits to be sent, nothing is in flight, and nothing is to be read: each message of which no fragment but the first begins one is a
-- write at a place of its own; and on a stream that goes on, whatever FORWARD-TSNs were made, each unordered write that was not lost so stands at
-- one of these, so it was read exactly once
abbrev pub IsUnorderedReadInTheEnd : List ℕ → List AnyCall → Session → Type 0
IsUnorderedReadInTheEnd lost calls s =
    is_exhausted s.sending.sender s.receiving.receiver ≡ true
    → (places : List ℕ) × StandAt s.written (single_messages s.receiving.read) places
    × AllPairs (λ p q. p ≢ q) places
    × ((stream : ℕ) → is_unbroken calls stream ≡ true
    → (k : ℕ) → IsLeftOn true stream lost calls s k → Contains places k)

-- there each unordered DATA chunk that was made on such a stream was read, where no message was lost so
abbrev pub IsUnorderedSentReadInTheEnd : List ℕ → List AnyCall → Session → Type 0
IsUnorderedSentReadInTheEnd lost calls s =
    lost ≡ [] → is_exhausted s.sending.sender s.receiving.receiver ≡ true
    → (stream : ℕ) → is_unbroken calls stream ≡ true
    → (d : Data) → Contains s.made (data_chunk d) → d.stream_identifier ≡ stream
    → d.unordered ≡ true → IsReadOn stream d s.receiving.read

-- ## Unordered chunks

-- on a stream that goes on: however chunks are weighed, where ordered ones weigh nothing, those that were taken there weigh as much as the fragments
-- that were read there, those that are held there, and these, which FORWARD-TSNs pass that were made
abbrev pub IsUnorderedHeldReadOrPassed : List AnyCall → Session → Type 0
IsUnorderedHeldReadOrPassed calls s =
    (stream : ℕ) → is_unbroken calls stream ≡ true → (dropped : List ChunkPayloadData)
    × All (λ c. was_passed c.tsn s ≡ true) dropped
    × ((weight : ChunkPayloadData → ℕ)
    → ((c : ChunkPayloadData) → c.unordered ≡ false → weight c ≡ 0)
    → sum_by weight (filter (is_on stream) s.receiving.accepted)
    ≡ sum_by weight (fragments_read stream s.receiving.read)
    + sum_by weight (fragments_held stream s.receiving.receiver) + sum_by weight dropped)

-- where nothing waits to be sent, and nothing is in flight: on a stream that goes on each unordered DATA chunk that was made was read, or is held,
-- unless the receiver dropped it, or a FORWARD-TSN passes it
abbrev pub IsUnorderedReadOrHeld : List AnyCall → Session → Type 0
IsUnorderedReadOrHeld calls s =
    is_all_acknowledged s.sending.sender ≡ true
    → (stream : ℕ) → is_unbroken calls stream ≡ true
    → (d : Data) → Contains s.made (data_chunk d) → d.stream_identifier ≡ stream
    → d.unordered ≡ true → was_dropped calls d.tsn ≡ false → was_passed d.tsn s ≡ false
    → IsReadOn stream d s.receiving.read
    ⊎ (list_any (has_tsn d.tsn) (fragments_held stream s.receiving.receiver) ≡ true)
