-- Reliable sessions: what is taken is held or was read, and in the end each write was read (RFC 4960 6.5, 6.6, 6.9).
use Rattle.std.specs.Prelude.{◌≡◌, ◌≢◌, AllPairs, ℕ, ◌+◌, ◌^◌, ◌<◌, ◌==◌, ◌&&◌, Bool, true, false, not, List, [], ◌∷◌, ◌++◌, length, Contains, Option, Some}
use Rattle.std.specs.Prelude.{None, is_some}
use Rattle.std.specs.List.{filter, list_all, sum_by}
use Rattle.sctp_data.specs.declared.chunk.chunk_payload_data.ChunkPayloadData.{ChunkPayloadData}
use Rattle.sctp_data.specs.ChunkSet.{ChunkSet}
use Rattle.sctp_outbound.specs.pending_queue.PendingQueue.{chunk_count}
use Rattle.sctp_reassembly.specs.reassembly_queue.ReassemblyQueue.{held_chunks, message_read}
use Rattle.sctp_receiver.specs.declared.receiver.inbound_streams.InboundStream.{InboundStream}
use Rattle.sctp_receiver.specs.declared.receiver.limits.Limits.{Limits}
use Rattle.sctp_receiver.specs.Receiver.{Reception, stream_of}
use Rattle.sctp_receiver.specs.ReceiverRuns.{fragments_read}
use Rattle.sctp_sender.specs.Sender.{Transmission}
use Rattle.sctp_serial.specs.DataChunks.{is_on}
use Rattle.sctp_delivery.specs.Messages.{StandAt}
use Rattle.sctp_delivery.specs.ReceiverCalls as incoming
use Rattle.sctp_delivery.specs.ReceiverCalls.{ReceiverCall}
use Rattle.sctp_delivery.specs.Sacks.{tsns_given}
use Rattle.sctp_delivery.specs.SenderCalls as outgoing
use Rattle.sctp_delivery.specs.SenderCalls.{SenderCall}
use Rattle.sctp_delivery.specs.Session.{Call, RunsTo, Session, at_start, of_receiver, of_sender}

-- ## Reliable sessions

-- not one of the calls by which messages are abandoned or expire, or by which a FORWARD-TSN is made (RFC 3758)
abbrev pub is_reliable_at_sender : SenderCall → Bool
is_reliable_at_sender (outgoing.abandons tsn a) = false
is_reliable_at_sender (outgoing.expires now m) = false
is_reliable_at_sender (outgoing.expires_tail now m) = false
is_reliable_at_sender (outgoing.expires_late now gone) = false
is_reliable_at_sender (outgoing.expires_rexmit gone) = false
is_reliable_at_sender (outgoing.forwards tsn f) = false
is_reliable_at_sender (outgoing.forwards_within bytes f) = false
is_reliable_at_sender _ = true

-- not the one by which a FORWARD-TSN is followed
abbrev pub is_reliable_at_receiver : ReceiverCall → Bool
is_reliable_at_receiver (incoming.follows f) = false
is_reliable_at_receiver _ = true

abbrev pub is_reliable : Call → Bool
is_reliable (of_sender call) = is_reliable_at_sender call
is_reliable (of_receiver call) = is_reliable_at_receiver call

-- P of the size of fragments at the start and of the session, after each session of such calls alone that gives out fewer than 2^31
-- TSNs; the first one is a number of 32 bits
abbrev pub AfterEachReliableSession : (ℕ → Session → Type 0) → Type 0
AfterEachReliableSession P =
    (tsn size max most : ℕ) (limits : Option Limits) (calls : List Call) (s : Session)
    (run : RunsTo (at_start tsn size max most limits) calls s) → tsn < 2 ^ 32
    → tsns_given (at_start tsn size max most limits) calls s run < 2 ^ 31
    → list_all is_reliable calls ≡ true → P size s

-- ## What is held

-- the fragments of all these sets
abbrev pub fragments_of_sets : List ChunkSet → List ChunkPayloadData
fragments_of_sets [] = []
fragments_of_sets (set ∷ sets) = set.chunks ++ fragments_of_sets sets

-- the sets of ordered messages, complete or not; the complete unordered messages; and the other unordered fragments
abbrev pub fragments_on : Option InboundStream → List ChunkPayloadData
fragments_on None = []
fragments_on (Some l) =
    fragments_of_sets l.queue.held.ordered
    ++ (fragments_of_sets l.queue.held.unordered ++ l.queue.held.unassembled)

-- all fragments that the receiver holds on a stream
abbrev pub fragments_held : ℕ → Reception → List ChunkPayloadData
fragments_held stream r = fragments_on (stream_of stream r)

-- however chunks are weighed, those that were taken on a stream weigh as much as the fragments that were read there and those that
-- are held there: so each chunk that was taken is held or was read, and none of them twice
abbrev pub IsHeldOrRead : Session → Type 0
IsHeldOrRead s =
    (stream : ℕ) (weight : ChunkPayloadData → ℕ)
    → sum_by weight (filter (is_on stream) s.receiving.accepted)
    ≡ sum_by weight (fragments_read stream s.receiving.read)
    + sum_by weight (fragments_held stream s.receiving.receiver)

-- ## In the end

-- nothing waits to be sent, and nothing is in flight
abbrev pub is_all_acknowledged : Transmission → Bool
is_all_acknowledged t =
    (chunk_count t.flight.queue.pending == 0) && (length t.flight.queue.inflight.chunks == 0)

-- on no stream is anything held
abbrev pub holds_nothing : Reception → Bool
holds_nothing r = list_all (λ l. held_chunks l.queue.held == 0) r.streams

-- both are so
abbrev pub is_settled : Transmission → Reception → Bool
is_settled t r = is_all_acknowledged t && holds_nothing r

-- each message that was read is a write at a place of its own, and each write stands at one of these: each was read exactly once
abbrev pub EachIsReadOnce : Session → Type 0
EachIsReadOnce s =
    (places : List ℕ) × StandAt s.written s.receiving.read places
    × AllPairs (λ p q. p ≢ q) places × ((k : ℕ) → k < length s.written → Contains places k)

-- where that is so, each write was read exactly once
abbrev pub IsAllReadWhereSettled : Session → Type 0
IsAllReadWhereSettled s =
    is_settled s.sending.sender s.receiving.receiver ≡ true → EachIsReadOnce s

-- on no stream is a message to read
abbrev pub reads_nothing : Reception → Bool
reads_nothing r = list_all (λ l. not (is_some (message_read l.queue.held))) r.streams

-- nothing waits to be sent, nothing is in flight, and nothing is to be read
abbrev pub is_exhausted : Transmission → Reception → Bool
is_exhausted t r = is_all_acknowledged t && reads_nothing r

-- then each write was read exactly once
abbrev pub IsAllReadInTheEnd : Session → Type 0
IsAllReadInTheEnd s =
    is_exhausted s.sending.sender s.receiving.receiver ≡ true → EachIsReadOnce s
