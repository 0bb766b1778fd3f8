-- A receiver that is read refuses nothing that an honest sender still needs taken (RFC 4960 6.2, 6.6; RFC 3758 3.6).
use Rattle.std.specs.Prelude.{◌≡◌, ◌⊎◌, ℕ, ◌^◌, ◌<◌, ◌≤◌, Bool, false, true, not, ◌&&◌, ◌||◌, List, Contains, None, is_some}
use Rattle.std.specs.List.{list_all}
use Rattle.sctp_data.specs.declared.chunk.chunk_payload_data.ChunkPayloadData.{ChunkPayloadData}
use Rattle.sctp_data.specs.ForwardTsn.{ForwardTsn}
use Rattle.sctp_data.specs.PayloadData.{data_of}
use Rattle.sctp_receiver.specs.Receiver.{Reception, arrival_refusal, is_open, message_on}
use Rattle.sctp_receiver.specs.Skips.{skip_refusal}
use Rattle.sctp_sender.specs.Sender.{Transmission}
use Rattle.sctp_delivery.specs.Complete.{reads_nothing}
use Rattle.sctp_delivery.specs.Sacks.{tsns_given}
use Rattle.sctp_delivery.specs.SenderCalls.{IsAccepted, data_chunk, forwards, forwards_within}
use Rattle.sctp_delivery.specs.Session.{Call, RunsTo, Session, at_start}

-- P after each session of fewer than 2^31 TSNs whose receiver has no limits; the first TSN is a number of 32 bits, and fragments have
-- some bytes
abbrev pub AfterEachUnlimitedSession : (Session → Type 0) → Type 0
AfterEachUnlimitedSession P =
    (tsn size max most : ℕ) (calls : List Call) (s : Session) → tsn < 2 ^ 32 → 0 < size
    → (run : RunsTo (at_start tsn size max most None) calls s)
    → tsns_given (at_start tsn size max most None) calls s run < 2 ^ 31 → P s

-- on the stream is no message to read
abbrev pub reads_nothing_on : ℕ → Reception → Bool
reads_nothing_on stream r = not (is_some (message_on stream r))

-- an unordered chunk, or one on whose stream nothing is to be read
abbrev pub is_due_on : ChunkPayloadData → Reception → Bool
is_due_on c r = c.unordered || reads_nothing_on c.stream_identifier r

-- the chunk has the wire fields of the other one, or the sender made it under the same TSN
abbrev pub IsCopy : ChunkPayloadData → ChunkPayloadData → Session → Type 0
IsCopy x c s =
    (data_of x ≡ data_of c) ⊎ ((x.tsn ≡ c.tsn) × Contains s.made (data_chunk (data_of x)))

-- it is so of a chunk in flight, acknowledged or not, whose message is not abandoned
pub record IsInFlight (x : ChunkPayloadData) (s : Session) : Type 0 where
  pub chunk : ChunkPayloadData
  pub sent : Contains s.sending.sender.flight.queue.inflight.chunks chunk
  pub kept : chunk.abandoned ≡ false
  pub same : IsCopy x chunk s

-- its stream is open, and it is unordered, or nothing is to be read there
abbrev pub is_takable : ChunkPayloadData → Reception → Bool
is_takable x r = is_open x.stream_identifier r && is_due_on x r

-- where the receiver takes messages as long as the sender writes, no such chunk is refused
abbrev pub NoneInFlightIsRefused : Session → Type 0
NoneInFlightIsRefused s =
    s.sending.sender.max_message_size ≤ s.receiving.receiver.max_message_size
    → (x : ChunkPayloadData) → IsInFlight x s → is_takable x s.receiving.receiver ≡ true
    → arrival_refusal x s.receiving.receiver ≡ None

-- and where nothing is to be read on any stream, none on one that is open
abbrev pub NoneIsRefusedWhereRead : Session → Type 0
NoneIsRefusedWhereRead s =
    s.sending.sender.max_message_size ≤ s.receiving.receiver.max_message_size
    → reads_nothing s.receiving.receiver ≡ true
    → (x : ChunkPayloadData) → IsInFlight x s
    → is_open x.stream_identifier s.receiving.receiver ≡ true
    → arrival_refusal x s.receiving.receiver ≡ None

-- ## FORWARD-TSN

-- the sender may make it now
abbrev pub MayMake : ForwardTsn → Transmission → Type 0
MayMake f t =
    ((tsn : ℕ) × IsAccepted (forwards tsn f) t)
    ⊎ ((bytes : ℕ) × IsAccepted (forwards_within bytes f) t)

-- each stream that it names is open, and nothing is to be read there
abbrev pub is_due_named : ForwardTsn → Reception → Bool
is_due_named f r =
    list_all (λ n. is_open n.identifier r && reads_nothing_on n.identifier r) f.streams

-- none that may be made now is refused where that is so
abbrev pub NoneMadeIsRefused : Session → Type 0
NoneMadeIsRefused s =
    (f : ForwardTsn) → MayMake f s.sending.sender → is_due_named f s.receiving.receiver ≡ true
    → skip_refusal f s.receiving.receiver ≡ None

-- ## Where the sender keeps what gap ack blocks report

-- it is so of a chunk in flight whose message is not abandoned: it has the wire fields of one that is not acknowledged, or was made
-- under the TSN of any. One that is acknowledged has no user data, and no call sends it
pub record IsInFlightSo (x : ChunkPayloadData) (s : Session) : Type 0 where
  pub chunk : ChunkPayloadData
  pub sent : Contains s.sending.sender.flight.queue.inflight.chunks chunk
  pub kept : chunk.abandoned ≡ false
  pub same : ((chunk.acked ≡ false) × (data_of x ≡ data_of chunk))
      ⊎ ((x.tsn ≡ chunk.tsn) × Contains s.made (data_chunk (data_of x)))

-- where the receiver has no limits, and takes messages as long as the sender writes, no such chunk is refused
abbrev pub NoneInFlightIsRefusedSo : Session → Type 0
NoneInFlightIsRefusedSo s =
    s.receiving.receiver.limits ≡ None
    → s.sending.sender.max_message_size ≤ s.receiving.receiver.max_message_size
    → (x : ChunkPayloadData) → IsInFlightSo x s → is_takable x s.receiving.receiver ≡ true
    → arrival_refusal x s.receiving.receiver ≡ None

-- and where nothing is to be read on any stream, none on one that is open
abbrev pub NoneIsRefusedWhereReadSo : Session → Type 0
NoneIsRefusedWhereReadSo s =
    s.receiving.receiver.limits ≡ None
    → s.sending.sender.max_message_size ≤ s.receiving.receiver.max_message_size
    → reads_nothing s.receiving.receiver ≡ true
    → (x : ChunkPayloadData) → IsInFlightSo x s
    → is_open x.stream_identifier s.receiving.receiver ≡ true
    → arrival_refusal x s.receiving.receiver ≡ None
