-- What is read is what was written, while no TSN is given out twice (RFC 4960 3.3.1, 6.9).
use Rattle.std.specs.Prelude.{◌≡◌, ◌≢◌, AllPairs, length, slice_index_or, ℕ, ◌^◌, ◌<◌, true, List, [], ◌∷◌, ◌++◌, All, Contains, Option}
use Rattle.sctp_data.specs.declared.chunk.chunk_payload_data.ChunkPayloadData.{ChunkPayloadData}
use Rattle.sctp_data.specs.PayloadData.{Data}
use Rattle.sctp_reassembly.specs.reassembly_queue.Fragments.{payload_of}
use Rattle.sctp_receiver.specs.declared.receiver.limits.Limits.{Limits}
use Rattle.sctp_receiver.specs.Receiver.{Reception}
use Rattle.sctp_receiver.specs.ReceiverRuns.{Message}
use Rattle.sctp_delivery.specs.Sacks.{are_apart, tsns_given}
use Rattle.sctp_delivery.specs.SenderCalls.{Write, data_chunk}
use Rattle.sctp_delivery.specs.Session.{Call, RunsTo, Session, at_start}

-- ## Sessions

-- P after each session of two hosts whose first TSN is a number of 32 bits, and whose fragments have some bytes
abbrev pub AfterEachFitSession : (Session → Type 0) → Type 0
AfterEachFitSession P =
    (tsn size max most : ℕ) (limits : Option Limits) (calls : List Call) (s : Session)
    → tsn < 2 ^ 32 → 0 < size → RunsTo (at_start tsn size max most limits) calls s → P s

-- P after each of these in which fewer than 2^32 TSNs were given out, so that none was given out twice
abbrev pub WhileTsnsLast : (Session → Type 0) → Type 0
WhileTsnsLast P =
    (tsn size max most : ℕ) (limits : Option Limits) (calls : List Call) (s : Session)
    → tsn < 2 ^ 32 → 0 < size → (r : RunsTo (at_start tsn size max most limits) calls s)
    → tsns_given (at_start tsn size max most limits) calls s r < 2 ^ 32 → P s

-- P after each of these in which fewer than 2^31 TSNs were given out
abbrev pub WhileFewTsns : (Session → Type 0) → Type 0
WhileFewTsns P =
    (tsn size max most : ℕ) (limits : Option Limits) (calls : List Call) (s : Session)
    → tsn < 2 ^ 32 → 0 < size → (r : RunsTo (at_start tsn size max most limits) calls s)
    → tsns_given (at_start tsn size max most limits) calls s r < 2 ^ 31 → P s

-- ## DATA chunks

-- the chunk is on the stream of the write, has its payload type, and its user data are some of its bytes, one behind another
pub record IsPart (d : Data) (w : Write) : Type 0 where
  pub stream : d.stream_identifier ≡ w.stream
  pub payload_type : d.payload_type ≡ w.payload_type
  pub bytes : (before : List ℕ) × (after : List ℕ) × (w.bytes ≡ before ++ (d.user_data ++ after))

-- each DATA chunk that the sender made is a part of a write
abbrev pub AreParts : Session → Type 0
AreParts s =
    (d : Data) → Contains s.made (data_chunk d)
    → (w : Write) × Contains s.written w × IsPart d w

-- two DATA chunks that the sender made under one TSN are the same
abbrev pub AreSame : Session → Type 0
AreSame s =
    (d e : Data) → Contains s.made (data_chunk d) → Contains s.made (data_chunk e)
    → d.tsn ≡ e.tsn → d ≡ e

-- ## Messages

-- the message is this write: it was read on the stream, each fragment says its payload type, and together they have its bytes
pub record IsWrite (m : Message) (w : Write) : Type 0 where
  pub stream : m.stream ≡ w.stream
  pub payload_type : All (λ c. c.payload_type ≡ w.payload_type) m.fragments
  pub bytes : payload_of m.fragments ≡ w.bytes

-- each message that was read is a write
abbrev pub AreWrites : Session → Type 0
AreWrites s = All (λ m. (w : Write) × Contains s.written w × IsWrite m w) s.receiving.read

-- the fragments of all these messages
abbrev pub fragments_of_all : List Message → List ChunkPayloadData
fragments_of_all [] = []
fragments_of_all (m ∷ ms) = m.fragments ++ fragments_of_all ms

-- no two fragments of all messages that were read have the same TSN: so none is read twice
abbrev pub NoneIsReadTwice : Session → Type 0
NoneIsReadTwice s = are_apart (fragments_of_all s.receiving.read) ≡ true

-- where the receiver of the session is this one: these fragments, read on a stream, are a write
abbrev pub IsReadIn : Reception → ℕ → List ChunkPayloadData → Session → Type 0
IsReadIn r stream cs s =
    s.receiving.receiver ≡ r
    → (w : Write) × Contains s.written w × IsWrite (record { stream = stream; fragments = cs }) w

-- each of these messages is the write at its place
abbrev pub StandAt : List Write → List Message → List ℕ → Type 0
StandAt ws [] [] = Unit {0}
StandAt ws [] (p ∷ ps) = ⊥
StandAt ws (m ∷ ms) [] = ⊥
StandAt ws (m ∷ ms) (p ∷ ps) =
    ((p < length ws) × ((w : Write) → IsWrite m (slice_index_or ws p w))) × StandAt ws ms ps

-- each message that was read is a write at a place of its own: so no write is read twice
abbrev pub AreWritesOfTheirOwn : Session → Type 0
AreWritesOfTheirOwn s =
    (places : List ℕ) × StandAt s.written s.receiving.read places
    × AllPairs (λ p q. p ≢ q) places
