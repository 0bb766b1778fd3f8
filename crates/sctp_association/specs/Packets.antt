-- Which chunks a packet has: user data, what is skipped and what is acknowledged are what the sender and the receiver answered.
use Rattle.std.specs.Prelude.{◌≡◌, ⊤, ℕ, Bool, true, false, List, [], ◌∷◌, ◌++◌, Contains, Option, Some}
use Rattle.std.specs.List.{AllByRecursion}
use Rattle.crc32c.specs.Castagnoli.{crc32c_of}
use Rattle.sctp_association.specs.Runs.{ReportsIn, Sends}
use Rattle.sctp_chunks.specs.Wire.{Wire, data_chunk, forward_tsn_chunk}
use Rattle.sctp_chunks.specs.Wire.{i_forward_tsn_chunk, sack_chunk, shutdown_chunk}
use Rattle.sctp_data.specs.SelectiveAck.{Sack}
use Rattle.sctp_delivery.specs.SenderCalls.{Made}
use Rattle.sctp_delivery.specs.SenderCalls as made
use Rattle.sctp_packets.specs.Draft.{IsDraft}
use Rattle.sctp_packets.specs.Packet.{FitsParts, HavePacketEncoding, Parts, packet_encoding}
use Rattle.sctp_receiver.specs.Receiver.{Reception}
use Rattle.sctp_sender.specs.Sender.{Transmission}

-- ## Chunks behind those of a packet that is being written

abbrev pub with_chunks : List Wire → Parts → Parts
with_chunks ws p = record p { chunks = p.chunks ++ ws }

pub record Adds (ws : List Wire) (old new : List ℕ) : Type 0 where
  pub draft : (p : Parts) → IsDraft p old → IsDraft (with_chunks ws p) new

-- the chunk, where it fits
abbrev pub put_where : Bool → Wire → List Wire
put_where true w = w ∷ []
put_where false w = []

-- the chunk is one of those that were put
pub record Stands (old new : List ℕ) (w : Wire) : Type 0 where
  pub before : List Wire
  pub behind : List Wire
  pub added : Adds (before ++ w ∷ behind) old new

-- the checksum that a packet is sealed with, or 0 in its place (RFC 9653 5.2)
abbrev pub sum_of : Bool → List ℕ → ℕ
sum_of true bytes = 0
sum_of false bytes = crc32c_of bytes

-- ## Of whom they are

-- the TSN is the cumulative one of a SACK
pub record IsAcked (sacks : List Sack) (tsn : ℕ) : Type 0 where
  pub sack : Sack
  pub own : Contains sacks sack
  pub cumulative : sack.cumulative_tsn_ack ≡ tsn

-- DATA and FORWARD-TSN are of those that were made, a SACK of those that were reported, and a SHUTDOWN acknowledges as one of these; none is
-- of interleaved messages. What other chunks say stands in Replying and Leaving
abbrev pub IsOf : List Made → List Sack → Wire → Type 0
IsOf ms sacks (data_chunk d) = Contains ms (made.data_chunk d)
IsOf ms sacks (forward_tsn_chunk f) = Contains ms (made.forward_tsn f)
IsOf ms sacks (sack_chunk s) = Contains sacks s
IsOf ms sacks (shutdown_chunk tsn) = IsAcked sacks tsn
IsOf ms sacks (i_forward_tsn_chunk f) = ⊥
IsOf ms sacks _ = ⊤

-- DATA
abbrev pub IsData : Wire → Type 0
IsData (data_chunk d) = ⊤
IsData _ = ⊥

-- DATA; or a FORWARD-TSN, where one was due before, and none is after
abbrev pub IsSkipOnce : (old new : Bool) → Wire → Type 0
IsSkipOnce old new (data_chunk d) = ⊤
IsSkipOnce old new (forward_tsn_chunk f) = (old ≡ true) × (new ≡ false)
IsSkipOnce old new _ = ⊥

-- a SACK, where one waited before, and none waits after
abbrev pub IsSackOnce : (old new : Bool) → Wire → Type 0
IsSackOnce old new (sack_chunk s) = (old ≡ true) × (new ≡ false)
IsSackOnce old new _ = ⊥

-- what of a chunk the sender made: DATA, or a FORWARD-TSN
abbrev pub made_of : Wire → List Made
made_of (data_chunk d) = made.data_chunk d ∷ []
made_of (forward_tsn_chunk f) = made.forward_tsn f ∷ []
made_of _ = []

-- and of several, the last one first
abbrev pub made_in : List Wire → List Made
made_in [] = []
made_in (w ∷ ws) = made_in ws ++ made_of w

-- the halves of an association, and the packet that it writes
pub record Sides : Type 0 where
  pub sender : Transmission
  pub receiver : Option Reception
  pub bytes : List ℕ

abbrev pub sides : Transmission → Option Reception → List ℕ → Sides
sides t r bytes = record { sender = t; receiver = r; bytes = bytes }

-- calls of both halves led from old to new, and the chunks that were put meanwhile are such, and of what these calls answered. Where the packet was
-- begun, what the sender made is put, each once and in order
pub record PutsOf (P : Wire → Type 0) (old new : Sides) : Type 0 where
  pub made : List Made
  pub sacks : List Sack
  pub chunks : List Wire
  pub sent : Sends made old.sender new.sender
  pub reported : ReportsIn sacks old.receiver new.receiver
  pub added : Adds chunks old.bytes new.bytes
  pub own : AllByRecursion (IsOf made sacks) chunks
  pub plain : AllByRecursion P chunks
  pub each : (p : Parts) → IsDraft p old.bytes → made ≡ made_in chunks

-- they are DATA
abbrev pub Puts : Sides → Sides → Type 0
Puts old new = PutsOf IsData old new

-- the same of the sender, whatever the receiver is
abbrev pub PutsOut : Transmission → Transmission → List ℕ → List ℕ → Type 0
PutsOut t u old new = (r : Option Reception) → Puts (sides t r old) (sides u r new)

-- and a FORWARD-TSN may be put
abbrev pub PutsSkip : (due still : Bool) → Transmission → Transmission → List ℕ → List ℕ → Type 0
PutsSkip due still t u old new = (r : Option Reception)
    → PutsOf (IsSkipOnce due still) (sides t r old) (sides u r new)

-- and of the receiver: they are such
abbrev pub PutsIn : (Wire → Type 0) → Reception → Reception → List ℕ → List ℕ → Type 0
PutsIn P r s old new =
    (t : Transmission) → PutsOf P (sides t (Some r) old) (sides t (Some s) new)

-- ## A datagram

-- the bytes are the one encoding of a packet of such chunks
pub record IsPacketOf (P : Wire → Type 0) (bytes : List ℕ) : Type 0 where
  pub packet : Parts
  pub is_zero : Bool
  pub encoded : bytes ≡ packet_encoding (sum_of is_zero) packet
  pub encodings : HavePacketEncoding packet
  pub fits : FitsParts packet
  pub own : AllByRecursion P packet.chunks

-- each is of what these calls answered
abbrev pub IsWritten : List Made → List Sack → List ℕ → Type 0
IsWritten ms sacks bytes = IsPacketOf (IsOf ms sacks) bytes

-- the bytes are a packet, of which the sender made these, the last one first
pub record HasEach (made : List Made) (bytes : List ℕ) : Type 0 where
  pub packet : Parts
  pub is_zero : Bool
  pub encoded : bytes ≡ packet_encoding (sum_of is_zero) packet
  pub encodings : HavePacketEncoding packet
  pub fits : FitsParts packet
  pub each : made_in packet.chunks ≡ made

-- Calls of both halves led from old to new, and where there is a datagram it is a packet of what these calls answered. What the sender made leaves in
-- it, each once and in order; where there is none it made nothing
pub record Transmits (is_sent : Bool) (old new : Sides) : Type 0 where
  pub made : List Made
  pub sacks : List Sack
  pub sent : Sends made old.sender new.sender
  pub reported : ReportsIn sacks old.receiver new.receiver
  pub written : is_sent ≡ true → IsWritten made sacks new.bytes
  pub each : is_sent ≡ true → HasEach made new.bytes
  pub none : is_sent ≡ false → made ≡ []
