-- What a datagram carries: the chunks that its reading gives, each as it is read (RFC 9260 3, 3.2).
use Rattle.std.specs.Prelude.{ℕ, List, Contains, drop}
use Rattle.std.specs.List.{AllByRecursion, AllZip}
use Rattle.sctp_chunks.specs.Fits.{Canonical}
use Rattle.sctp_chunks.specs.Wire.{Wire, heartbeat_ack_chunk, heartbeat_chunk, init_chunk, reconfig_chunk}
use Rattle.sctp_datagram.specs.Framing.{StartsWith}
use Rattle.sctp_datagram.specs.Places.{TellsAll, place_at}
use Rattle.sctp_datagram.specs.declared.datagram.ChunkPlace.{ChunkPlace}
use Rattle.sctp_packets.specs.Packet.{FitsParts, HavePacketEncoding, IsCanonical, Parts, packet_encoding}

-- it is one of the chunks up to the end, or up to the first one that stops the reading
pub record IsChunkOf (datagram : List ℕ) (c : ChunkPlace) : Type 0 where
  pub chunks : List ChunkPlace
  pub tells : TellsAll place_at datagram chunks
  pub own : Contains chunks c

-- one of its chunks is read so
pub record Carries (datagram : List ℕ) (w : Wire) : Type 0 where
  pub place : ChunkPlace
  pub own : IsChunkOf datagram place
  pub reads : StartsWith (drop place.at datagram) w

-- ## What a packet that is written carries

-- of the kinds of which each chunk reads back as it was put. In the other four a parameter may stand that does not
abbrev pub IsPlain : Wire → Type 0
IsPlain (init_chunk i) = ⊥
IsPlain (heartbeat_chunk ps) = ⊥
IsPlain (heartbeat_ack_chunk ps) = ⊥
IsPlain (reconfig_chunk r) = ⊥
IsPlain _ = Unit {0}

-- no reader refuses the packet for it: of what is read whole with the packet, a HEARTBEAT and its ACK alone may not read back
abbrev pub IsPassed : Wire → Type 0
IsPassed (heartbeat_chunk ps) = Canonical (heartbeat_chunk ps)
IsPassed (heartbeat_ack_chunk ps) = Canonical (heartbeat_ack_chunk ps)
IsPassed _ = Unit {0}

-- it holds of each packet that has an encoding, and of its bytes under any checksum
abbrev pub OfEachWritten : (Parts → List ℕ → Type 0) → Type 0
OfEachWritten P =
    (sum : List ℕ → ℕ) (p : Parts) → FitsParts p → HavePacketEncoding p → P p (packet_encoding sum p)

-- what is carried was put
abbrev pub AddsNoPlain : Parts → List ℕ → Type 0
AddsNoPlain p datagram = (w : Wire) → IsPlain w → Carries datagram w → Contains p.chunks w

-- the same of all kinds, where each chunk reads back
abbrev pub AddsNone : Parts → List ℕ → Type 0
AddsNone p datagram = IsCanonical p → (w : Wire) → Carries datagram w → Contains p.chunks w

-- what was put and reads back is carried
abbrev pub CarriesEach : Parts → List ℕ → Type 0
CarriesEach p datagram =
    AllByRecursion IsPassed p.chunks
    → (w : Wire) → Contains p.chunks w → Canonical w → Carries datagram w

-- the chunk is read at the place, where it reads back at all
abbrev pub IsReadAt : List ℕ → ChunkPlace → Wire → Type 0
IsReadAt datagram place w = Canonical w → StartsWith (drop place.at datagram) w

-- all of its places are those of the chunks that were put, one for one and in order
abbrev pub KeepsOrder : Parts → List ℕ → Type 0
KeepsOrder p datagram =
    (places : List ChunkPlace) → TellsAll place_at datagram places
    → AllZip (IsReadAt datagram) places p.chunks
