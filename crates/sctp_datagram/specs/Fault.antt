-- What must stand in the bytes of a datagram for each refusal.
use Rattle.std.specs.Prelude.{◌≡◌, ◌⊎◌, ℕ, ◌<◌, true, false, List, length, drop}
use Rattle.sctp_util.specs.declared.error.Error.{Error}
use Rattle.sctp_util.specs.declared.error.Error.TheVariants.{ErrParseSctpChunkNotEnoughData}
use Rattle.sctp_util.specs.Padding.{padded_length}
use Rattle.sctp_chunks.specs.Framing.{declared_length, type_at}
use Rattle.sctp_chunks.specs.Kind.{KindFault}
use Rattle.sctp_packets.specs.Fault.{HeadFault}
use Rattle.sctp_packets.specs.Packet.{IsHeaded}
use Rattle.sctp_datagram.specs.Framing.{ChunkFault, FrameFault}
use Rattle.sctp_datagram.specs.Places.{Passes, place_at}
use Rattle.sctp_datagram.specs.Types.{is_whole_type}
use Rattle.sctp_datagram.specs.declared.datagram.ChunkPlace.{ChunkPlace}
use Rattle.sctp_datagram.specs.declared.datagram.ZeroChecksum.{ZeroChecksum}
use Rattle.sctp_datagram.specs.declared.datagram.ZeroChecksum.TheVariants.{Allowed, Refused}

-- of the chunk that the bytes begin with: by its reader, or by its header alone where its type is not read whole
abbrev pub NextFault : Error → List ℕ → Type 0
NextFault e bytes =
    ((is_whole_type (type_at bytes) ≡ true) × ChunkFault KindFault e bytes)
    ⊎ ((is_whole_type (type_at bytes) ≡ false) × FrameFault e bytes)

-- the same, or for want of bytes
abbrev pub AnyPlaceFault : Error → List ℕ → Type 0
AnyPlaceFault e bytes =
    ((e ≡ ErrParseSctpChunkNotEnoughData)
    × ((length bytes < 4) ⊎ (length bytes < padded_length (declared_length bytes))))
    ⊎ NextFault e bytes

-- at a place that the reading comes to
pub record AnyWalkFault (e : Error) (packet : List ℕ) : Type 0 where
  pub passed : List ChunkPlace
  pub place : ℕ
  pub passes : Passes place_at packet 12 passed place
  pub inside : place < length packet
  pub fault : AnyPlaceFault e (drop place packet)

-- of a packet: its header or checksum, and only where these are right a chunk
abbrev pub AnyPacketFault : (List ℕ → ℕ) → Error → List ℕ → Type 0
AnyPacketFault sum e bytes =
    HeadFault sum e bytes ⊎ (IsHeaded sum bytes × AnyWalkFault e bytes)

-- ## Where a checksum of 0 is allowed (RFC 9653 5.3)

-- the bytes begin with a header, and its checksum is theirs, or 0 where that is allowed
abbrev pub IsAccepted : ZeroChecksum → (List ℕ → ℕ) → List ℕ → Type 0
IsAccepted Refused sum bytes = IsHeaded sum bytes
IsAccepted Allowed sum bytes = IsHeaded sum bytes ⊎ IsHeaded (λ _. 0) bytes

-- why they do not
abbrev pub HeadRefusal : ZeroChecksum → (List ℕ → ℕ) → Error → List ℕ → Type 0
HeadRefusal Refused sum e bytes = HeadFault sum e bytes
HeadRefusal Allowed sum e bytes = HeadFault sum e bytes × HeadFault (λ _. 0) e bytes

-- why the bytes are refused as a datagram: header or checksum, and only where these are right a chunk
abbrev pub DatagramFault : ZeroChecksum → (List ℕ → ℕ) → Error → List ℕ → Type 0
DatagramFault zero sum e bytes =
    HeadRefusal zero sum e bytes ⊎ (IsAccepted zero sum bytes × AnyWalkFault e bytes)
