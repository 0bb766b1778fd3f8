-- What must stand in the bytes of a packet for each refusal, and why a packet is not written.
use Rattle.std.specs.Prelude.{◌≡◌, ◌≢◌, ℕ, ◌+◌, ◌<◌, ◌≤◌, ◌⊎◌, List, [], ◌∷◌, length, take, drop}
use Rattle.std.specs.List.{AllByRecursion}
use Rattle.sctp_util.specs.declared.error.Error.{Error}
use Rattle.sctp_util.specs.declared.error.Error.TheVariants as errors
use Rattle.sctp_util.specs.Field.{u32_le_at}
use Rattle.sctp_util.specs.Padding.{padded_length}
use Rattle.sctp_chunks.specs.Framing.{declared_length}
use Rattle.sctp_chunks.specs.Wire.{Wire, HasEncoding}
use Rattle.sctp_chunks.specs.Check.{EncodingFault}
use Rattle.sctp_chunks.specs.Kind.{KindFault}
use Rattle.sctp_util.specs.Walk.{Walks}
use Rattle.sctp_packets.specs.Packet.{Parts, IsHeaded, Steps, after, checksum_input, body_of}

-- where the walk stands
abbrev pub PlaceFault : Error → List ℕ → Type 0
PlaceFault e rest =
    ((e ≡ errors.ErrParseSctpChunkNotEnoughData) × (0 < length rest) × (length rest < 4))
    ⊎ ((e ≡ errors.ErrParseSctpChunkNotEnoughData) × (4 ≤ length rest)
    × (length rest < padded_length (declared_length rest)))
    ⊎ ((4 ≤ length rest) × KindFault e rest)

-- a fault at a place that the walk comes to
unfoldable pub WalkFault : Error → List ℕ → Type 0
WalkFault e bytes =
    (ws : List Wire) × (rest : List ℕ) × Walks Steps after bytes ws rest × PlaceFault e rest

-- the header and its checksum
abbrev pub HeadFault : (List ℕ → ℕ) → Error → List ℕ → Type 0
HeadFault sum e bytes =
    ((e ≡ errors.ErrPacketRawTooSmall) × (length bytes < 12))
    ⊎ ((e ≡ errors.ErrChecksumMismatch) × (12 ≤ length bytes)
    × (u32_le_at bytes 8 ≢ sum (checksum_input bytes)))

-- why bytes are no packet: their header or checksum, and only where these are right a chunk
abbrev pub PacketFault : (List ℕ → ℕ) → Error → List ℕ → Type 0
PacketFault sum e bytes =
    HeadFault sum e bytes ⊎ (IsHeaded sum bytes × WalkFault e (drop 12 bytes))

-- ---- writing

-- the refusal of the first of these chunks that has no encoding
abbrev pub FirstEncodingFault : Error → List Wire → Type 0
FirstEncodingFault e [] = ⊥
FirstEncodingFault e (w ∷ ws) = EncodingFault e w ⊎ (HasEncoding w × FirstEncodingFault e ws)

-- why a packet has no encoding
abbrev pub PacketEncodingFault : Error → Parts → Type 0
PacketEncodingFault e p = FirstEncodingFault e p.chunks

-- the room is short of so many bytes and of some first chunks, each of which has an encoding
abbrev pub LacksRoom : ℕ → ℕ → List Wire → Type 0
LacksRoom room head ws =
    (n : ℕ) × AllByRecursion HasEncoding (take n ws) × (room < head + length (body_of (take n ws)))
