-- Packets: a header, and chunks that fill the rest exactly (RFC 4960 3).
use Rattle.std.specs.Prelude.{◌≡◌, ℕ, ◌≤◌, ◌<◌, ◌^◌, List, [], ◌∷◌, ◌++◌, length, take, drop, map, replicate}
use Rattle.std.specs.List.{flat_map, AllByRecursion}
use Rattle.sctp_util.specs.Field.{be16, be32, le32, u16_at, u32_at, u32_le_at}
use Rattle.sctp_util.specs.Padding.{padding_of, padded_length, four_zeroes}
use Rattle.sctp_util.specs.Walk.{Walks}
use Rattle.sctp_chunks.specs.Framing.{declared_length}
use Rattle.sctp_chunks.specs.Wire.{Wire, ReadsChunk, HasEncoding, encoding_of}
use Rattle.sctp_chunks.specs.Fits.{Fits, Canonical}
use Rattle.sctp_chunks.specs.Kind.{wire_of, IsRead, IsFreshKind}
use Rattle.sctp_chunks.specs.declared.chunk.chunk_kind.ChunkKind.{ChunkKind}
use Rattle.sctp_packets.specs.declared.packet.Packet.{Packet}

-- the wire parts of a packet
pub record Parts : Type 0 where
  pub source_port : ℕ
  pub destination_port : ℕ
  pub verification_tag : ℕ
  pub chunks : List Wire

abbrev pub parts_of : Packet → Parts
parts_of p = record {
  source_port = p.common_header.source_port;
  destination_port = p.common_header.destination_port;
  verification_tag = p.common_header.verification_tag;
  chunks = map wire_of p.chunks.items;
}

-- the bytes begin with a whole chunk of a kind that is read, and its padding
pub record Steps (bytes : List ℕ) (w : Wire) : Type 0 where
  pub is_read : IsRead w
  pub chunk : ReadsChunk bytes w
  pub whole : padded_length (declared_length bytes) ≤ length bytes

-- what follows that chunk
unfoldable pub after : List ℕ → List ℕ
after bytes = drop (padded_length (declared_length bytes)) bytes

-- what a checksum is taken of
abbrev pub checksum_input : List ℕ → List ℕ
checksum_input bytes = take 8 bytes ++ four_zeroes ++ drop 12 bytes

-- Behind the chunks before stands the one that the bytes begin with, as reading gives it.
pub record TakesChunk (bytes : List ℕ) (before : List ChunkKind) (behind : List ChunkKind) : Type 0 where
  pub chunk : ChunkKind
  pub items : behind ≡ before ++ chunk ∷ []
  pub found : Steps bytes (wire_of chunk)
  pub rewritable : HasEncoding (wire_of chunk)
  pub canonical : Canonical (wire_of chunk)
  pub fresh : IsFreshKind chunk

-- the bytes begin with a header, and its checksum is theirs
pub record IsHeaded (sum : List ℕ → ℕ) (bytes : List ℕ) : Type 0 where
  pub long : 12 ≤ length bytes
  pub checksum : u32_le_at bytes 8 ≡ sum (checksum_input bytes)

-- The bytes are this packet, under the checksum.
pub record ReadsPacket (sum : List ℕ → ℕ) (bytes : List ℕ) (p : Parts) : Type 0 where
  pub is_headed : IsHeaded sum bytes
  pub source_port : p.source_port ≡ u16_at bytes 0
  pub destination_port : p.destination_port ≡ u16_at bytes 2
  pub verification_tag : p.verification_tag ≡ u32_at bytes 4
  pub chunks : Walks Steps after (drop 12 bytes) p.chunks []

-- ---- writing

-- a chunk with its padding
unfoldable pub padded_encoding : Wire → List ℕ
padded_encoding w = encoding_of w ++ replicate (padding_of (length (encoding_of w))) 0

abbrev pub body_of : List Wire → List ℕ
body_of ws = flat_map padded_encoding ws

unfoldable pub head_encoding : ℕ → ℕ → ℕ → List ℕ
head_encoding source_port destination_port verification_tag =
    be16 source_port ++ be16 destination_port ++ be32 verification_tag

abbrev pub head_of : Parts → List ℕ
head_of p = head_encoding p.source_port p.destination_port p.verification_tag

abbrev pub HavePacketEncoding : Parts → Type 0
HavePacketEncoding p = AllByRecursion HasEncoding p.chunks

-- a packet of chunks whose encodings read back
abbrev pub IsCanonical : Parts → Type 0
IsCanonical p = AllByRecursion Canonical p.chunks

-- the one encoding of a packet
abbrev pub packet_encoding : (List ℕ → ℕ) → Parts → List ℕ
packet_encoding sum p =
    head_of p ++ le32 (sum (head_of p ++ four_zeroes ++ body_of p.chunks)) ++ body_of p.chunks

-- a packet whose numbers fit the widths that they are written in
pub record FitsParts (p : Parts) : Type 0 where
  pub source_port : p.source_port < 2 ^ 16
  pub destination_port : p.destination_port < 2 ^ 16
  pub verification_tag : p.verification_tag < 2 ^ 32
  pub chunks : AllByRecursion Fits p.chunks
