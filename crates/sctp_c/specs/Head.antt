-- Packets as a caller in C sees them: a header, and where the chunks lie.
use Rattle.std.specs.Prelude.{◌≡◌, ℕ, zero, suc, ◌+◌, ◌≤◌, List, [], ◌++◌, length, drop}
use Rattle.crc32c.specs.Castagnoli.{crc32c_of}
use Rattle.sctp_util.specs.Field.{le32, u16_at, u32_at}
use Rattle.sctp_util.specs.Padding.{padded_length, four_zeroes}
use Rattle.sctp_util.specs.Walk.{Walks}
use Rattle.sctp_chunks.specs.Framing.{type_at, flags_at, declared_length}
use Rattle.sctp_chunks.specs.Wire.{Wire}
use Rattle.sctp_packets.specs.Packet.{Parts, ReadsPacket, Steps, after, head_encoding}
use Rattle.sctp_datagram.specs.Places.{rows_from}
use Rattle.sctp_c.specs.Out.{filled}
use Rattle.sctp_c.specs.declared.packet.SctpHead.{SctpHead}
use Rattle.sctp_c.specs.declared.packet.SctpChunk.{SctpChunk}

-- the header's numbers stand at the front
pub record HeadsPacket (bytes : List ℕ) (h : SctpHead) : Type 0 where
  pub source_port : h.source_port ≡ u16_at bytes 0
  pub destination_port : h.destination_port ≡ u16_at bytes 2
  pub verification_tag : h.verification_tag ≡ u32_at bytes 4

-- the header's numbers are the packet's
pub record Tells (h : SctpHead) (p : Parts) : Type 0 where
  pub source_port : h.source_port ≡ p.source_port
  pub destination_port : h.destination_port ≡ p.destination_port
  pub verification_tag : h.verification_tag ≡ p.verification_tag

-- the chunk that begins at a place of a packet
abbrev pub chunk_at : List ℕ → ℕ → SctpChunk
chunk_at packet at = record {
  at = at;
  length = declared_length (drop at packet);
  typ = type_at (drop at packet);
  flags = flags_at (drop at packet);
}

-- so many chunks, one behind the padding of the other, the first at a place
abbrev pub chunks_from : List ℕ → ℕ → ℕ → List SctpChunk
chunks_from = rows_from chunk_at

-- so many chunks lie so in a packet, each with its header and its padding
abbrev pub Lie : List ℕ → ℕ → ℕ → Type 0
Lie packet at zero = Unit {0}
Lie packet at (suc n) =
    (at + 4 ≤ length packet)
    × (at + padded_length (declared_length (drop at packet)) ≤ length packet)
    × Lie packet (at + padded_length (declared_length (drop at packet))) n

-- the bytes are so many chunks, one behind the padding of the other
pub record HaveChunks (bytes : List ℕ) (n : ℕ) : Type 0 where
  pub chunks : List Wire
  pub walk : Walks Steps after bytes chunks []
  pub count : n ≡ length chunks

-- The bytes are a packet under the checksum, of that header and so many chunks. As many of them as there is room for stand in the rows.
pub record IsPacket (sum : List ℕ → ℕ) (bytes : List ℕ) (h : SctpHead) (count : ℕ)
    (old new : List SctpChunk) : Type 0 where
  pub parts : Parts
  pub reads : ReadsPacket sum bytes parts
  pub head : Tells h parts
  pub chunks : count ≡ length parts.chunks
  pub rows : new ≡ filled (chunks_from bytes 12 count) old

-- a header up to the checksum (RFC 4960 3.1)
abbrev pub head_bytes : SctpHead → List ℕ
head_bytes h = head_encoding h.source_port h.destination_port h.verification_tag

-- a header, its checksum, and the bytes of chunks behind them
abbrev pub sealed : SctpHead → List ℕ → List ℕ
sealed h chunks = head_bytes h ++ le32 (crc32c_of (head_bytes h ++ four_zeroes ++ chunks)) ++ chunks

-- the packet of a header and chunks
abbrev pub parts_under : SctpHead → List Wire → Parts
parts_under h chunks = record {
  source_port = h.source_port;
  destination_port = h.destination_port;
  verification_tag = h.verification_tag;
  chunks = chunks;
}
