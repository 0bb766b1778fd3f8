-- Packets that may have chunks of types that are not read, as RFC 9260 3.2 has a receiver take them.
use Rattle.std.specs.Prelude.{◌≡◌, ℕ, List, length}
use Rattle.sctp_packets.specs.Packet.{IsHeaded}
use Rattle.sctp_datagram.specs.Places as places
use Rattle.sctp_datagram.specs.declared.datagram.ChunkPlace.{ChunkPlace}
use Rattle.sctp_c.specs.Flags.{flag}
use Rattle.sctp_c.specs.Head.{HeadsPacket}
use Rattle.sctp_c.specs.Out.{filled}
use Rattle.sctp_c.specs.declared.packet.SctpHead.{SctpHead}
use Rattle.sctp_c.specs.declared.packet.any.SctpAnyChunk.{SctpAnyChunk}

-- a chunk's place in numbers
abbrev pub any_row : ChunkPlace → SctpAnyChunk
any_row p = record {
  at = p.at;
  length = p.length;
  typ = p.typ;
  flags = p.flags;
  is_known = flag p.is_known;
  is_reported = flag p.is_reported;
}

-- that of the chunk that begins at a place of a packet
abbrev pub any_chunk_at : List ℕ → ℕ → SctpAnyChunk
any_chunk_at packet at = any_row (places.place_at packet at)

-- the rows tell of all chunks up to the end of the packet, or up to the first one that stops the reading, and of that one
abbrev pub TellsAll : List ℕ → List SctpAnyChunk → Type 0
TellsAll packet rows = places.TellsAll any_chunk_at packet rows

-- The bytes are headed under the checksum, and have so many chunks. As many of them as there is room for stand in the rows.
pub record IsAnyPacket (sum : List ℕ → ℕ) (bytes : List ℕ) (h : SctpHead) (count : ℕ)
    (old new : List SctpAnyChunk) : Type 0 where
  pub headed : IsHeaded sum bytes
  pub head : HeadsPacket bytes h
  pub all : List SctpAnyChunk
  pub answered : TellsAll bytes all
  pub chunks : count ≡ length all
  pub rows : new ≡ filled all old
