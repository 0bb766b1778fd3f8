-- A datagram whose chunks are taken one after another.
use Rattle.std.specs.Prelude.{◌≡◌, ℕ, List}
use Rattle.sctp_util.specs.Field.{u16_at, u32_at}
use Rattle.sctp_packets.specs.declared.packet.CommonHeader.{CommonHeader}
use Rattle.sctp_datagram.specs.declared.datagram.ChunkPlace.{ChunkPlace}

-- its bytes, and the places that are still to come
pub record Walked : Type 0 where
  pub bytes : List ℕ
  pub left : List ChunkPlace

-- the header's numbers stand at the front (RFC 9260 3.1)
pub record IsHeader (bytes : List ℕ) (h : CommonHeader) : Type 0 where
  pub source_port : h.source_port ≡ u16_at bytes 0
  pub destination_port : h.destination_port ≡ u16_at bytes 2
  pub verification_tag : h.verification_tag ≡ u32_at bytes 4
