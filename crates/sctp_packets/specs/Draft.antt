-- A packet that is being written: its header, with zeros where the checksum is to stand, and the chunks so far (RFC 4960 3).
use Rattle.std.specs.Prelude.{◌≡◌, ℕ, List, [], ◌∷◌, ◌++◌}
use Rattle.sctp_util.specs.Padding.{four_zeroes}
use Rattle.sctp_chunks.specs.Wire.{Wire}
use Rattle.sctp_packets.specs.Packet.{Parts, FitsParts, HavePacketEncoding, body_of, head_of}
use Rattle.sctp_packets.specs.declared.packet.CommonHeader.{CommonHeader}

-- the bytes of a packet that is being written, and how many it may have
pub record Draft : Type 0 where
  pub bytes : List ℕ
  pub limit : ℕ

-- no chunk yet
abbrev pub headed : CommonHeader → Parts
headed h = record {
  source_port = h.source_port;
  destination_port = h.destination_port;
  verification_tag = h.verification_tag;
  chunks = [];
}

-- one chunk more
abbrev pub with_chunk : Wire → Parts → Parts
with_chunk w p = record p { chunks = p.chunks ++ w ∷ [] }

-- the bytes are the encoding of the packet, but for its checksum
pub record IsDraft (p : Parts) (bytes : List ℕ) : Type 0 where
  pub unsealed : bytes ≡ head_of p ++ four_zeroes ++ body_of p.chunks
  pub encodings : HavePacketEncoding p
  pub fits : FitsParts p
