-- A packet of which only the header and the first chunk's header were read.
use Rattle.std.specs.Prelude.{◌≡◌, ℕ, ◌≤◌, ◌<◌, ◌⊎◌, ◌==◌, ◌||◌, if◌then◌else◌, List, [], length, drop, Option, Some, None}
use Rattle.sctp_util.specs.declared.error.Error.{Error}
use Rattle.sctp_util.specs.declared.error.Error.TheVariants as errors
use Rattle.sctp_util.specs.Field.{u16_at, u32_at}
use Rattle.sctp_util.specs.Walk.{Walks}
use Rattle.sctp_chunks.specs.Framing.{IsFramed, type_at, value_at}
use Rattle.sctp_chunks.specs.Fault.{HeaderFault, IsInitChunk}
use Rattle.sctp_packets.specs.declared.packet.partial_decode.PartialDecode.{PartialDecode}
use Rattle.sctp_packets.specs.Packet.{Parts, IsHeaded, Steps, after}
use Rattle.sctp_packets.specs.Fault.{HeadFault}

-- the types of INIT and INIT-ACK
abbrev pub IsInitType : ℕ → Type 0
IsInitType typ = (typ ≡ 1) ⊎ (typ ≡ 2)

-- the initiate tag of the chunk that the bytes begin with, where it is an INIT or INIT-ACK
abbrev pub initiate_tag_in : List ℕ → Option ℕ
initiate_tag_in bytes =
    if type_at bytes == 1 || type_at bytes == 2 then Some (u32_at (value_at bytes) 0) else None

-- the cookie, where it is a COOKIE-ECHO
abbrev pub cookie_in : List ℕ → Option (List ℕ)
cookie_in bytes = if type_at bytes == 10 then Some (value_at bytes) else None

-- the bytes have this header, under the checksum, and their first chunk this header
pub record ReadsPartial (sum : List ℕ → ℕ) (bytes : List ℕ) (d : PartialDecode) : Type 0 where
  pub is_headed : IsHeaded sum bytes
  pub source_port : d.common_header.source_port ≡ u16_at bytes 0
  pub destination_port : d.common_header.destination_port ≡ u16_at bytes 2
  pub verification_tag : d.common_header.verification_tag ≡ u32_at bytes 4
  pub remaining : d.remaining ≡ drop 12 bytes
  pub is_framed : IsFramed (drop 12 bytes)
  pub long : IsInitType (type_at (drop 12 bytes)) → 4 ≤ length (value_at (drop 12 bytes))
  pub first_chunk_type : d.first_chunk_type.0 ≡ type_at (drop 12 bytes)
  pub initiate_tag : d.initiate_tag ≡ initiate_tag_in (drop 12 bytes)
  pub cookie : d.cookie ≡ cookie_in (drop 12 bytes)

-- the bytes that remain, read to their end, are this packet's chunks
pub record Finishes (d : PartialDecode) (p : Parts) : Type 0 where
  pub source_port : p.source_port ≡ d.common_header.source_port
  pub destination_port : p.destination_port ≡ d.common_header.destination_port
  pub verification_tag : p.verification_tag ≡ d.common_header.verification_tag
  pub chunks : Walks Steps after d.remaining p.chunks []

abbrev pub HasChunks : Parts → Type 0
HasChunks p = 0 < length p.chunks

-- why such a beginning is refused: header or checksum, and only where these are right what follows. A value is at fault only in an INIT or
-- INIT-ACK that is framed
abbrev pub PartialFault : (List ℕ → ℕ) → Error → List ℕ → Type 0
PartialFault sum e bytes =
    HeadFault sum e bytes
    ⊎ (IsHeaded sum bytes
    × (((e ≡ errors.ErrParseSctpChunkNotEnoughData) × (length bytes < 16))
    ⊎ ((16 ≤ length bytes) × HeaderFault e (drop 12 bytes))
    ⊎ ((e ≡ errors.ErrChunkValueNotLongEnough) × IsInitChunk (drop 12 bytes)
    × (length (value_at (drop 12 bytes)) < 4))))
