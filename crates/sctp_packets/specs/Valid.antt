-- What `check_packet` asks for (RFC 4960 3.1, 8.5.1, and 6.10 of an INIT alone: of INIT-ACK and SHUTDOWN-COMPLETE nothing is asked).
use Rattle.std.specs.Prelude.{◌≡◌, ◌≢◌, ◌⊎◌, Bool, not, true, false, List, length}
use Rattle.std.specs.List.{list_any}
use Rattle.sctp_util.specs.declared.error.Error.{Error}
use Rattle.sctp_util.specs.declared.error.Error.TheVariants as errors
use Rattle.sctp_chunks.specs.Wire.{Wire, init_chunk}
use Rattle.sctp_packets.specs.Packet.{Parts}

-- an INIT, and no INIT-ACK
abbrev pub is_init : Wire → Bool
is_init (init_chunk i) = not i.is_ack
is_init _ = false

-- whether one of the chunks is an INIT
abbrev pub has_init : List Wire → Bool
has_init ws = list_any is_init ws

-- ports are not 0, and an INIT stands alone under tag 0
pub record IsValid (p : Parts) : Type 0 where
  pub source_port : p.source_port ≢ 0
  pub destination_port : p.destination_port ≢ 0
  pub alone : has_init p.chunks ≡ true → length p.chunks ≡ 1
  pub tag : has_init p.chunks ≡ true → p.verification_tag ≡ 0

-- why an INIT in a packet does not stand alone under tag 0: the first of both that it breaks
abbrev pub InitFault : Error → Parts → Type 0
InitFault e p =
    ((e ≡ errors.ErrInitChunkBundled) × (has_init p.chunks ≡ true) × (length p.chunks ≢ 1))
    ⊎ ((e ≡ errors.ErrInitChunkVerifyTagNotZero) × (has_init p.chunks ≡ true)
    × (length p.chunks ≡ 1) × (p.verification_tag ≢ 0))

-- why a packet is not valid: the first rule that it breaks
abbrev pub ValidFault : Error → Parts → Type 0
ValidFault e p =
    ((e ≡ errors.ErrSctpPacketSourcePortZero) × (p.source_port ≡ 0))
    ⊎ ((e ≡ errors.ErrSctpPacketDestinationPortZero) × (p.source_port ≢ 0)
    × (p.destination_port ≡ 0))
    ⊎ ((p.source_port ≢ 0) × (p.destination_port ≢ 0) × InitFault e p)
