-- Chunks that are read where they lie.
use Rattle.std.specs.Prelude.{◌≡◌, ◌≢◌, ◌⊎◌, ◌<◌, ◌≤◌, ℕ, List, length}
use Rattle.sctp_util.specs.declared.error.Error.{Error}
use Rattle.sctp_util.specs.declared.error.Error.TheVariants.{ErrChunkTypeNotTypeInit, ErrChunkValueNotLongEnough}
use Rattle.sctp_chunks.specs.Framing.{type_at, value_at}
use Rattle.sctp_chunks.specs.Wire.{Wire, data_chunk, sack_chunk}
use Rattle.sctp_datagram.specs.Framing.{FrameFault, HasFrame}

-- a chunk that is read with no memory
abbrev pub IsInPlace : Wire → Type 0
IsInPlace (data_chunk d) = Unit {0}
IsInPlace (sack_chunk s) = Unit {0}
IsInPlace _ = ⊥

-- the bytes begin with an INIT or INIT-ACK
abbrev pub HasInitType : List ℕ → Type 0
HasInitType bytes = HasFrame bytes × ((type_at bytes ≡ 1) ⊎ (type_at bytes ≡ 2))

-- the bytes begin with an INIT or INIT-ACK that has its numbers. Its flags and its parameters may be any (RFC 9260 3.3.2, 3.3.3)
pub record HasInit (bytes : List ℕ) : Type 0 where
  pub is_init : HasInitType bytes
  pub long : 16 ≤ length (value_at bytes)

-- why bytes have none
abbrev pub NoInitFault : Error → List ℕ → Type 0
NoInitFault e bytes =
    FrameFault e bytes
    ⊎ ((e ≡ ErrChunkTypeNotTypeInit) × (4 ≤ length bytes) × (type_at bytes ≢ 1) × (type_at bytes ≢ 2))
    ⊎ ((e ≡ ErrChunkValueNotLongEnough) × HasInitType bytes × (length (value_at bytes) < 16))
