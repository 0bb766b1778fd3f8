-- How a receiver finds a chunk: type, flags, length and value, and behind them padding that it ignores (RFC 9260 3.2).
use Rattle.std.specs.Prelude.{◌≡◌, ◌⊎◌, ℕ, ◌<◌, ◌≤◌, List, length, take}
use Rattle.sctp_util.specs.Padding.{padded_length}
use Rattle.sctp_util.specs.declared.error.Error.{Error}
use Rattle.sctp_util.specs.declared.error.Error.TheVariants.{ErrChunkHeaderInvalidLength, ErrChunkHeaderNotEnoughSpace, ErrChunkHeaderTooSmall}
use Rattle.sctp_chunks.specs.Framing.{declared_length, flags_at, type_at, value_at}
use Rattle.sctp_chunks.specs.Wire.{ReadsValue, Wire, type_of}

-- the bytes begin with a chunk, of any type. Behind it may be any bytes
pub record HasFrame (bytes : List ℕ) : Type 0 where
  pub headed : 4 ≤ length bytes
  pub least : 4 ≤ declared_length bytes
  pub within : declared_length bytes ≤ length bytes

-- the bytes begin with a chunk of this type
abbrev pub HasChunk : ℕ → List ℕ → Type 0
HasChunk typ bytes = HasFrame bytes × (type_at bytes ≡ typ)

-- the bytes begin with this chunk
pub record StartsWith (bytes : List ℕ) (w : Wire) : Type 0 where
  pub is_framed : HasFrame bytes
  pub typ : type_at bytes ≡ type_of w
  pub value : ReadsValue (flags_at bytes) (value_at bytes) w

-- the same, and as many bytes as its padding has are there
pub record StartsPadded (bytes : List ℕ) (w : Wire) : Type 0 where
  pub chunk : StartsWith bytes w
  pub whole : padded_length (declared_length bytes) ≤ length bytes

-- the chunk by itself, with no padding
abbrev pub alone : List ℕ → List ℕ
alone bytes = take (declared_length bytes) bytes

-- ## Refusals

-- of the header of the chunk that the bytes begin with
abbrev pub FrameFault : Error → List ℕ → Type 0
FrameFault e bytes =
    ((e ≡ ErrChunkHeaderTooSmall) × (length bytes < 4))
    ⊎ ((e ≡ ErrChunkHeaderInvalidLength) × (4 ≤ length bytes) × (declared_length bytes < 4))
    ⊎ ((e ≡ ErrChunkHeaderNotEnoughSpace) × (4 ≤ length bytes)
    × (length bytes < declared_length bytes))

-- the same, or one of the chunk by itself
abbrev pub ChunkFault : (Error → List ℕ → Type 0) → Error → List ℕ → Type 0
ChunkFault F e bytes = FrameFault e bytes ⊎ (HasFrame bytes × F e (alone bytes))
