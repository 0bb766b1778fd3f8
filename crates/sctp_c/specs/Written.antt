-- What is written for a caller in C, and why it is not.
use Rattle.std.specs.Prelude.{◌≡◌, ◌≢◌, ℕ, ◌<◌, ◌≤◌, ◌⊎◌, ◌==◌, true, false, if◌then◌else◌, List, ◌++◌, length, take, drop, All}
use Rattle.sctp_util.specs.declared.error.Error.{Error}
use Rattle.sctp_util.specs.declared.error.Error.TheVariants.{ErrLengthTooLarge, ErrSsnResetRequestParamInvalidLength}
use Rattle.sctp_util.specs.Field.{be16, be32}
use Rattle.sctp_util.specs.Padding.{padded_length}
use Rattle.sctp_params.specs.Param.{Parameter}
use Rattle.sctp_params.specs.ParamFraming.{param_framed}
use Rattle.sctp_params.specs.ParamKind.{ReadsParam, ParamFault}
use Rattle.sctp_chunks.specs.Framing.{chunk_encoding}
use Rattle.sctp_chunks.specs.Kind.{KindFault}
use Rattle.sctp_chunks.specs.Wire.{Wire, ReadsChunk, type_of, value_of}
use Rattle.sctp_c.specs.Out.{padded}
use Rattle.sctp_c.specs.Requests.{has_length_of, is_own, requests_end}
use Rattle.sctp_c.specs.declared.reading.SctpInit.{SctpInit}

-- a value was read as what was given: as its bytes, or as those before the padding of the last item, which a chunk's length does not count
-- (RFC 9260 3.2)
abbrev pub IsAsGiven : List ℕ → List ℕ → Type 0
IsAsGiven given read =
    (given ≡ read)
    ⊎ ((take (length read) given ≡ read) × All (λ x. x ≡ 0) (drop (length read) given)
    × (length given ≡ padded_length (length read)))

-- the encoding under these flags of the chunk that a type, flags and a value are read as
pub record IsEncoded (typ flags : ℕ) (value bytes : List ℕ) : Type 0 where
  pub chunk : Wire
  pub reads : ReadsChunk (chunk_encoding typ flags value) chunk
  pub encoding : bytes ≡ chunk_encoding (type_of chunk) flags (value_of chunk)

-- that encoding and its padding, where the value is as it was given
pub record IsReadChunk (typ flags : ℕ) (value bytes : List ℕ) : Type 0 where
  pub chunk : Wire
  pub reads : ReadsChunk (chunk_encoding typ flags value) chunk
  pub encoding : bytes ≡ padded (chunk_encoding (type_of chunk) flags (value_of chunk))
  pub as_given : IsAsGiven value (value_of chunk)

-- a value is that of a RE-CONFIG of requests which no reader of a whole packet takes; they end so far (RFC 6525 3.1)
pub record AreRequests (typ : ℕ) (value : List ℕ) (end : ℕ) : Type 0 where
  pub reconfig : typ ≡ 130
  pub some : end ≢ 0
  pub place : end ≡ requests_end value
  pub as_given : IsAsGiven value (take end value)

-- the encoding of a type, flags and a value as they are, and its padding
abbrev pub IsFramedChunk : ℕ → ℕ → List ℕ → List ℕ → Type 0
IsFramedChunk typ flags value bytes = bytes ≡ padded (chunk_encoding typ flags value)

-- the RE-CONFIG of such requests, and its padding
pub record IsRequestsChunk (typ flags : ℕ) (value bytes : List ℕ) : Type 0 where
  pub end : ℕ
  pub requests : AreRequests typ value end
  pub encoding : IsFramedChunk typ flags (take end value) bytes

-- a value is that of a DATA chunk, whose payload type may be any (RFC 9260 3.3.1)
pub record IsDataValue (typ : ℕ) (value : List ℕ) : Type 0 where
  pub is_data : typ ≡ 0
  pub long : 12 ≤ length value

-- the DATA chunk of such a value as it is, and its padding
pub record IsDataChunk (typ flags : ℕ) (value bytes : List ℕ) : Type 0 where
  pub typed : IsDataValue typ value
  pub encoding : IsFramedChunk typ flags value bytes

-- a chunk that is written as it was given
abbrev pub IsFlaggedChunk : ℕ → ℕ → List ℕ → List ℕ → Type 0
IsFlaggedChunk typ flags value bytes =
    IsReadChunk typ flags value bytes ⊎ IsRequestsChunk typ flags value bytes
    ⊎ IsDataChunk typ flags value bytes

-- with flags 0
abbrev pub IsChunk : ℕ → List ℕ → List ℕ → Type 0
IsChunk typ value bytes = IsFlaggedChunk typ 0 value bytes

-- a type, flags and a value are read as a chunk with another value, so that other bytes than the given ones would be written
pub record IsChanged (typ flags : ℕ) (value : List ℕ) : Type 0 where
  pub chunk : Wire
  pub reads : ReadsChunk (chunk_encoding typ flags value) chunk
  pub other : IsAsGiven value (value_of chunk) → ⊥

-- a parameter of a type and a value that a reader takes, and its padding
pub record IsReadParam (typ : ℕ) (value bytes : List ℕ) : Type 0 where
  pub parameter : Parameter
  pub reads : ReadsParam (param_framed typ value) parameter
  pub framed : bytes ≡ padded (param_framed typ value)

-- a type and a value are those of a request of a RE-CONFIG that no reader of a whole packet takes
pub record IsOwnRequest (typ : ℕ) (value : List ℕ) : Type 0 where
  pub own : is_own typ ≡ true
  pub sized : has_length_of typ (length value) ≡ true

-- such a request, and its padding
pub record IsOwnParam (typ : ℕ) (value bytes : List ℕ) : Type 0 where
  pub request : IsOwnRequest typ value
  pub framed : bytes ≡ padded (param_framed typ value)

-- a parameter that is written
abbrev pub IsParam : ℕ → List ℕ → List ℕ → Type 0
IsParam typ value bytes = IsReadParam typ value bytes ⊎ IsOwnParam typ value bytes

-- a chunk's value has more bytes than its length can declare, or its type, flags and value are refused by a reader
abbrev pub FlaggedChunkFault : ℕ → ℕ → List ℕ → Error → Type 0
FlaggedChunkFault typ flags value e =
    ((e ≡ ErrLengthTooLarge) × (65531 < length value))
    ⊎ KindFault e (chunk_encoding typ flags value)

-- with flags 0
abbrev pub ChunkFault : ℕ → List ℕ → Error → Type 0
ChunkFault typ value e = FlaggedChunkFault typ 0 value e

-- the same of a parameter; a request of the types 14, 15, 17 and 18 is refused for its length
abbrev pub ParameterFault : ℕ → List ℕ → Error → Type 0
ParameterFault typ value e =
    ((e ≡ ErrLengthTooLarge) × (65531 < length value))
    ⊎ ((is_own typ ≡ false) × ParamFault e (param_framed typ value))
    ⊎ ((e ≡ ErrSsnResetRequestParamInvalidLength) × (is_own typ ≡ true)
    × (has_length_of typ (length value) ≡ false))

abbrev pub init_type : SctpInit → ℕ
init_type i = if i.is_ack == 0 then 1 else 2

-- the value of an INIT or INIT-ACK: its fields, and the bytes of its parameters (RFC 4960 3.3.2)
abbrev pub init_bytes : SctpInit → List ℕ → List ℕ
init_bytes i params =
    be32 i.initiate_tag ++ be32 i.credit ++ be16 i.outbound_streams ++ be16 i.inbound_streams
    ++ be32 i.initial_tsn ++ params
