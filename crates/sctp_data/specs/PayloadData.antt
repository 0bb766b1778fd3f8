-- DATA: what a chunk of user data says, and how it is written.
use Rattle.std.specs.Prelude.{◌≡◌, ℕ, ◌+◌, ◌≤◌, Bool, not, ◌==◌, if◌then◌else◌, List, ◌++◌, length, drop, bit_and}
use Rattle.sctp_util.specs.Field.{be16, be32, u16_at, u32_at}
use Rattle.sctp_data.specs.declared.chunk.chunk_payload_data.PayloadProtocolIdentifier.{PayloadProtocolIdentifier}
use Rattle.sctp_data.specs.declared.chunk.chunk_payload_data.PayloadProtocolIdentifier.TheVariants.{Dcep, String, Binary, StringEmpty, BinaryEmpty, Unknown}
use Rattle.sctp_data.specs.declared.chunk.chunk_payload_data.ChunkPayloadData.{ChunkPayloadData}

-- the wire part of a DATA chunk
pub record Data : Type 0 where
  pub unordered : Bool
  pub beginning_fragment : Bool
  pub ending_fragment : Bool
  pub immediate_sack : Bool
  pub tsn : ℕ
  pub stream_identifier : ℕ
  pub stream_sequence_number : ℕ
  pub payload_type : PayloadProtocolIdentifier
  pub user_data : List ℕ

abbrev pub data_of : ChunkPayloadData → Data
data_of c = record {
  unordered = c.unordered;
  beginning_fragment = c.beginning_fragment;
  ending_fragment = c.ending_fragment;
  immediate_sack = c.immediate_sack;
  tsn = c.tsn;
  stream_identifier = c.stream_identifier;
  stream_sequence_number = c.stream_sequence_number;
  payload_type = c.payload_type;
  user_data = c.user_data;
}

-- ---- payload types

unfoldable pub payload_type_from : ℕ → PayloadProtocolIdentifier
payload_type_from n =
    if n == 50 then Dcep
    else (if n == 51 then String
    else (if n == 53 then Binary
    else (if n == 56 then StringEmpty
    else (if n == 57 then BinaryEmpty else Unknown))))

unfoldable pub payload_type_number : PayloadProtocolIdentifier → ℕ
payload_type_number Dcep = 50
payload_type_number String = 51
payload_type_number Binary = 53
payload_type_number StringEmpty = 56
payload_type_number BinaryEmpty = 57
payload_type_number Unknown = 58

-- ---- flags

-- whether the flags have the bit of the mask: 1 is E, the last fragment; 2 B, the first; 4 U, unordered; 8 I
abbrev pub has_flag : ℕ → ℕ → Bool
has_flag flags mask = not (bit_and flags mask == 0)

abbrev pub weight : Bool → ℕ → ℕ
weight b mask = if b then mask else 0

unfoldable pub data_flags : Data → ℕ
data_flags d =
    weight d.ending_fragment 1 + weight d.beginning_fragment 2 + weight d.unordered 4
    + weight d.immediate_sack 8

-- ---- reading and writing

-- what flags and value say
abbrev pub data_in : ℕ → List ℕ → Data
data_in flags value = record {
  ending_fragment = has_flag flags 1;
  beginning_fragment = has_flag flags 2;
  unordered = has_flag flags 4;
  immediate_sack = has_flag flags 8;
  tsn = u32_at value 0;
  stream_identifier = u16_at value 4;
  stream_sequence_number = u16_at value 6;
  payload_type = payload_type_from (u32_at value 8);
  user_data = drop 12 value;
}

pub record ReadsData (flags : ℕ) (value : List ℕ) (d : Data) : Type 0 where
  pub long : 12 ≤ length value
  pub fields : d ≡ data_in flags value

unfoldable pub data_value : Data → List ℕ
data_value d =
    be32 d.tsn ++ be16 d.stream_identifier ++ be16 d.stream_sequence_number
    ++ be32 (payload_type_number d.payload_type) ++ d.user_data
