-- DATA chunks that are sent with a payload type, of which any number may be (RFC 9260 3.3.1).
use Rattle.std.specs.Prelude.{ℕ, List, ◌++◌}
use Rattle.sctp_util.specs.Field.{be16, be32}
use Rattle.sctp_chunks.specs.Framing.{chunk_encoding}
use Rattle.sctp_data.specs.declared.chunk.chunk_payload_data.ChunkPayloadData.{ChunkPayloadData}
use Rattle.sctp_data.specs.PayloadData.{Data, data_flags, data_of}
use Rattle.sctp_c.specs.declared.sender.types.Noted.{Noted}
use Rattle.sctp_c.specs.Types.{type_sent}

-- a DATA chunk with a payload type
abbrev pub value_with : ℕ → Data → List ℕ
value_with n d =
    be32 d.tsn ++ be16 d.stream_identifier ++ be16 d.stream_sequence_number ++ be32 n ++ d.user_data

abbrev pub encoding_with : ℕ → Data → List ℕ
encoding_with n d = chunk_encoding 0 (data_flags d) (value_with n d)

-- a chunk as it is sent, where these payload types are noted
abbrev pub as_sent : List Noted → ChunkPayloadData → List ℕ
as_sent rs c = encoding_with (type_sent rs c) (data_of c)
