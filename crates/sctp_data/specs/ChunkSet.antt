-- The chunks of one message, and chunks as reading gives them.
use Rattle.std.specs.Prelude.{◌≡◌, ℕ, List, false, None}
use Rattle.sctp_data.specs.declared.chunk.chunk_payload_data.PayloadProtocolIdentifier.{PayloadProtocolIdentifier}
use Rattle.sctp_data.specs.declared.chunk.chunk_payload_data.ChunkPayloadData.{ChunkPayloadData}
use Rattle.sctp_data.specs.PayloadData.{Data, data_of}

-- the fragments of one message, by TSN, with its stream sequence number and its payload type
pub record ChunkSet : Type 0 where
  pub ssn : ℕ
  pub ppi : PayloadProtocolIdentifier
  pub chunks : List ChunkPayloadData

-- a DATA chunk as reading gives it: what the sender alone keeps of a chunk is not set
abbrev pub fresh : Data → ChunkPayloadData
fresh d = record {
  unordered = d.unordered;
  beginning_fragment = d.beginning_fragment;
  ending_fragment = d.ending_fragment;
  immediate_sack = d.immediate_sack;
  tsn = d.tsn;
  stream_identifier = d.stream_identifier;
  stream_sequence_number = d.stream_sequence_number;
  payload_type = d.payload_type;
  user_data = d.user_data;
  acked = false;
  miss_indicator = 0;
  message_id = 0;
  abandoned = false;
  since = None;
  reliability = None;
  deadline = None;
  nsent = 0;
  retransmit = false;
}

-- a DATA chunk that is as reading gives it
abbrev pub IsFreshData : ChunkPayloadData → Type 0
IsFreshData c = c ≡ fresh (data_of c)
