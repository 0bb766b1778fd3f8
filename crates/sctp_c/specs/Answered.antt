-- What a caller in C is told of chunks and parameters: their fields as plain numbers, and lists by their lengths.
use Rattle.std.specs.Prelude.{◌≡◌, ℕ, ◌-◌, ◌==◌, min, List, [], length, map}
use Rattle.sctp_util.specs.Field.{u32_at}
use Rattle.sctp_util.specs.Padding.{padded_length}
use Rattle.sctp_params.specs.Param.{Parameter, param_number_of}
use Rattle.sctp_params.specs.ParamFraming.{IsParam, param_declared_length, param_type_at}
use Rattle.sctp_params.specs.ParamKind.{ReadsParam}
use Rattle.sctp_chunks.specs.Framing.{type_at, value_at}
use Rattle.sctp_chunks.specs.Init.{Init, init_in}
use Rattle.sctp_chunks.specs.Wire.{ReadsChunk, data_chunk, sack_chunk, forward_tsn_chunk}
use Rattle.sctp_data.specs.PayloadData.{Data, weight}
use Rattle.sctp_data.specs.SelectiveAck.{Sack}
use Rattle.sctp_data.specs.ForwardTsn.{ForwardTsn}
use Rattle.sctp_data.specs.declared.chunk.chunk_selective_ack.GapAckBlock.{GapAckBlock}
use Rattle.sctp_data.specs.declared.chunk.chunk_forward_tsn.ChunkForwardTsnStream.{ChunkForwardTsnStream}
use Rattle.sctp_datagram.specs.Framing.{StartsWith}
use Rattle.sctp_datagram.specs.InPlace.{HasInit}
use Rattle.sctp_c.specs.Out.{filled}
use Rattle.sctp_c.specs.declared.reading.SctpData.{SctpData}
use Rattle.sctp_c.specs.declared.reading.SctpSack.{SctpSack}
use Rattle.sctp_c.specs.declared.reading.SctpGap.{SctpGap}
use Rattle.sctp_c.specs.declared.reading.SctpSkip.{SctpSkip}
use Rattle.sctp_c.specs.declared.reading.SctpInit.{SctpInit}
use Rattle.sctp_c.specs.declared.reading.SctpParam.{SctpParam}

-- the payload type of the DATA chunk that the bytes begin with, as it came (RFC 9260 3.3.1)
abbrev pub payload_type_at : List ℕ → ℕ
payload_type_at bytes = u32_at (value_at bytes) 8

abbrev pub data_answered : ℕ → Data → SctpData
data_answered payload_type d = record {
  length = length d.user_data;
  tsn = d.tsn;
  payload_type = payload_type;
  stream = d.stream_identifier;
  sequence = d.stream_sequence_number;
  is_unordered = weight d.unordered 1;
  begins = weight d.beginning_fragment 1;
  ends = weight d.ending_fragment 1;
  wants_sack = weight d.immediate_sack 1;
}

abbrev pub sack_answered : Sack → SctpSack
sack_answered s = record {
  blocks = length s.gap_ack_blocks;
  duplicates = length s.duplicate_tsn;
  cumulative_tsn = s.cumulative_tsn_ack;
  credit = s.advertised_receiver_window_credit;
}

abbrev pub gap_answered : GapAckBlock → SctpGap
gap_answered b = record { start = b.start; end = b.end }

abbrev pub skip_answered : ChunkForwardTsnStream → SctpSkip
skip_answered s = record { stream = s.identifier; sequence = s.sequence }

abbrev pub init_answered : Init → SctpInit
init_answered i = record {
  initiate_tag = i.initiate_tag;
  credit = i.advertised_receiver_window_credit;
  initial_tsn = i.initial_tsn;
  outbound_streams = i.num_outbound_streams;
  inbound_streams = i.num_inbound_streams;
  is_ack = weight i.is_ack 1;
}

-- the bytes begin with a DATA chunk of these fields
pub record IsData (bytes : List ℕ) (t : SctpData) : Type 0 where
  pub fields : Data
  pub reads : StartsWith bytes (data_chunk fields)
  pub answered : t ≡ data_answered (payload_type_at bytes) fields

-- the bytes begin with a SACK of these fields; as many blocks and duplicates as there is room for stand in the rows
pub record IsSack (bytes : List ℕ) (t : SctpSack) (old_blocks blocks : List SctpGap)
    (old_duplicates duplicates : List ℕ) : Type 0 where
  pub sack : Sack
  pub reads : StartsWith bytes (sack_chunk sack)
  pub answered : t ≡ sack_answered sack
  pub gaps : blocks ≡ filled (map gap_answered sack.gap_ack_blocks) old_blocks
  pub repeats : duplicates ≡ filled sack.duplicate_tsn old_duplicates

-- the bytes begin with a FORWARD-TSN of this TSN and so many streams; as many of them as there is room for stand in the rows
pub record IsForwardTsn (bytes : List ℕ) (tsn count : ℕ) (old rows : List SctpSkip) : Type 0 where
  pub forward : ForwardTsn
  pub reads : ReadsChunk bytes (forward_tsn_chunk forward)
  pub new_cumulative_tsn : tsn ≡ forward.new_cumulative_tsn
  pub streams : count ≡ length forward.streams
  pub skips : rows ≡ filled (map skip_answered forward.streams) old

-- the bytes begin with an INIT or INIT-ACK of these numbers
pub record IsInit (bytes : List ℕ) (t : SctpInit) : Type 0 where
  pub has : HasInit bytes
  pub answered : t ≡ init_answered (init_in (type_at bytes == 2) (value_at bytes) [])

-- the bytes begin with a parameter of any type, of this type and length; the next one begins behind its padding, or at the end of the bytes
pub record IsAnyParameter (bytes : List ℕ) (t : SctpParam) : Type 0 where
  pub is_param : IsParam bytes
  pub typ : t.typ ≡ param_type_at bytes
  pub value : t.length ≡ param_declared_length bytes - 4
  pub later : t.next ≡ min (padded_length (param_declared_length bytes)) (length bytes)

-- the bytes begin with a parameter of this type and length; the next one begins behind its padding, or at the end of the bytes
pub record IsParameter (bytes : List ℕ) (t : SctpParam) : Type 0 where
  pub parameter : Parameter
  pub reads : ReadsParam bytes parameter
  pub typ : t.typ ≡ param_number_of parameter
  pub value : t.length ≡ param_declared_length bytes - 4
  pub later : t.next ≡ min (padded_length (param_declared_length bytes)) (length bytes)
