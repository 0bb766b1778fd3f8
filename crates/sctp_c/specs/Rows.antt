-- What a caller in C is told of chunks and messages: a row for each.
use Rattle.std.specs.Prelude.{List, length, is_some}
use Rattle.sctp_data.specs.declared.chunk.chunk_payload_data.ChunkPayloadData.{ChunkPayloadData}
use Rattle.sctp_outbound.specs.declared.payload_queue.outstanding.Outstanding.{Outstanding}
use Rattle.sctp_sender.specs.declared.sender.flight.Released.{Released}
use Rattle.sctp_sender.specs.declared.sender.flight.kept.TakenBack.{TakenBack}
use Rattle.sctp_sender.specs.declared.sender.flight.late.AbandonedMessage.{AbandonedMessage}
use Rattle.sctp_c.specs.declared.sender.abandoning.SctpAbandoned.{SctpAbandoned}
use Rattle.sctp_c.specs.declared.sender.acks.SctpAcked.{SctpAcked}
use Rattle.sctp_c.specs.declared.sender.acks.SctpTakenBack.{SctpTakenBack}
use Rattle.sctp_c.specs.declared.sender.queries.SctpInFlight.{SctpInFlight}
use Rattle.sctp_c.specs.declared.sender.queries.SctpOutstanding.{SctpOutstanding}
use Rattle.sctp_c.specs.Flags.{flag, moment}
use Rattle.sctp_c.specs.declared.sender.types.Noted.{Noted}
use Rattle.sctp_c.specs.Types.{type_sent}

-- of what is outstanding
abbrev pub outstanding_row : Outstanding → SctpOutstanding
outstanding_row o = record { bytes = o.bytes; chunks = o.chunks; marked = o.marked }

-- of a chunk that was acknowledged
abbrev pub acked_row : Released → SctpAcked
acked_row r = record {
  bytes = r.bytes;
  message = r.message;
  sent_at = moment r.since;
  tsn = r.tsn;
  sent = r.nsent;
  stream = r.stream;
  has_sent_at = flag (is_some r.since);
  is_message_acked = flag r.is_message_acked;
  is_low = flag r.is_low;
}

-- of a chunk whose acknowledgement was taken back
abbrev pub taken_back_row : TakenBack → SctpTakenBack
taken_back_row b = record {
  bytes = b.bytes;
  message = b.message;
  tsn = b.tsn;
  stream = b.stream;
}

-- of a message that was abandoned
abbrev pub abandoned_row : AbandonedMessage → SctpAbandoned
abandoned_row a = record {
  bytes = a.bytes;
  number = a.number;
  stream = a.stream;
  is_low = flag a.is_low;
}

-- of a chunk in flight
abbrev pub in_flight_row : List Noted → ChunkPayloadData → SctpInFlight
in_flight_row rs c = record {
  size = length c.user_data;
  message = c.message_id;
  sent_at = moment c.since;
  tsn = c.tsn;
  sent = c.nsent;
  payload_type = type_sent rs c;
  stream = c.stream_identifier;
  sequence = c.stream_sequence_number;
  is_unordered = flag c.unordered;
  is_acked = flag c.acked;
  is_abandoned = flag c.abandoned;
  is_marked = flag c.retransmit;
}
