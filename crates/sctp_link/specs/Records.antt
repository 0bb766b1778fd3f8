-- What a link keeps of its messages, slots, datagrams and streams, as the record says it.
use Rattle.std.specs.Prelude.{ℕ, map}
use Rattle.sctp_link.specs.declared.record.Message.{Message}
use Rattle.sctp_link.specs.declared.record.Slot.{Slot}
use Rattle.sctp_link.specs.declared.record.Kind.{Kind}
use Rattle.sctp_link.specs.declared.record.Kind.TheVariants as K
use Rattle.sctp_link.specs.declared.record.Datagram.{Datagram}
use Rattle.sctp_link.specs.Streams.{OpenStream}
use Rattle.sctp_model.specs.LinkRecord as W
use Rattle.sctp_outbound.specs.payload_queue.Blocks.{ends_of}

-- a message
abbrev pub message_record : Message → W.Message
message_record m =
    record {
      stream = m.stream;
      ordered = m.ordered;
      ppi = m.ppi;
      bytes = m.bytes;
      reliability = m.reliability;
      value = m.value;
      before = m.before;
      started = m.started;
      expired = m.expired;
      abandoned = m.abandoned;
      read = m.read;
    }

-- how many fragments of a message have slots, and its index
abbrev pub progress_of : Message → ℕ × ℕ
progress_of m = (m.sent, m.index)

-- a slot
abbrev pub slot_record : Slot → W.Slot
slot_record x =
    record {
      message = x.message;
      fragment = x.fragment;
      is_terminal_chunk = x.is_terminal_chunk;
      arrived = x.arrived;
      acknowledged = x.acknowledged;
    }

-- a datagram: slots, a FORWARD-TSN or a SACK
abbrev pub kind_record : Kind → W.Datagram
kind_record (K.Data places) = W.Data places.items
kind_record (K.Forward upto messages) = W.Forward upto messages.items
kind_record (K.Sack cumulative credit blocks duplicates) =
    W.Sack (record {
      cumulative = cumulative;
      credit = credit;
      blocks = map ends_of blocks.items;
      duplicates = duplicates.items;
    })

abbrev pub datagram_record : Datagram → W.Datagram
datagram_record d = kind_record d.kind

-- a stream
abbrev pub stream_record : OpenStream → W.StreamRecord
stream_record l =
    record {
      stream = l.state.stream_identifier;
      unordered = l.state.unordered;
      reliability = l.state.reliability_type;
      value = l.state.reliability_value;
      named = l.named;
      complete = l.complete;
    }
