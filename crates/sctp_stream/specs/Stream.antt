-- What a stream keeps, its fragments and its counters.
use Rattle.std.specs.Prelude.{ℕ, ◌+◌, ◌-◌, ◌%◌, ◌^◌, Bool, false, ◌&&◌, not, ◌==◌, nat_lt, nat_le, ℤ, pos, negsuc, if◌then◌else◌, List, [], length, map}
use Rattle.std.specs.Prelude.{slice_index_or}
use Rattle.sctp_util.specs.Kept.{numbers_from}
use Rattle.sctp_util.specs.Lists.{pieces}
use Rattle.sctp_data.specs.ChunkSet.{fresh}
use Rattle.sctp_data.specs.declared.chunk.chunk_payload_data.PayloadProtocolIdentifier.{PayloadProtocolIdentifier}
use Rattle.sctp_data.specs.declared.chunk.chunk_payload_data.ChunkPayloadData.{ChunkPayloadData}
use Rattle.sctp_data.specs.PayloadTypes.{is_ordered}
use Rattle.sctp_stream.specs.declared.outbound_stream.OutboundStream.{OutboundStream}
use Rattle.sctp_stream.specs.declared.stream.StreamState.{StreamState}
use Rattle.sctp_data.specs.declared.chunk.chunk_payload_data.ReliabilityType.TheVariants.{Reliable}
use Rattle.sctp_stream.specs.declared.stream.RecvSendState.TheVariants.{ReadWritable}
use Rattle.sctp_stream.specs.Stats.{count_up}

-- ## Fragments of a write (RFC 4960 6.9)

-- a fragment as a stream makes it: it has no TSN yet
abbrev pub fragment : OutboundStream → PayloadProtocolIdentifier → Bool → Bool → List ℕ
    → ChunkPayloadData
fragment s ppi begins ends bytes = fresh (record {
  unordered = not (is_ordered s.unordered ppi);
  beginning_fragment = begins;
  ending_fragment = ends;
  immediate_sack = false;
  tsn = 0;
  stream_identifier = s.stream_identifier;
  stream_sequence_number = s.sequence_number;
  payload_type = ppi;
  user_data = bytes;
})

-- the bytes of a write in pieces of the fragment size
abbrev pub pieces_of : OutboundStream → List ℕ → List (List ℕ)
pieces_of s bytes = pieces (length bytes) s.max_payload_size bytes

-- fragment i of a write: the first begins, the last ends
abbrev pub fragment_at : OutboundStream → PayloadProtocolIdentifier → List ℕ → ℕ → ChunkPayloadData
fragment_at s ppi bytes i =
    fragment s ppi (i == 0) (i + 1 == length (pieces_of s bytes))
    (slice_index_or (pieces_of s bytes) i [])

abbrev pub fragments_of : OutboundStream → PayloadProtocolIdentifier → List ℕ → List ChunkPayloadData
fragments_of s ppi bytes =
    map (fragment_at s ppi bytes) (numbers_from 0 (length (pieces_of s bytes)))

-- an ordered write of some bytes takes a number, which wraps
abbrev pub number_after : OutboundStream → PayloadProtocolIdentifier → List ℕ → ℕ
number_after s ppi bytes =
    if is_ordered s.unordered ppi && nat_lt 0 (length bytes) then (s.sequence_number + 1) % 2 ^ 16
    else s.sequence_number

abbrev pub after_write : OutboundStream → PayloadProtocolIdentifier → List ℕ → OutboundStream
after_write s ppi bytes =
    record s {
      sequence_number = number_after s ppi bytes;
      buffered_amount = count_up s.buffered_amount (length bytes);
    }

-- the amount rose from under the high threshold to at least it
abbrev pub rises_high : OutboundStream → ℕ → Bool
rises_high s more =
    nat_lt s.buffered_amount s.buffered_amount_high
    && nat_le s.buffered_amount_high (count_up s.buffered_amount more)

-- ## Released bytes

abbrev pub positive_part : ℤ → ℕ
positive_part (pos n) = n
positive_part (negsuc n) = 0

-- the amount fell from over the low threshold to at most it
abbrev pub falls_low : OutboundStream → ℕ → Bool
falls_low s less =
    nat_lt 0 less && (nat_lt s.buffered_amount_low s.buffered_amount
    && nat_le (s.buffered_amount - less) s.buffered_amount_low)

-- ## A new stream

abbrev pub new_stream : ℕ → ℕ → OutboundStream
new_stream id size = record {
  stats =
      record {
        stream_identifier = id;
        generation = 0;
        messages_sent = 0;
        bytes_sent = 0;
        messages_received = 0;
        bytes_received = 0;
      };
  max_payload_size = size;
  stream_identifier = id;
  sequence_number = 0;
  unordered = false;
  reliability_type = Reliable;
  reliability_value = 0;
  buffered_amount = 0;
  buffered_amount_low = 0;
  buffered_amount_high = 2 ^ 64 - 1;
}

-- and what came on it
abbrev pub new_state : ℕ → ℕ → ℕ → PayloadProtocolIdentifier → StreamState
new_state id size max ppi = record {
  outbound = new_stream id size;
  first_message_id = 0;
  default_payload_type = ppi;
  reassembly_queue =
      record {
        si = id;
        held = record {
          next_ssn = 0;
          ordered = [];
          unordered = [];
          unassembled = [];
        };
        bytes = 0;
        max_message_size = max;
        places = 0;
      };
  state = ReadWritable;
}
