-- What each datagram says, as the chunks of a packet (RFC 4960 3.3.1, 3.3.4, RFC 3758 3.2).
use Rattle.std.specs.Prelude.{ℕ, ◌+◌, ◌-◌, ◌%◌, ◌^◌, false, not, ◌==◌, List, map, slice_get, Option, Some, None}
use Rattle.sctp_data.specs.declared.chunk.chunk_payload_data.ChunkPayloadData.{ChunkPayloadData}
use Rattle.sctp_data.specs.PayloadData.{Data}
use Rattle.sctp_data.specs.ChunkSet.{fresh}
use Rattle.sctp_model.specs.LinkRecord.{Datagram, Forward, Sack, LinkRecord}
use Rattle.sctp_model.specs.LinkRecord as W
use Rattle.sctp_model.specs.Messages.{message_at, slot_at, message_of, ssn_of, fragment_at, fragment_count, tsn_of}

-- fragment i of message n as a DATA chunk with this TSN has it
abbrev pub data_fields : LinkRecord → ℕ → ℕ → ℕ → Data
data_fields w n i tsn =
    record {
      unordered = not (message_at w n).ordered;
      beginning_fragment = i == 0;
      ending_fragment = i + 1 == fragment_count w n;
      immediate_sack = false;
      tsn = tsn;
      stream_identifier = (message_at w n).stream;
      stream_sequence_number = ssn_of w n;
      payload_type = (message_at w n).ppi;
      user_data = fragment_at w n i;
    }

-- the DATA chunk of the slot at this place
abbrev pub chunk_at : LinkRecord → ℕ → ChunkPayloadData
chunk_at w place =
    fresh (data_fields w (message_of w place) (slot_at w place).fragment (tsn_of w place))

-- the TSN of the last of so many slots; of none, the one before the first TSN
abbrev pub cumulative_tsn : LinkRecord → ℕ → ℕ
cumulative_tsn w count = (w.setup.first + (2 ^ 32 - 1) + count) % 2 ^ 32

-- the stream and the SSN by which a FORWARD-TSN names a message
abbrev pub name_of : LinkRecord → ℕ → ℕ × ℕ
name_of w n = ((message_at w n).stream, ssn_of w n)

-- what a datagram says
pub data Contents : Type 0 where
  DataContents : (chunks : List ChunkPayloadData) → Contents
  ForwardContents : (cumulative : ℕ) (names : List (ℕ × ℕ)) → Contents
  SackContents : (cumulative : ℕ) (credit : ℕ) (blocks : List (ℕ × ℕ)) (duplicates : List ℕ)
      → Contents

-- what a datagram says
abbrev pub contents_of : LinkRecord → Datagram → Contents
contents_of w (W.Data slots) = DataContents (map (chunk_at w) slots)
contents_of w (Forward upto messages) = ForwardContents (tsn_of w upto) (map (name_of w) messages)
contents_of w (Sack r) =
    SackContents (cumulative_tsn w r.cumulative) r.credit r.blocks (map (tsn_of w) r.duplicates)

-- what a datagram says, where there is one
abbrev pub contents_in : LinkRecord → Option Datagram → Option Contents
contents_in w None = None
contents_in w (Some d) = Some (contents_of w d)

-- what datagram k says, where it was made
abbrev pub datagram : LinkRecord → ℕ → Option Contents
datagram w k = contents_in w (slice_get w.network k)
