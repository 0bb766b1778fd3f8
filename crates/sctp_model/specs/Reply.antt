-- What a link answers.
use Rattle.std.specs.Prelude.{ℕ, Option}
use Rattle.sctp_data.specs.declared.chunk.chunk_payload_data.PayloadProtocolIdentifier.{PayloadProtocolIdentifier}
use Rattle.sctp_data.specs.ChunkSet.{ChunkSet}

-- what a link answers to an accepted event
pub data Reply : Type 0 where
  Opened : Reply
  «Set» : Reply
  -- the number of the message, none for an empty write, and how many fragments it has
  Wrote : (number : Option ℕ) (fragments : ℕ) → Reply
  Started : Reply
  -- the datagram, the TSN and the SSN of its first chunk, and how many chunks it has
  Sent : (datagram tsn ssn count : ℕ) → Reply
  Idle : Reply
  Resent : (datagram : ℕ) → Reply
  Expired : (stream bytes : ℕ) → Reply
  Released : (stream bytes : ℕ) → Reply
  Late : (listed bytes : ℕ) → Reply
  Skip : (datagram : ℕ) → Reply
  Ack : (datagram : ℕ) → Reply
  New : Reply
  Repeat : Reply
  Skipped : Reply
  Stale : Reply
  Acked : (bytes : ℕ) → Reply
  -- the stream, the payload type, and the chunks of the message
  Message : (stream : ℕ) (ppi : PayloadProtocolIdentifier) (chunks : ChunkSet) → Reply
  Nothing : Reply
