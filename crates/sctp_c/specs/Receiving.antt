-- What the calls of a receiver answer a caller in C.
use Rattle.std.specs.Prelude.{◌≡◌, ℕ, Bool, ◌^◌, ◌-◌, ◌%◌, List, [], ◌∷◌, length, min, Option, Some, None}
use Rattle.sctp_chunks.specs.Wire.{ReadsChunk, encoding_of, data_chunk, forward_tsn_chunk, sack_chunk}
use Rattle.sctp_data.specs.ChunkSet.{ChunkSet, fresh}
use Rattle.sctp_data.specs.ForwardTsn.{ForwardTsn}
use Rattle.sctp_data.specs.PayloadData.{Data}
use Rattle.sctp_data.specs.declared.chunk.chunk_payload_data.ChunkPayloadData.{ChunkPayloadData}
use Rattle.sctp_datagram.specs.Framing.{StartsWith}
use Rattle.sctp_reassembly.specs.reassembly_queue.Fragments.{payload_of}
use Rattle.sctp_receiver.specs.declared.receiver.arrival.Arrival.{Arrival}
use Rattle.sctp_receiver.specs.declared.receiver.arrival.Arrival.TheVariants.{New}
use Rattle.sctp_receiver.specs.declared.receiver.arrival.Forwarded.{Forwarded}
use Rattle.sctp_receiver.specs.declared.receiver.arrival.Forwarded.TheVariants.{Skipped, Stale}
use Rattle.sctp_receiver.specs.declared.receiver.refusal.ReceiverRefusal.{ReceiverRefusal}
use Rattle.sctp_receiver.specs.Receiver.{Reception, TakesFirstBy, arrival_refusal, forwarded_of, message_on, sack_within, after_sack_within, window}
use Rattle.sctp_receiver.specs.Skips.{after_forward_tsn}
use Rattle.sctp_serial.specs.DataChunks.{bytes_of}
use Rattle.sctp_c.specs.Answered.{payload_type_at}
use Rattle.sctp_c.specs.Flags.{flag}
use Rattle.sctp_c.specs.Out.{at_front}
use Rattle.sctp_c.specs.Codes.{receiver_code}

-- the code of a refusal for a reason, or for want of memory where there is none
abbrev pub receiver_code_for : Option ReceiverRefusal → ℕ
receiver_code_for None = 16
receiver_code_for (Some e) = receiver_code e

-- ## Payload types, of which any number may come (RFC 9260 3.3.1)

-- a DATA chunk as it is kept: its payload type stands where a sender keeps the number of the message
abbrev pub kept_with : ℕ → Data → ChunkPayloadData
kept_with payload_type d = record (fresh d) { message_id = payload_type }

-- the payload type of a message: as it came with its first fragment
abbrev pub payload_type_of : List ChunkPayloadData → ℕ
payload_type_of [] = 0
payload_type_of (c ∷ cs) = c.message_id % 2 ^ 32

-- ## Bytes that are handed in

-- they are a DATA chunk, which is taken with this answer
pub record TakesData (bytes : List ℕ) (a : Arrival) (old new : Reception) : Type 0 where
  pub wire : Data
  pub reads : StartsWith bytes (data_chunk wire)
  pub taken : TakesFirstBy arrival_refusal (kept_with (payload_type_at bytes) wire) a old new

-- the same, where its TSN is new: 1 is told where a message of its stream became complete with it, else 0
abbrev pub TakesNew : List ℕ → ℕ → Reception → Reception → Type 0
TakesNew bytes answered old new =
    (complete : Bool) × ((answered ≡ flag complete) × TakesData bytes (New complete) old new)

-- they are a DATA chunk, which is refused
pub record RefusesData (bytes : List ℕ) (code : ℕ) (old : Reception) : Type 0 where
  pub wire : Data
  pub reads : StartsWith bytes (data_chunk wire)
  pub number : code
      ≡ receiver_code_for (arrival_refusal (kept_with (payload_type_at bytes) wire) old)

abbrev pub forwarded_code : Forwarded → ℕ
forwarded_code Skipped = 0
forwarded_code Stale = 2

-- they are a FORWARD-TSN, which is followed or stale; how a refusal is told is handed in
pub record TakesForwardTsn (refusal : ForwardTsn → Reception → Option ReceiverRefusal)
    (bytes : List ℕ) (code : ℕ) (old new : Reception) : Type 0 where
  pub forward : ForwardTsn
  pub reads : ReadsChunk bytes (forward_tsn_chunk forward)
  pub accepted : refusal forward old ≡ None
  pub answer : code ≡ forwarded_code (forwarded_of forward old)
  pub after : new ≡ after_forward_tsn forward old

-- they are a FORWARD-TSN, which is refused
pub record RefusesForwardTsn (refusal : ForwardTsn → Reception → Option ReceiverRefusal)
    (bytes : List ℕ) (code : ℕ) (old : Reception) : Type 0 where
  pub forward : ForwardTsn
  pub reads : ReadsChunk bytes (forward_tsn_chunk forward)
  pub reason : ReceiverRefusal
  pub refused : refusal forward old ≡ Some reason
  pub number : code ≡ receiver_code reason

-- ## SACK

-- how many bytes of a buffer a SACK may take: its length is a multiple of four that two bytes declare
abbrev pub sack_room : List ℕ → ℕ
sack_room out = min (length out) 65532

-- the SACK that fits the room
abbrev pub sack_for : List ℕ → Reception → List ℕ
sack_for out r = encoding_of (sack_chunk (sack_within (window r) (sack_room out) r))

-- it stands at the front of the buffer, and the duplicates that it tells are forgotten
pub record WritesSack (out_old out_new : List ℕ) (written : ℕ) (old new : Reception) : Type 0 where
  pub bytes : out_new ≡ at_front (sack_for out_old old) out_old
  pub size : written ≡ length (sack_for out_old old)
  pub after : new ≡ after_sack_within (sack_room out_old) old

-- ## Messages

-- the next message of a stream: its length, up to the greatest usize, and its payload type are told
pub record TellsNext (stream answered_size payload_type : ℕ) (r : Reception) : Type 0 where
  pub message : ChunkSet
  pub next : message_on stream r ≡ Some message
  pub size : answered_size ≡ min (bytes_of message.chunks) (2 ^ 64 - 1)
  pub typ : payload_type ≡ payload_type_of message.chunks

-- and its bytes stand at the front of the buffer, as many as are told
pub record ReadsNext (stream : ℕ) (out_old out_new : List ℕ) (answered_size payload_type : ℕ)
    (r : Reception) : Type 0 where
  pub message : ChunkSet
  pub next : message_on stream r ≡ Some message
  pub bytes : out_new ≡ at_front (payload_of message.chunks) out_old
  pub size : answered_size ≡ length (payload_of message.chunks)
  pub typ : payload_type ≡ payload_type_of message.chunks
