-- What a caller of both hosts says of the messages that it passes on.
use Rattle.std.specs.Prelude.{◌≡◌, ℕ, ◌+◌, ◌≤◌, true, All, List, length}
use Rattle.std.specs.List.{list_all}
use Rattle.sctp_data.specs.declared.chunk.chunk_payload_data.ChunkPayloadData.{ChunkPayloadData}
use Rattle.sctp_data.specs.declared.chunk.chunk_payload_data.PayloadProtocolIdentifier.{PayloadProtocolIdentifier}
use Rattle.sctp_reassembly.specs.reassembly_queue.Fragments.{payload_of}
use Rattle.sctp_receiver.specs.Receiver.{Reception}
use Rattle.sctp_sender.specs.Sender.{Transmission}
use Rattle.sctp_delivery.specs.InOrder.{keeps_order, read_from, written_to}
use Rattle.sctp_delivery.specs.Stand.{AreIn, Stand, given_in}

-- no call made the stream unordered, and all that was written to it was read
pub record IsReady (stream : ℕ) (st : Stand) : Type 0 where
  pub ordered : list_all (keeps_order stream) st.calls ≡ true
  pub read : length (written_to stream st.session) ≤ length (read_from stream st.session)

-- some calls went on from one to the other, so many of the sender at most: none wrote, read, or made the stream unordered
pub record GoesOn (stream count : ℕ) (old new : Stand) : Type 0 where
  pub given : given_in new ≤ given_in old + count
  pub written : new.session.written ≡ old.session.written
  pub read : new.session.receiving.read ≡ old.session.receiving.read
  pub ordered : list_all (keeps_order stream) new.calls
      ≡ list_all (keeps_order stream) old.calls

-- the hosts stand there then
pub record Exchanges (stream count : ℕ) (old : Stand) (sender : Transmission)
    (receiver : Reception) : Type 0 where
  pub stand : Stand
  pub there : AreIn sender receiver stand
  pub goes_on : GoesOn stream count old stand

-- they stand where all was read again, with these fragments the message
pub record Delivers (stream count : ℕ) (ppi : PayloadProtocolIdentifier) (bytes : List ℕ)
    (fragments : List ChunkPayloadData) (old : Stand) (sender : Transmission)
    (receiver : Reception) : Type 0 where
  pub stand : Stand
  pub there : AreIn sender receiver stand
  pub ready : IsReady stream stand
  pub given : given_in stand ≤ given_in old + count
  pub payload_type : All (λ c. c.payload_type ≡ ppi) fragments
  pub payload : payload_of fragments ≡ bytes
