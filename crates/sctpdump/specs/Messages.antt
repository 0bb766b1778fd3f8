-- What is read of a stream.
use Rattle.std.specs.Prelude.{◌≡◌, ℕ, List, [], ◌∷◌, ◌++◌, Some, option_map}
use Rattle.sctp_data.specs.declared.chunk.chunk_payload_data.ChunkPayloadData.{ChunkPayloadData}
use Rattle.sctp_reassembly.specs.declared.reassembly_queue.chunks.Chunks.{Chunks}
use Rattle.sctp_reassembly.specs.reassembly_queue.ReassemblyQueue.{at_start}
use Rattle.sctp_receiver.specs.declared.receiver.arrival.Arrival.{Arrival}
use Rattle.sctp_receiver.specs.Receiver.{Reception, Takes, message_on, after_read}

-- messages are read of a stream, one after the other, each as the receiver gives it
unfoldable pub Reads : ℕ → List Chunks → Reception → Reception → Type 0
Reads stream [] old new = new ≡ old
Reads stream (m ∷ ms) old new =
    (option_map at_start (message_on stream old) ≡ Some m)
    × Reads stream ms (after_read stream old) new

-- and they are appended to those that were read before
pub record ReadsOnto (stream : ℕ) (before after : List Chunks) (old new : Reception) : Type 0 where
  pub messages : List Chunks
  pub read : Reads stream messages old new
  pub joined : after ≡ before ++ messages

-- a DATA chunk is taken, and then messages of its stream are read
pub record TakesChunk (chunk : ChunkPayloadData) (arrival : Arrival) (before after : List Chunks)
    (old new : Reception) : Type 0 where
  pub mid : Reception
  pub taken : Takes chunk arrival old mid
  pub read : ReadsOnto chunk.stream_identifier before after mid new
