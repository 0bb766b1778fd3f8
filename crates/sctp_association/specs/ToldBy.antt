-- What a chunk that is taken has told without fail: a buffered amount that falls, and a message that is too long (RFC 9260 6.2, 6.2.1, 9.2, 11.2).
use Rattle.std.specs.Prelude.{◌≡◌, ℕ, true, List, drop, Some, IfSome}
use Rattle.sctp_association.specs.AcksDue.{entered_on}
use Rattle.sctp_association.specs.Brought.{falls_by}
use Rattle.sctp_association.specs.Lows.{PutsAll}
use Rattle.sctp_association.specs.StreamSet.{is_in}
use Rattle.sctp_association.specs.Telling.{HasPlaces}
use Rattle.sctp_association.specs.declared.association.Association.{Association}
use Rattle.sctp_association.specs.declared.inbound.Inbound.{Inbound}
use Rattle.sctp_chunks.specs.Wire.{data_chunk, sack_chunk}
use Rattle.sctp_data.specs.PayloadData.{data_of}
use Rattle.sctp_data.specs.SelectiveAck.{Sack}
use Rattle.sctp_data.specs.declared.chunk.chunk_payload_data.ChunkPayloadData.{ChunkPayloadData}
use Rattle.sctp_datagram.specs.Framing.{StartsWith}
use Rattle.sctp_datagram.specs.declared.datagram.ChunkPlace.{ChunkPlace}
use Rattle.sctp_receiver.specs.Receiver.{arrival_refusal}
use Rattle.sctp_receiver.specs.declared.receiver.refusal.ReceiverRefusal.TheVariants.{MessageTooLarge}
use Rattle.sctp_sender.specs.Thresholds.{fell}

-- each stream whose amount falls by the SACK waits to be told
pub record TellsBySack (c : ChunkPlace) (datagram : List ℕ) (old new : Association) : Type 0 where
  pub sack : Sack
  pub reads : StartsWith (drop c.at datagram) (sack_chunk sack)
  pub told : PutsAll (λ s. falls_by s sack old.outbound) old.events.low new.events.low

-- so does each whose amount was above its low threshold, and is not behind the SHUTDOWN
abbrev pub TellsByShutdown : (old new : Association) → Type 0
TellsByShutdown old new =
    PutsAll (λ s. fell s old.outbound.sender new.outbound.sender) old.events.low new.events.low

-- Where the receiver that the DATA chunk comes to refuses it, since its message is too long, that waits to be told of its stream.
pub record TellsLong (c : ChunkPlace) (datagram : List ℕ) (i : Inbound) (new : Association)
    : Type 0 where
  pub chunk : ChunkPayloadData
  pub reads : StartsWith (drop c.at datagram) (data_chunk (data_of chunk))
  pub told : arrival_refusal chunk (entered_on chunk i) ≡ Some MessageTooLarge
      → is_in chunk.stream_identifier new.events.too_long ≡ true

-- each open stream has a place among those of which that waits
abbrev pub TellsByData : ChunkPlace → List ℕ → (old new : Association) → Type 0
TellsByData c datagram old new =
    HasPlaces old.inbound old.events → IfSome old.inbound (λ i. TellsLong c datagram i new)

-- so it is by the type of the chunk
pub record TellsBy (c : ChunkPlace) (datagram : List ℕ) (old new : Association) : Type 0 where
  pub sack : c.typ ≡ 3 → TellsBySack c datagram old new
  pub shutdown : c.typ ≡ 7 → TellsByShutdown old new
  pub long : c.typ ≡ 0 → TellsByData c datagram old new
