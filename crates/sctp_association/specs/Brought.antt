-- Which events a chunk brings: no other one waits that did not wait before (RFC 9260 11.2).
use Rattle.std.specs.Prelude.{◌≡◌, ◌⊎◌, ℕ, Bool, true, List, drop, Some, is_some}
use Rattle.sctp_association.specs.Acks.{without_blocks}
use Rattle.sctp_association.specs.AcksDue.{entered_on}
use Rattle.sctp_association.specs.Events.{brought_at, peers_from}
use Rattle.sctp_association.specs.Paths.{taken_as}
use Rattle.sctp_association.specs.Reads.{message_in}
use Rattle.sctp_association.specs.StreamSet.{is_in}
use Rattle.sctp_association.specs.Telling.{Stays}
use Rattle.sctp_association.specs.declared.association.Association.{Association}
use Rattle.sctp_association.specs.declared.event.Events.{Events}
use Rattle.sctp_association.specs.declared.inbound.Inbound.{Inbound}
use Rattle.sctp_association.specs.declared.outbound.Outbound.{Outbound}
use Rattle.sctp_chunks.specs.Wire.{data_chunk, sack_chunk, shutdown_chunk}
use Rattle.sctp_data.specs.declared.chunk.chunk_payload_data.ChunkPayloadData.{ChunkPayloadData}
use Rattle.sctp_data.specs.PayloadData.{data_of}
use Rattle.sctp_data.specs.SelectiveAck.{Sack}
use Rattle.sctp_datagram.specs.Framing.{StartsWith}
use Rattle.sctp_datagram.specs.declared.datagram.ChunkPlace.{ChunkPlace}
use Rattle.sctp_receiver.specs.Receiver.{Reception, arrival_refusal, message_on}
use Rattle.sctp_receiver.specs.declared.receiver.refusal.ReceiverRefusal.TheVariants.{MessageTooLarge}
use Rattle.sctp_sender.specs.Sender.{Transmission, after_acked, after_take_back}
use Rattle.sctp_sender.specs.Thresholds.{fell}

-- ## Of which streams

-- each number that the set has and did not have is such a one
abbrev pub AddsOnly : (ℕ → Type 0) → (old new : List Bool) → Type 0
AddsOnly P old new = (s : ℕ) → is_in s new ≡ true → (is_in s old ≡ true) ⊎ P s

-- Of events only those of such streams are added: of which a message can be read, or is too long. Of no other stream it waits that the peer has reset it.
pub record NotesOnly (read long : ℕ → Type 0) (old new : Events) : Type 0 where
  pub rest : new ≡ peers_from old new
  pub readable : AddsOnly read old.readable new.readable
  pub too_long : AddsOnly long old.too_long new.too_long
  pub reset_by_peer : Stays new.reset_by_peer old.reset_by_peer

-- it is the stream of the DATA chunk, and a message of it can be read
abbrev pub IsReadOf : ChunkPayloadData → Reception → ℕ → Type 0
IsReadOf d r s = (d.stream_identifier ≡ s) × (is_some (message_on s r) ≡ true)

-- it is that stream, and the receiver refuses the chunk, since its message is too long
abbrev pub IsLargeOf : ChunkPayloadData → Reception → ℕ → Type 0
IsLargeOf d r s = (d.stream_identifier ≡ s) × (arrival_refusal d r ≡ Some MessageTooLarge)

-- so it is of the receiver that it comes to
abbrev pub IsLongOf : ChunkPayloadData → Inbound → ℕ → Type 0
IsLongOf d i s = IsLargeOf d (entered_on d i) s

-- ## A chunk

-- the chunk is DATA of this stream
pub record IsDataOn (c : ChunkPlace) (datagram : List ℕ) (s : ℕ) : Type 0 where
  pub chunk : ChunkPayloadData
  pub reads : StartsWith (drop c.at datagram) (data_chunk (data_of chunk))
  pub is : chunk.stream_identifier ≡ s

-- behind the chunk a message of the stream can be read, which by DATA is the stream of that
pub record BringsMessage (c : ChunkPlace) (datagram : List ℕ) (new : Association) (s : ℕ)
    : Type 0 where
  pub message : is_some (message_in s new.inbound) ≡ true
  pub own : c.typ ≡ 0 → IsDataOn c datagram s

-- the chunk is DATA of this stream, and its message is too long
pub record IsLongOn (c : ChunkPlace) (datagram : List ℕ) (old : Association) (s : ℕ)
    : Type 0 where
  pub there : Inbound
  pub is : old.inbound ≡ Some there
  pub chunk : ChunkPayloadData
  pub reads : StartsWith (drop c.at datagram) (data_chunk (data_of chunk))
  pub long : IsLongOf chunk there s

-- the buffered amount of the stream falls from above its low threshold to at most it, as this SACK is taken
abbrev pub falls_at : ℕ → Sack → Transmission → Bool
falls_at s k t = fell s t (after_acked k t)

-- what the SACK takes back waits again before
abbrev pub falls_by : ℕ → Sack → Outbound → Bool
falls_by s k o = falls_at s (taken_as k o) (after_take_back (taken_as k o) o.sender)

-- so it is by the SACK, or by the SHUTDOWN, which acknowledges up to its TSN
pub data IsLowBy (c : ChunkPlace) (datagram : List ℕ) (old : Association) (s : ℕ) : Type 0 where
  low_by_sack : (k : Sack) → StartsWith (drop c.at datagram) (sack_chunk k)
      → falls_by s k old.outbound ≡ true → IsLowBy c datagram old s
  low_by_shutdown : (tsn : ℕ) → StartsWith (drop c.at datagram) (shutdown_chunk tsn)
      → falls_at s (without_blocks tsn) old.outbound.sender ≡ true → IsLowBy c datagram old s

-- A chunk brings these events, and no others. What it brings of resets is not said here.
pub record BringsOnly (c : ChunkPlace) (datagram : List ℕ) (old new : Association) : Type 0 where
  pub by_type : new.events ≡ brought_at c.typ old.events new.events
  pub readable : (c.typ ≡ 130 → ⊥)
      → AddsOnly (BringsMessage c datagram new) old.events.readable new.events.readable
  pub too_long : AddsOnly (IsLongOn c datagram old) old.events.too_long new.events.too_long
  pub low : AddsOnly (IsLowBy c datagram old) old.events.low new.events.low
  pub reset_by_peer : (c.typ ≡ 130 → ⊥)
      → Stays new.events.reset_by_peer old.events.reset_by_peer

-- ## Calls

-- how it ended waits to be told, where it is over; and else nothing more
abbrev pub BringsEnd : (old new : Association) → Type 0
BringsEnd old new = (new.events ≡ old.events)
    ⊎ ((new.is_over ≡ true) × (new.events ≡ record old.events { closed = new.events.closed }))
