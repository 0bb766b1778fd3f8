-- What a DATA chunk comes to on a stream that the peer may use: its user data enters the receiver (RFC 9260 6.2, 6.5).
use Rattle.std.specs.Prelude.{◌≡◌, ◌⊎◌, ℕ, Bool, true, false, if◌then◌else◌, Option, Some, None}
use Rattle.sctp_association.specs.Arrivals.{Receives}
use Rattle.sctp_association.specs.Served.{is_usable}
use Rattle.sctp_association.specs.declared.inbound.Inbound.{Inbound}
use Rattle.sctp_data.specs.declared.chunk.chunk_payload_data.ChunkPayloadData.{ChunkPayloadData}
use Rattle.sctp_receiver.specs.Advice.{advice_for}
use Rattle.sctp_receiver.specs.declared.advice.Advice.TheVariants.{Drop}
use Rattle.sctp_receiver.specs.declared.receiver.arrival.Arrival.{Arrival}
use Rattle.sctp_receiver.specs.declared.receiver.refusal.ReceiverRefusal.{ReceiverRefusal}
use Rattle.sctp_receiver.specs.declared.receiver.refusal.ReceiverRefusal.TheVariants.{MessageTooLarge, StreamUnknown}
use Rattle.sctp_receiver.specs.Receiver.{Reception, after_discard, arrival_refusal, close_stream, is_open, open_stream}
use Rattle.sctp_receiver.specs.ReceiverRuns.{takes}

-- ## One chunk

-- the receiver refuses the chunk, and it is dropped: the peer sends it again
pub record IsDropped (c : ChunkPayloadData) (r : Reception) : Type 0 where
  pub refusal : ReceiverRefusal
  pub refused : arrival_refusal c r ≡ Some refusal
  pub advised : advice_for refusal c r ≡ Drop

-- the receiver takes the chunk: its user data enters, unless its TSN had come
pub record Enters (c : ChunkPayloadData) (old new : Reception) : Type 0 where
  pub arrival : Arrival
  pub receives : Receives (takes c arrival) old new

-- its message is longer than the receiver takes: the TSN alone is noted, and the stream closes
pub record IsTooLong (c : ChunkPayloadData) (old new : Reception) : Type 0 where
  pub refused : arrival_refusal c old ≡ Some MessageTooLarge
  pub closed : new ≡ close_stream c.stream_identifier (after_discard c.tsn old)

-- it is dropped, and the receiver does not change
pub record IsLeft (c : ChunkPayloadData) (old new : Reception) : Type 0 where
  pub dropped : IsDropped c old
  pub same : new ≡ old

abbrev pub IsHandled : ChunkPayloadData → (old new : Reception) → Type 0
IsHandled c old new = Enters c old new ⊎ (IsTooLong c old new ⊎ IsLeft c old new)

-- a stream opens with the first chunk that comes on it
abbrev pub with_open : ℕ → Reception → Reception
with_open stream r = if is_open stream r then r else open_stream stream r

abbrev pub BetweenOf : (Reception → Reception → Type 0) → ℕ → (old new : Option Reception) → Type 0
BetweenOf P stream (Some old) (Some new) = P (with_open stream old) new
BetweenOf P stream _ _ = ⊥

-- so it is where its stream is open, or opens
abbrev pub IsHandledOn : ChunkPayloadData → (old new : Option Reception) → Type 0
IsHandledOn c old new = BetweenOf (IsHandled c) c.stream_identifier old new

abbrev pub IsTooLongOn : ChunkPayloadData → (old new : Option Reception) → Type 0
IsTooLongOn c old new = BetweenOf (IsTooLong c) c.stream_identifier old new

-- ## Streams that the peer may use

-- of the receiving half, where there is one
abbrev pub usable_in : ℕ → Option Inbound → Bool
usable_in stream None = false
usable_in stream (Some i) = is_usable stream i

-- ## Within the receiving half

-- the peer may use each stream as before, but for one on which the chunk is too long
abbrev pub KeepsUsable : ChunkPayloadData → (long : Type 0) → (old new : Inbound) → Type 0
KeepsUsable c long old new =
    (s : ℕ) → is_usable s old ≡ true
    → (is_usable s new ≡ true) ⊎ ((c.stream_identifier ≡ s) × long)

-- behind a refusal of the chunk
abbrev pub HandlesRefused : ReceiverRefusal → ChunkPayloadData → (old new : Inbound) → Type 0
HandlesRefused refusal c old new =
    ((refusal ≡ StreamUnknown → ⊥)
    → IsTooLong c old.receiver new.receiver ⊎ IsLeft c old.receiver new.receiver)
    × KeepsUsable c (IsTooLong c old.receiver new.receiver) old new

-- where no stream opens
pub record HandlesOpen (c : ChunkPayloadData) (old new : Inbound) : Type 0 where
  pub handled : is_open c.stream_identifier old.receiver ≡ true
      → IsHandled c old.receiver new.receiver
  pub kept : KeepsUsable c (IsTooLong c old.receiver new.receiver) old new

-- where one may open
pub record Handles (c : ChunkPayloadData) (old new : Inbound) : Type 0 where
  pub handled : is_usable c.stream_identifier old ≡ true
      → IsHandledOn c (Some old.receiver) (Some new.receiver)
  pub kept : KeepsUsable c
      (IsTooLongOn c (Some old.receiver) (Some new.receiver)) old new
