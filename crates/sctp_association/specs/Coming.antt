-- What becomes of DATA that comes (RFC 9260 6.2), and of which packets something is taken.
use Rattle.std.specs.Prelude.{◌≡◌, ◌⊎◌, ⊤, ℕ, ◌==◌, ◌&&◌, ◌||◌, if◌then◌else◌, Bool, true, false, List, [], ◌∷◌, drop, Option, Some, None, is_some}
use Rattle.sctp_association.specs.Arrivals.{Arrival, Arrives, Asks, Does, Follows}
use Rattle.sctp_association.specs.declared.association.Reason.TheVariants.{Unexpected}
use Rattle.sctp_association.specs.declared.association.Association.{Association}
use Rattle.sctp_association.specs.declared.association.arrivals.Step.{Step}
use Rattle.sctp_association.specs.declared.association.arrivals.Step.TheVariants.{Next, Stop, Cut, Refused}
use Rattle.sctp_association.specs.declared.config.Config.{Config}
use Rattle.sctp_association.specs.declared.inbound.Inbound.{Inbound}
use Rattle.sctp_association.specs.Entering.{IsDropped, IsHandledOn, IsTooLongOn, usable_in}
use Rattle.sctp_association.specs.Halves.{halves_of, receiver_of}
use Rattle.sctp_chunks.specs.Wire.{Wire, data_chunk}
use Rattle.sctp_data.specs.declared.chunk.chunk_payload_data.ChunkPayloadData.{ChunkPayloadData}
use Rattle.sctp_data.specs.PayloadData.{data_of}
use Rattle.sctp_datagram.specs.declared.datagram.ChunkPlace.{ChunkPlace}
use Rattle.sctp_datagram.specs.declared.datagram.ZeroChecksum.{ZeroChecksum}
use Rattle.sctp_datagram.specs.declared.datagram.ZeroChecksum.TheVariants as zero
use Rattle.sctp_datagram.specs.Framing.{StartsWith}
use Rattle.sctp_handshake.specs.States.{takes_data, takes_sacks}
use Rattle.sctp_receiver.specs.Receiver.{Reception, filter_of}
use Rattle.sctp_receiver.specs.TsnFilter.{has_come}

-- the TSN of the chunk has come, or the receiver refuses it still
abbrev pub HasComeOrIsDropped : ChunkPayloadData → Option Reception → Type 0
HasComeOrIsDropped c None = ⊥
HasComeOrIsDropped c (Some r) = (has_come c.tsn (filter_of r) ≡ true) ⊎ IsDropped c r

-- so of the DATA chunk at a place of a datagram. Where the peer may use its stream its user data entered, or its message is too long
pub record HasTakenData (at : ℕ) (datagram : List ℕ) (i : Option Inbound) (r : Option Reception)
    : Type 0 where
  pub chunk : ChunkPayloadData
  pub reads : StartsWith (drop at datagram) (data_chunk (data_of chunk))
  pub taken : HasComeOrIsDropped chunk r
  pub entered : usable_in chunk.stream_identifier i ≡ true → IsHandledOn chunk (receiver_of i) r

abbrev pub TakesDataAt : (at : ℕ) → List ℕ → (old new : Association) → Type 0
TakesDataAt at datagram old new =
    HasTakenData at datagram old.inbound (receiver_of new.inbound)

-- so it is where the datagram goes on, and where it ends there the association is over
abbrev pub FollowsData : (at : ℕ) → List ℕ → Step → (old new : Association) → Type 0
FollowsData at datagram Next old new = TakesDataAt at datagram old new
FollowsData at datagram Stop old new = new.is_over ≡ true
FollowsData at datagram Cut old new = ⊤
FollowsData at datagram (Refused r) old new = ⊤

-- of a datagram that has only a DATA chunk
abbrev pub TakesOnlyData : List ℕ → (old new : Association) → Type 0
TakesOnlyData datagram old new = (new.is_over ≡ true) ⊎ TakesDataAt 12 datagram old new

-- ## Each DATA chunk of a datagram

-- DATA of packets with this tag is taken: the association goes on, in a state that takes DATA (RFC 9260 6), with a receiver, and the tag is that of
-- this side
pub record TakesDataOf (tag : ℕ) (a : Association) : Type 0 where
  pub going : a.is_over ≡ false
  pub state : takes_data a.machine.state ≡ true
  pub served : is_some a.inbound ≡ true
  pub own : tag ≡ a.machine.own.tag

-- behind a chunk of these types DATA is taken as before, unless the association is over: DATA, SACK and FORWARD-TSN
abbrev pub goes_on : ℕ → Bool
goes_on typ = (typ == 0) || ((typ == 3) || (typ == 192))

-- the chunk at this place of the datagram asks for the call
pub record IsAskedAt (at : ℕ) (datagram : List ℕ) (a : Arrival) : Type 0 where
  pub chunk : Wire
  pub reads : StartsWith (drop at datagram) chunk
  pub asks : Asks chunk a

-- it is DATA on this stream, and its message is too long
pub record IsShutBy (stream at : ℕ) (datagram : List ℕ) (old new : Association) : Type 0 where
  pub chunk : ChunkPayloadData
  pub reads : StartsWith (drop at datagram) (data_chunk (data_of chunk))
  pub on : chunk.stream_identifier ≡ stream
  pub long : IsTooLongOn chunk (receiver_of old.inbound) (receiver_of new.inbound)

-- the peer may use each stream as before, but for that one
abbrev pub MayUse : (at : ℕ) → List ℕ → (old new : Association) → Type 0
MayUse at datagram old new =
    (s : ℕ) → usable_in s old.inbound ≡ true
    → (usable_in s new.inbound ≡ true) ⊎ IsShutBy s at datagram old new

-- A chunk is taken: calls for it alone lead on, and DATA that it is has come, or is dropped.
pub record IsTakenFrom (c : ChunkPlace) (datagram : List ℕ) (old new : Association) : Type 0 where
  pub calls : Follows (IsAskedAt c.at datagram) Does (halves_of old) (halves_of new)
  pub usable : MayUse c.at datagram old new
  pub comes : c.typ ≡ 0 → TakesDataAt c.at datagram old new

-- no call leads on, and the peer may use the same streams
pub record IsAtEnd (old new : Association) : Type 0 where
  pub halves : halves_of new ≡ halves_of old
  pub usable : (s : ℕ) → usable_in s new.inbound ≡ usable_in s old.inbound

-- Chunks are taken so one after another, up to the first one behind which the datagram does not go on. From there on calls for its chunks lead on.
abbrev pub TakesEach : List ChunkPlace → List ℕ → (old new : Association) → Type 0
TakesEach [] datagram old new = IsAtEnd old new
TakesEach (c ∷ cs) datagram old new =
    ((goes_on c.typ ≡ false) × Arrives datagram (halves_of old) (halves_of new))
    ⊎ ((mid : Association) × (IsTakenFrom c datagram old mid × TakesEach cs datagram mid new))

-- so it is, or the association is over
abbrev pub TakesEachOf : List ChunkPlace → List ℕ → (old new : Association) → Type 0
TakesEachOf chunks datagram old new =
    (new.is_over ≡ true) ⊎ TakesEach chunks datagram old new

-- A chunk that goes on is taken: then DATA is taken as before. It is passed over where it is not expected, which DATA never is.
abbrev pub GoesOn : ChunkPlace → (tag : ℕ) → List ℕ → Step → (old new : Association) → Type 0
GoesOn c tag datagram Next old new = TakesDataOf tag new × IsTakenFrom c datagram old new
GoesOn c tag datagram Stop old new = new.is_over ≡ true
GoesOn c tag datagram Cut old new = ⊤
GoesOn c tag datagram (Refused r) old new = (r ≡ Unexpected) × (c.typ ≡ 0 → ⊥)

-- ## Packets that are not dropped

-- a chunk of this type is taken as the association stands: DATA and FORWARD-TSN in a state that takes DATA, where there is a receiver, and a SACK in one
-- that takes SACKs (RFC 9260 6; RFC 3758 3.6)
abbrev pub is_due : ℕ → Association → Bool
is_due typ a =
    if (typ == 0) || (typ == 192) then takes_data a.machine.state && is_some a.inbound
    else (typ == 3) && takes_sacks a.machine.state

-- whether a checksum of 0 is allowed
abbrev pub zero_checksum_of : Config → ZeroChecksum
zero_checksum_of c = if c.zero_checksum then zero.Allowed else zero.Refused
