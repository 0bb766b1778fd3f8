-- Which chunk of a datagram may end an association: no other one does (RFC 9260 3.3.7, 3.3.10, 5.1, 5.2.6, 6.2, 9).
use Rattle.std.specs.Prelude.{◌≡◌, ◌⊎◌, ⊤, ℕ, ◌==◌, ◌&&◌, ◌||◌, Bool, true, false, List, [], drop, Option, Some, None, is_some}
use Rattle.sctp_association.specs.Halves.{receiver_of}
use Rattle.sctp_association.specs.Paths.{taken_as}
use Rattle.sctp_association.specs.Timers.{StopsTimers}
use Rattle.sctp_association.specs.Causes.{cause_in}
use Rattle.sctp_association.specs.Failing.{farewell_to}
use Rattle.sctp_association.specs.declared.association.Association.{Association}
use Rattle.sctp_association.specs.declared.association.arrivals.Step.{Step}
use Rattle.sctp_association.specs.declared.association.arrivals.Step.TheVariants.{Next, Stop, Cut, Refused}
use Rattle.sctp_association.specs.declared.due.AloneKind.{AloneKind}
use Rattle.sctp_association.specs.declared.due.AloneKind.TheVariants as alone
use Rattle.sctp_association.specs.declared.event.Ending.TheVariants.{Aborted, AbortedByPeer, Unanswered}
use Rattle.sctp_association.specs.declared.inbound.Followed.{Followed}
use Rattle.sctp_association.specs.declared.inbound.Followed.TheVariants.{Abort, Done, NoUserData, Wanting}
use Rattle.sctp_association.specs.declared.outbound.Outbound.{Outbound}
use Rattle.sctp_chunks.specs.Wire.{data_chunk, forward_tsn_chunk, sack_chunk}
use Rattle.sctp_data.specs.declared.chunk.chunk_payload_data.ChunkPayloadData.{ChunkPayloadData}
use Rattle.sctp_data.specs.ForwardTsn.{ForwardTsn}
use Rattle.sctp_data.specs.PayloadData.{data_of}
use Rattle.sctp_data.specs.SelectiveAck.{Sack}
use Rattle.sctp_datagram.specs.Carried.{IsChunkOf}
use Rattle.sctp_datagram.specs.Framing.{StartsWith}
use Rattle.sctp_datagram.specs.declared.datagram.ChunkPlace.{ChunkPlace}
use Rattle.sctp_handshake.specs.Endings.{on_abort}
use Rattle.sctp_handshake.specs.declared.offer.Offer.{Offer}
use Rattle.sctp_handshake.specs.declared.state.State.TheVariants.{Closed}
use Rattle.sctp_receiver.specs.Advice.{advice_for, skip_advice_for}
use Rattle.sctp_receiver.specs.Receiver.{Reception, arrival_refusal}
use Rattle.sctp_receiver.specs.Skips.{past_closed_refusal}
use Rattle.sctp_receiver.specs.declared.advice.AbortCause.{AbortCause}
use Rattle.sctp_receiver.specs.declared.advice.AbortCause.TheVariants.{OutOfResource, ProtocolViolation}
use Rattle.sctp_receiver.specs.declared.advice.Advice.TheVariants as advice
use Rattle.sctp_receiver.specs.declared.advice.SkipAdvice.TheVariants as skip
use Rattle.sctp_receiver.specs.declared.receiver.refusal.ReceiverRefusal.{ReceiverRefusal}
use Rattle.sctp_sender.specs.Flight.{sack_refusal}
use Rattle.sctp_sender.specs.Sender.{take_back_refusal}

-- ## DATA, a FORWARD-TSN, a SACK

-- the receiver refuses the chunk, and reading makes no room for it: the advice is an ABORT with this cause
pub record IsRefusedForGood (c : ChunkPayloadData) (cause : AbortCause) (r : Reception)
    : Type 0 where
  pub refusal : ReceiverRefusal
  pub refused : arrival_refusal c r ≡ Some refusal
  pub advised : advice_for refusal c r ≡ advice.Abort cause

-- so it is of a FORWARD-TSN
pub record IsSkipRefusedForGood (f : ForwardTsn) (cause : AbortCause) (r : Reception)
    : Type 0 where
  pub refusal : ReceiverRefusal
  pub refused : past_closed_refusal f r ≡ Some refusal
  pub advised : skip_advice_for refusal r ≡ skip.Abort cause

-- what the receiving half answers to DATA, as the receiver is then: it has no user data, or is refused for good
abbrev pub EndsData : ChunkPayloadData → Followed → Reception → Type 0
EndsData c Done r = ⊤
EndsData c Wanting r = ⊤
EndsData c (NoUserData tsn) r = (c.user_data ≡ []) × (tsn ≡ c.tsn)
EndsData c (Abort cause) r = IsRefusedForGood c cause r

-- and to a FORWARD-TSN
abbrev pub EndsSkip : ForwardTsn → Followed → Reception → Type 0
EndsSkip f Done r = ⊤
EndsSkip f Wanting r = ⊤
EndsSkip f (NoUserData tsn) r = ⊥
EndsSkip f (Abort cause) r = IsSkipRefusedForGood f cause r

-- the SACK acknowledges or reports what was not sent, or takes back more than can be in flight
abbrev pub IsForged : Sack → Outbound → Type 0
IsForged s o = (is_some (sack_refusal (taken_as s o) o.sender.flight) ≡ true)
    ⊎ (is_some (take_back_refusal (taken_as s o) o.sender) ≡ true)

-- ## The ABORT that ends it

-- the cause that the receiver advises: Out of Resource or Protocol Violation (3.3.10.4, 3.3.10.13)
abbrev pub advised_code : AbortCause → ℕ
advised_code OutOfResource = 4
advised_code ProtocolViolation = 13

-- the ABORT that the association is to end with
abbrev pub abort_for : Followed → Option AloneKind
abort_for Done = None
abort_for Wanting = None
abort_for (NoUserData tsn) = Some (alone.NoUserData tsn)
abort_for (Abort cause) = Some (alone.Abort (advised_code cause))

-- This side has ended the association by such an ABORT. That waits to be told, the timers of the state are stopped, and the ABORT is due to the peer
-- that was known, and again where it is lost (9.1, 8.4).
pub record IsAborted (kind : AloneKind) (peer : Option Offer) (new : Association) : Type 0 where
  pub over : new.is_over ≡ true
  pub state : new.machine.state ≡ Closed
  pub told : new.events.closed ≡ Some Aborted
  pub timers : StopsTimers new
  pub alone : new.due.alone ≡ farewell_to kind peer
  pub farewell : is_some peer ≡ true → new.due.farewell ≡ farewell_to kind peer

-- The peer has ended it by an ABORT: that waits to be told, and the timers of the state are stopped. What is due stays, and all else (9.1).
pub record IsAbortedByPeer (old new : Association) : Type 0 where
  pub over : new.is_over ≡ true
  pub machine : new.machine ≡ (on_abort old.machine).machine
  pub told : new.events ≡ record old.events { closed = Some AbortedByPeer }
  pub timers : StopsTimers new
  pub rest : new ≡ record old {
    machine = new.machine;
    is_over = new.is_over;
    control = new.control;
    guard = new.guard;
    events = new.events;
  }

-- The peer did not answer, and it is over: that waits to be told, and the timers of the state are stopped (4, 8.1).
pub record IsUnanswered (new : Association) : Type 0 where
  pub state : new.machine.state ≡ Closed
  pub told : new.events.closed ≡ Some Unanswered
  pub timers : StopsTimers new

-- DATA without user data: the cause is 9, with its TSN (6.2, 3.3.10.9). DATA or a FORWARD-TSN that is refused for good: the advised cause. A SACK
-- of what was not sent: Protocol Violation.
pub data IsAbortedBy (c : ChunkPlace) (datagram : List ℕ) (peer : Option Offer) (new : Association)
    : Type 0 where
  by_empty : (chunk : ChunkPayloadData)
      → StartsWith (drop c.at datagram) (data_chunk (data_of chunk)) → chunk.user_data ≡ [] → IsAborted (alone.NoUserData chunk.tsn) peer new
      → IsAbortedBy c datagram peer new
  by_data : (r : Reception) → receiver_of new.inbound ≡ Some r → (chunk : ChunkPayloadData)
      → StartsWith (drop c.at datagram) (data_chunk (data_of chunk))
      → (cause : AbortCause) → IsRefusedForGood chunk cause r
      → IsAborted (alone.Abort (advised_code cause)) peer new → IsAbortedBy c datagram peer new
  by_skip : (r : Reception) → receiver_of new.inbound ≡ Some r → (f : ForwardTsn)
      → StartsWith (drop c.at datagram) (forward_tsn_chunk f)
      → (cause : AbortCause) → IsSkipRefusedForGood f cause r
      → IsAborted (alone.Abort (advised_code cause)) peer new → IsAbortedBy c datagram peer new
  by_sack : (s : Sack) → StartsWith (drop c.at datagram) (sack_chunk s) → IsForged s new.outbound
      → IsAborted (alone.Abort 13) peer new → IsAbortedBy c datagram peer new

-- ## A chunk

abbrev pub is_stale_cause : Option ℕ → Bool
is_stale_cause None = false
is_stale_cause (Some code) = code == 3

-- By its type: an INIT ACK, ABORT, SHUTDOWN-ACK, SHUTDOWN-COMPLETE, or an ERROR with cause 3. In which state they do, `walks` says.
abbrev pub ends_at : (typ : ℕ) → (cause : Option ℕ) → Bool
ends_at typ cause = (typ == 2) || ((typ == 6) || ((typ == 8) || ((typ == 14)
    || ((typ == 9) && is_stale_cause cause))))

abbrev pub ends_by_type : ChunkPlace → List ℕ → Bool
ends_by_type c datagram = ends_at c.typ (cause_in datagram c)

-- one of these; or DATA, a FORWARD-TSN or a SACK, by an ABORT to this peer
abbrev pub Ends : ChunkPlace → List ℕ → Option Offer → (new : Association) → Type 0
Ends c datagram peer new = (ends_by_type c datagram ≡ true) ⊎ IsAbortedBy c datagram peer new

-- it has ended by this chunk
abbrev pub EndsNow : ChunkPlace → List ℕ → (old new : Association) → Type 0
EndsNow c datagram old new =
    old.is_over ≡ false → new.is_over ≡ true → Ends c datagram old.machine.peer new

-- where the datagram goes on, only by the type
abbrev pub EndsOn : ChunkPlace → List ℕ → Step → (old new : Association) → Type 0
EndsOn c datagram Next old new = old.is_over ≡ false → new.is_over ≡ true
    → ends_by_type c datagram ≡ true
EndsOn c datagram Stop old new = EndsNow c datagram old new
EndsOn c datagram Cut old new = new.is_over ≡ old.is_over
EndsOn c datagram (Refused r) old new = ⊤

-- ## A datagram

-- one of its chunks ended it, while this peer was known
pub record IsEndedBy (datagram : List ℕ) (new : Association) : Type 0 where
  pub chunk : ChunkPlace
  pub own : IsChunkOf datagram chunk
  pub peer : Option Offer
  pub ends : Ends chunk datagram peer new

abbrev pub EndsIn : List ℕ → (old new : Association) → Type 0
EndsIn datagram old new = old.is_over ≡ false → new.is_over ≡ true → IsEndedBy datagram new
