-- What a chunk makes at which memory is wanting (RFC 9260 6; RFC 3758 3.6; RFC 6525 5.2).
use Rattle.std.specs.Prelude.{◌≡◌, ◌⊎◌, ℕ, true, List, drop, zero, suc, ◌==◌, ◌||◌, Bool, false, [], ◌∷◌, take, Option, Some, None}
use Rattle.sctp_association.specs.AcksDue.{acks_in, acks_of}
use Rattle.sctp_association.specs.Arrivals.{CallsArrive, HearsBy, IsOpening, IsOpeningNamed, IsRestart, Received, ReceivedIn}
use Rattle.sctp_association.specs.Entering.{usable_in}
use Rattle.sctp_association.specs.Events.{BringsNone}
use Rattle.sctp_association.specs.Expected.{is_expected}
use Rattle.sctp_association.specs.Halves.{halves_of, receiver_of}
use Rattle.sctp_association.specs.Kept.{RestStays, unknown_in}
use Rattle.sctp_association.specs.Reconfigs.{OnlyReceives, ParamOn, ResetsStream, inbound_agreed, is_end, numbers_from, with_peer}
use Rattle.sctp_association.specs.StreamSet.{is_in}
use Rattle.sctp_association.specs.Tags.{is_admitted}
use Rattle.sctp_association.specs.Telling.{KeepsEvents}
use Rattle.sctp_association.specs.declared.association.Association.{Association}
use Rattle.sctp_association.specs.declared.event.Events.{Events}
use Rattle.sctp_association.specs.declared.inbound.Inbound.{Inbound}
use Rattle.sctp_chunks.specs.Wire.{data_chunk, forward_tsn_chunk}
use Rattle.sctp_data.specs.ForwardTsn.{ForwardTsn}
use Rattle.sctp_data.specs.PayloadData.{data_of}
use Rattle.sctp_data.specs.declared.chunk.chunk_payload_data.ChunkPayloadData.{ChunkPayloadData}
use Rattle.sctp_datagram.specs.Framing.{StartsWith}
use Rattle.sctp_datagram.specs.declared.datagram.ChunkPlace.{ChunkPlace}
use Rattle.sctp_handshake.specs.InitValues.{place}
use Rattle.sctp_handshake.specs.Machines.{agreed}
use Rattle.sctp_params.specs.Param.{outgoing_reset_request, reconfig_response}
use Rattle.sctp_params.specs.ParamKind.{ReadsParam}
use Rattle.sctp_params.specs.ResetRequest.{ResetRequest}
use Rattle.sctp_params.specs.declared.param.param_reconfig_response.ParamReconfigResponse.{ParamReconfigResponse}
use Rattle.sctp_params.specs.declared.param.param_reconfig_response.ReconfigResult.{ReconfigResult}
use Rattle.sctp_params.specs.declared.param.param_reconfig_response.ReconfigResult.TheVariants.{InProgress}
use Rattle.sctp_receiver.specs.ReceiverRuns.{Call}
use Rattle.sctp_reset.specs.Peer.{after_request, due_for}
use Rattle.sctp_reset.specs.declared.peer_requests.Due.TheVariants.{Perform}
use Rattle.sctp_reset.specs.declared.peer_requests.PeerRequests.{PeerRequests}

-- ## The receiving half

-- Streams of the peer may be open by such calls, and there may be more room for events of streams. Nothing else changes: no event comes, none goes,
-- and when a SACK is due stays.
pub record OpensIn (Opens : Call → Type 0) (i : Inbound) (e : Events) (j : Inbound) (f : Events)
    : Type 0 where
  pub receiver : Received Opens i.receiver j.receiver
  pub streams : j.streams ≡ i.streams
  pub discarded : (n : ℕ) → is_in n j.discarded ≡ is_in n i.discarded
  pub acks : acks_in j ≡ acks_in i
  pub unknown : j.unknown_stream ≡ i.unknown_stream
  pub kept : KeepsEvents e f
  pub none : BringsNone e f

-- ## A chunk

-- so it is of an association
pub record OpensOnly (Opens : Call → Type 0) (old new : Association) : Type 0 where
  pub receiver : ReceivedIn Opens (receiver_of old.inbound) (receiver_of new.inbound)
  pub usable : (s : ℕ) → usable_in s new.inbound ≡ usable_in s old.inbound
  pub acks : acks_of new.inbound ≡ acks_of old.inbound
  pub unknown : unknown_in new.inbound ≡ unknown_in old.inbound
  pub kept : KeepsEvents old.events new.events
  pub none : BringsNone old.events new.events
  pub rest : OnlyReceives old new

-- so it is of DATA and its stream
pub record CutsData (c : ChunkPlace) (datagram : List ℕ) (old new : Association) : Type 0 where
  pub chunk : ChunkPayloadData
  pub reads : StartsWith (drop c.at datagram) (data_chunk (data_of chunk))
  pub opens : OpensOnly (IsOpening chunk.stream_identifier) old new

-- and of a FORWARD-TSN and streams that it names
pub record CutsSkip (c : ChunkPlace) (datagram : List ℕ) (old new : Association) : Type 0 where
  pub skip : ForwardTsn
  pub reads : StartsWith (drop c.at datagram) (forward_tsn_chunk skip)
  pub opens : OpensOnly (IsOpeningNamed skip) old new

-- ## A RE-CONFIG

-- Memory is wanting where a stream is to be reset: there may be more room for its event, and nothing else changes.
pub record StaysUnreset (old new : Association) : Type 0 where
  pub inbound : new.inbound ≡ old.inbound
  pub kept : KeepsEvents old.events new.events
  pub none : BringsNone old.events new.events
  pub rest : OnlyReceives old new

-- streams are reset one after the other, up to one at which memory is wanting
abbrev pub ResetsPart : (last : ℕ) → (is_named : Bool) → List ℕ → (old new : Association) → Type 0
ResetsPart last is_named [] old new = ⊥
ResetsPart last is_named (s ∷ ss) old new =
    StaysUnreset old new ⊎ ((one : ReconfigResult) × (one ≡ InProgress → ⊥)
    × ((mid : Association) × ResetsStream s last is_named one old mid
    × ResetsPart last is_named ss mid new))

-- so are those that the request lists; or all that were agreed, where it lists none
abbrev pub ResetsPartListed : (last : ℕ) → List ℕ → (old new : Association) → Type 0
ResetsPartListed last [] old new =
    ResetsPart last false (numbers_from (inbound_agreed (agreed old.machine)) 0) old new
ResetsPartListed last (s ∷ ss) old new = ResetsPart last true (s ∷ ss) old new

-- so it is of the expected request, which has no answer then: the peer sends it again
abbrev pub RequestPart : ResetRequest → Option PeerRequests → (old new : Association) → Type 0
RequestPart r None old new = ⊥
RequestPart r (Some p) old new = (due_for r.reconfig_request_sequence_number p ≡ Perform)
    × ResetsPartListed r.sender_last_tsn r.stream_identifiers
    (with_peer (after_request r.reconfig_request_sequence_number p) old) new

-- by a response streams of this side begin again; beside that the sender stays, and so does the receiving half
pub record RestartsPart (old new : Association) : Type 0 where
  pub hearing : HearsBy IsRestart old.outbound.sender new.outbound.sender
  pub inbound : new.inbound ≡ old.inbound

-- bytes that begin with a parameter: nothing changes by it, or it is such a request, or such a response
abbrev pub ParamPart : List ℕ → (old new : Association) → Type 0
ParamPart bytes old new = (new ≡ old)
    ⊎ (((r : ResetRequest) × ReadsParam bytes (outgoing_reset_request r)
    × RequestPart r old.peer_requests old new)
    ⊎ ((r : ParamReconfigResponse) × ReadsParam bytes (reconfig_response r)
    × RestartsPart old new))

-- parameters are followed one after the other, from a place on: at most so many, and up to one at which memory is wanting
abbrev pub ParamsPart : (most : ℕ) → List ℕ → (at : ℕ) → (has_request : Bool) → (now : ℕ)
    → (old new : Association) → Type 0
ParamsPart zero raw at has_request now old new = ⊥
ParamsPart (suc most) raw at has_request now old new = (is_end raw at has_request ≡ false)
    × (ParamPart (drop at raw) old new
    ⊎ ((mid : Association) × ParamOn (place raw at).typ raw at now old mid
    × ParamsPart most raw (place raw at).next (has_request || ((place raw at).typ == 13)) now
    mid new))

-- So it is of a RE-CONFIG. Calls for its parameters alone are made, and beside both halves, the requests of both sides, and events of resets, all stays.
pub record CutsReconfig (c : ChunkPlace) (datagram : List ℕ) (now : ℕ) (old new : Association)
    : Type 0 where
  pub part : ParamsPart 2 (take c.length (drop c.at datagram)) 4 false now old new
  pub calls : CallsArrive datagram (halves_of old) (halves_of new)
  pub machine : new.machine ≡ old.machine
  pub rest : RestStays old new

-- ## Any of them

-- A chunk is taken in part, where it may stand in a packet with this tag, of so many chunks, and the state expects it. It is one of these.
pub record CutsChunk (c : ChunkPlace) (tag count : ℕ) (datagram : List ℕ) (now : ℕ)
    (old new : Association) : Type 0 where
  pub admitted : is_admitted c tag count old.machine ≡ true
  pub expected : is_expected c.typ old ≡ true
  pub by_type : ((c.typ ≡ 0) × CutsData c datagram old new)
      ⊎ (((c.typ ≡ 192) × CutsSkip c datagram old new)
      ⊎ ((c.typ ≡ 130) × CutsReconfig c datagram now old new))
