-- What a datagram asks of the halves of an association: calls of its receiver and of its sender, each for a chunk that it carries.
use Rattle.std.specs.Prelude.{◌≡◌, ◌⊎◌, ⊤, ℕ, List, [], ◌∷◌, Contains, drop, take, Option, Some, None}
use Rattle.sctp_association.specs.Acks.{without_blocks}
use Rattle.sctp_chunks.specs.Wire.{Wire, data_chunk, forward_tsn_chunk, sack_chunk, shutdown_chunk}
use Rattle.sctp_data.specs.declared.chunk.chunk_forward_tsn.ChunkForwardTsnStream.{ChunkForwardTsnStream}
use Rattle.sctp_data.specs.ForwardTsn.{ForwardTsn}
use Rattle.sctp_data.specs.PayloadData.{data_of}
use Rattle.sctp_data.specs.SelectiveAck.{Sack}
use Rattle.sctp_datagram.specs.Carried.{Carries, IsChunkOf}
use Rattle.sctp_datagram.specs.declared.datagram.ChunkPlace.{ChunkPlace}
use Rattle.sctp_delivery.specs.SenderCalls.{SenderMakes, TakesBackAndSack, misses, takes_sack}
use Rattle.sctp_params.specs.Param.{Parameter, outgoing_reset_request, reconfig_response}
use Rattle.sctp_params.specs.ParamKind.{ReadsParam}
use Rattle.sctp_receiver.specs.Receiver.{Reception, arrival_of, arrival_refusal, at_first, is_answered_complete}
use Rattle.sctp_receiver.specs.ReceiverRuns.{Call, IsUnrefused, Makes, closes, discards, forwards, opens, resets, takes}
use Rattle.sctp_receiver.specs.Skips.{past_closed_refusal}
use Rattle.sctp_receiver.specs.declared.receiver.limits.Limits.{Limits}
use Rattle.sctp_sender.specs.Sender.{Transmission, with_nothing, with_reported}
use Rattle.sctp_sender.specs.Settings.{reset_on, reset_refusal}
use Rattle.sctp_sender.specs.declared.sender.Reported.TheVariants.{Keep}
use Rattle.sctp_sender.specs.declared.sender.flight.Released.{Released}
use Rattle.sctp_sender.specs.declared.sender.flight.kept.TakenBack.{TakenBack}

-- ## Calls one after another

-- a call that is asked for is made
pub record IsOne {C T : Type 0} (Asked : C → Type 0) (Does : C → T → T → Type 0) (call : C)
    (old new : T) : Type 0 where
  pub asked : Asked call
  pub does : Does call old new

abbrev pub Steps : {C T : Type 0} → (C → Type 0) → (C → T → T → Type 0) → List C → T → T → Type 0
Steps Asked Does [] old new = new ≡ old
Steps {T = T} Asked Does (c ∷ cs) old new =
    (mid : T) × (IsOne Asked Does c old mid × Steps Asked Does cs mid new)

-- such calls, and no others, lead from old to new
pub record Follows {C T : Type 0} (Asked : C → Type 0) (Does : C → T → T → Type 0) (old new : T)
    : Type 0 where
  pub calls : List C
  pub run : Steps Asked Does calls old new

-- ## Calls of the receiver

-- DATA is refused for no number, and FORWARD-TSN for no name, beside what refuses a call else: so it is in a session (`sctp_delivery`)
abbrev pub IsTaken : Call → Reception → Type 0
IsTaken (takes c arrival) r =
    (arrival_refusal c r ≡ None) × (arrival ≡ arrival_of c.tsn (is_answered_complete arrival) r)
IsTaken (forwards f) r = past_closed_refusal f r ≡ None
IsTaken _ r = ⊤

-- the call is not refused
pub record Receives (call : Call) (old new : Reception) : Type 0 where
  pub unrefused : IsUnrefused call old
  pub accepted : IsTaken call old
  pub makes : Makes call old new

abbrev pub Received : (Call → Type 0) → Reception → Reception → Type 0
Received Asked old new = Follows Asked Receives old new

-- ## Calls of the sender

pub data Hearing : Type 0 where
  -- `acked`: a SACK, what comes back by it, and what leaves
  acks : Sack → List TakenBack → List Released → Hearing
  -- `replay::acked`: the TSN of a SHUTDOWN, and what leaves
  passes : ℕ → List Released → Hearing
  -- `add_miss_indications`: so many chunks in front
  counts : ℕ → Hearing
  -- `reset` of a stream
  restarts : ℕ → Hearing

-- the call is not refused
abbrev pub Hears : Hearing → Transmission → Transmission → Type 0
Hears (acks sack back gone) old new = TakesBackAndSack sack back gone old new
Hears (passes tsn gone) old new = SenderMakes (takes_sack (without_blocks tsn) gone) old new
Hears (counts count) old new = SenderMakes (misses count) old new
Hears (restarts stream) old new = (reset_refusal stream old ≡ None) × (new ≡ reset_on stream old)

abbrev pub HearsBy : (Hearing → Type 0) → Transmission → Transmission → Type 0
HearsBy Asked old new = Follows Asked Hears old new

-- ## Calls of both

pub record Halves : Type 0 where
  pub sender : Transmission
  pub receiver : Option Reception

abbrev pub halves : Transmission → Option Reception → Halves
halves t r = record { sender = t; receiver = r }

-- a call of one half; or that half is a new one, where an association begins
pub data Arrival : Type 0 where
  receives : Call → Arrival
  hears : Hearing → Arrival
  -- a receiver: the first TSN of the peer, the longest message, and the limits
  begins : ℕ → ℕ → Limits → Arrival
  -- a sender, and no receiver: the first TSN, the size of a fragment, and the longest message
  renews : ℕ → ℕ → ℕ → Arrival

-- where there is a receiver
abbrev pub ReceivesIn : Call → Option Reception → Option Reception → Type 0
ReceivesIn call (Some old) (Some new) = Receives call old new
ReceivesIn call _ _ = ⊥

abbrev pub new_sender : ℕ → ℕ → ℕ → Transmission
new_sender tsn size max = with_reported Keep (with_nothing tsn size max)

-- the other half stays as it is. A receiver begins only where there is none; where a sender begins anew, the receiver goes
abbrev pub Does : Arrival → Halves → Halves → Type 0
Does (receives call) old new =
    (new.sender ≡ old.sender) × ReceivesIn call old.receiver new.receiver
Does (hears call) old new =
    (new.receiver ≡ old.receiver) × Hears call old.sender new.sender
Does (begins tsn max limits) old new =
    (old.receiver ≡ None) × ((new.sender ≡ old.sender)
    × (new.receiver ≡ Some (at_first tsn max (Some limits))))
Does (renews tsn size max) old new =
    (new.receiver ≡ None) × (new.sender ≡ new_sender tsn size max)

-- ## What asks for a call

-- the stream is one that a FORWARD-TSN names
pub record IsNamed (f : ForwardTsn) (stream : ℕ) : Type 0 where
  pub named : ChunkForwardTsnStream
  pub own : Contains f.streams named
  pub is : named.identifier ≡ stream

-- DATA asks that it is taken, that its stream is opened or closed, and that its TSN alone is noted; FORWARD-TSN that it is followed, and that
-- streams that it names are opened
abbrev pub AsksFor : Wire → Call → Type 0
AsksFor (data_chunk d) (takes c arrival) = data_of c ≡ d
AsksFor (data_chunk d) (opens stream) = stream ≡ d.stream_identifier
AsksFor (data_chunk d) (closes stream) = stream ≡ d.stream_identifier
AsksFor (data_chunk d) (discards tsn) = tsn ≡ d.tsn
AsksFor (forward_tsn_chunk f) (forwards g) = g ≡ f
AsksFor (forward_tsn_chunk f) (opens stream) = IsNamed f stream
AsksFor _ _ = ⊥

abbrev pub without_gaps : Sack → Sack
without_gaps s = record s { gap_ack_blocks = [] }

-- a SACK asks that it is taken, or with its gap ack blocks passed over, and that what it leaves out is counted; SHUTDOWN that its TSN is passed
abbrev pub AsksToHear : Wire → Hearing → Type 0
AsksToHear (sack_chunk s) (acks sack back gone) = (sack ≡ s) ⊎ (sack ≡ without_gaps s)
AsksToHear (sack_chunk s) (counts count) = ⊤
AsksToHear (shutdown_chunk n) (passes tsn gone) = tsn ≡ n
AsksToHear _ _ = ⊥

abbrev pub Asks : Wire → Arrival → Type 0
Asks w (receives call) = AsksFor w call
Asks w (hears call) = AsksToHear w call
Asks w (begins tsn max limits) = ⊥
Asks w (renews tsn size max) = ⊥

-- a parameter asks that a stream is reset which it names, or any stream, where it names none, after this last TSN (RFC 6525 4.1); a response, that
-- streams of this side begin again (5.2.7)
abbrev pub ParamAsks : Parameter → Arrival → Type 0
ParamAsks (outgoing_reset_request r) (receives (resets stream last)) =
    (last ≡ r.sender_last_tsn)
    × ((r.stream_identifiers ≡ []) ⊎ Contains r.stream_identifiers stream)
ParamAsks (reconfig_response r) (hears (restarts stream)) = ⊤
ParamAsks _ _ = ⊥

-- an association begins by a COOKIE-ECHO or a COOKIE-ACK, and begins anew by a COOKIE-ECHO (RFC 9260 5.1 D, E, 5.2.4)
abbrev pub TypeAsks : ℕ → Arrival → Type 0
TypeAsks typ (begins tsn max limits) = (typ ≡ 10) ⊎ (typ ≡ 11)
TypeAsks typ (renews tsn size max) = typ ≡ 10
TypeAsks typ _ = ⊥

-- ## What a datagram asks for

-- a chunk of this type is one of its chunks
pub record HasType (datagram : List ℕ) (typ : ℕ) : Type 0 where
  pub place : ChunkPlace
  pub own : IsChunkOf datagram place
  pub is : place.typ ≡ typ

-- a RE-CONFIG chunk of it has this parameter
pub record HasParam (datagram : List ℕ) (p : Parameter) : Type 0 where
  pub place : ChunkPlace
  pub own : IsChunkOf datagram place
  pub is : place.typ ≡ 130
  pub at : ℕ
  pub reads : ReadsParam (drop at (take place.length (drop place.at datagram))) p

-- it carries a chunk, or a parameter of one, that asks for the call
pub data IsBrought (datagram : List ℕ) (a : Arrival) : Type 0 where
  by_chunk : (w : Wire) → Carries datagram w → Asks w a → IsBrought datagram a
  by_param : (p : Parameter) → HasParam datagram p → ParamAsks p a → IsBrought datagram a
  by_type : (typ : ℕ) → HasType datagram typ → TypeAsks typ a → IsBrought datagram a

-- calls of both halves lead from old to new, and each of them is for a chunk that the datagram carries
abbrev pub Arrives : List ℕ → Halves → Halves → Type 0
Arrives datagram old new = Follows (IsBrought datagram) Does old new

-- ## Parts of a datagram

-- bytes begin with a parameter that asks for the call
pub record ParamAsksIn (bytes : List ℕ) (a : Arrival) : Type 0 where
  pub param : Parameter
  pub reads : ReadsParam bytes param
  pub asks : ParamAsks param a

-- the call resets this stream after this last TSN; or any stream
abbrev pub IsReset : (stream last : ℕ) → Call → Type 0
IsReset stream last (resets s l) = (s ≡ stream) × (l ≡ last)
IsReset stream last _ = ⊥

abbrev pub IsResetAt : (last : ℕ) → Call → Type 0
IsResetAt last (resets s l) = l ≡ last
IsResetAt last _ = ⊥

abbrev pub IsOpening : (stream : ℕ) → Call → Type 0
IsOpening stream (opens s) = s ≡ stream
IsOpening stream _ = ⊥

abbrev pub IsOpeningNamed : ForwardTsn → Call → Type 0
IsOpeningNamed f (opens stream) = IsNamed f stream
IsOpeningNamed f _ = ⊥

abbrev pub IsRestart : Hearing → Type 0
IsRestart (restarts stream) = ⊤
IsRestart _ = ⊥

abbrev pub IsCount : Hearing → Type 0
IsCount (counts count) = ⊤
IsCount _ = ⊥

-- of the receiver, where there is one: none appears, and none goes
abbrev pub ReceivedIn : (Call → Type 0) → Option Reception → Option Reception → Type 0
ReceivedIn Asked None None = ⊤
ReceivedIn Asked (Some old) (Some new) = Received Asked old new
ReceivedIn Asked _ _ = ⊥

-- ## Calls as a rule says

-- it carries what asks for the call, and the rule holds of it
pub record IsBroughtAs (Rule : Arrival → Type 0) (datagram : List ℕ) (a : Arrival) : Type 0 where
  pub brought : IsBrought datagram a
  pub rule : Rule a

-- so it is of each call that leads from old to new
abbrev pub ArrivesAs : (Arrival → Type 0) → List ℕ → Halves → Halves → Type 0
ArrivesAs Rule datagram old new = Follows (IsBroughtAs Rule datagram) Does old new

-- the call is one of a half that is there
abbrev pub IsOfHalf : Arrival → Type 0
IsOfHalf (receives call) = ⊤
IsOfHalf (hears call) = ⊤
IsOfHalf (begins tsn max limits) = ⊥
IsOfHalf (renews tsn size max) = ⊥

-- calls lead from old to new, and no half is a new one
abbrev pub CallsArrive : List ℕ → Halves → Halves → Type 0
CallsArrive datagram old new = ArrivesAs IsOfHalf datagram old new
