-- What a RE-CONFIG makes of an association that takes it (RFC 6525 3.1, 4, 5.2; RFC 8831 6.7). Moments are nanoseconds.
use Rattle.std.specs.Prelude.{◌≡◌, ◌⊎◌, ⊤, ℕ, zero, suc, ◌+◌, ◌<◌, ◌==◌, ◌&&◌, ◌||◌, nat_le, not, if◌then◌else◌, Bool, true, false, List, [], ◌∷◌}
use Rattle.std.specs.Prelude.{drop, length, set, take, Option, Some, None}
use Rattle.std.specs.Option.{option_map}
use Rattle.sctp_association.specs.StreamSet.{is_in}
use Rattle.sctp_association.specs.declared.association.Association.{Association}
use Rattle.sctp_association.specs.declared.association.arrivals.Step.{Step}
use Rattle.sctp_association.specs.declared.association.arrivals.Step.TheVariants.{Next, Stop, Cut, Refused}
use Rattle.sctp_association.specs.declared.event.Events.{Events}
use Rattle.sctp_association.specs.declared.inbound.Inbound.{Inbound}
use Rattle.sctp_datagram.specs.declared.datagram.ChunkPlace.{ChunkPlace}
use Rattle.sctp_handshake.specs.InitValues.{is_param, place}
use Rattle.sctp_handshake.specs.Machines.{agreed}
use Rattle.sctp_handshake.specs.declared.machine.Agreed.{Agreed}
use Rattle.sctp_params.specs.Param.{Parameter, outgoing_reset_request, reconfig_response}
use Rattle.sctp_params.specs.ParamFraming.{param_declared_length}
use Rattle.sctp_params.specs.ParamKind.{ReadsParam}
use Rattle.sctp_params.specs.ResetRequest.{ResetRequest}
use Rattle.sctp_params.specs.declared.param.param_reconfig_response.ParamReconfigResponse.{ParamReconfigResponse}
use Rattle.sctp_params.specs.declared.param.param_reconfig_response.ReconfigResult.{ReconfigResult}
use Rattle.sctp_params.specs.declared.param.param_reconfig_response.ReconfigResult.TheVariants.{Denied, ErrorWrongSsn, InProgress, SuccessPerformed}
use Rattle.sctp_receiver.specs.Receiver.{Reception, is_open}
use Rattle.sctp_receiver.specs.Resets.{reset_stream}
use Rattle.sctp_reset.specs.Own.{after_response, answer_to}
use Rattle.sctp_reset.specs.Peer.{after_answer, after_request, due_for}
use Rattle.sctp_reset.specs.declared.own_requests.Answer.{Answer}
use Rattle.sctp_reset.specs.declared.own_requests.Answer.TheVariants as answer
use Rattle.sctp_reset.specs.declared.peer_requests.Due.{Due}
use Rattle.sctp_reset.specs.declared.peer_requests.Due.TheVariants.{Again, Bad, Perform}
use Rattle.sctp_reset.specs.declared.peer_requests.PeerRequests.{PeerRequests}
use Rattle.sctp_sender.specs.Sender.{Transmission}
use Rattle.sctp_sender.specs.Settings.{reset_on}
use Rattle.sctp_util.specs.Field.{u32_at}
use Rattle.sctp_util.specs.Serial.{comes_before}

-- ## A response to the request under way (RFC 6525 5.2.7)

-- each of these streams begins at SSN 0 again
abbrev pub restarted : List ℕ → Transmission → Transmission
restarted [] t = t
restarted (s ∷ ss) t = restarted ss (reset_on s t)

-- each of these streams is put into the set, where the set has room for it
abbrev pub with_each : List ℕ → List Bool → List Bool
with_each [] flags = flags
with_each (s ∷ ss) flags = with_each ss (set flags s true)

-- Where the peer performed the request, its streams begin again, and the user is told of each. Where the peer refused it, the user is told of each.
abbrev pub followed : Answer → Association → Association
followed (answer.Performed r) a = record a {
  outbound = record a.outbound { sender = restarted r.streams a.outbound.sender };
  events = record a.events { reset_by_us = with_each r.streams a.events.reset_by_us };
}
followed (answer.Refused r why) a =
    record a {
      events = record a.events { reset_refused = with_each r.streams a.events.reset_refused };
    }
followed answer.Wait a = a
followed answer.NotUnderWay a = a

-- a response with the number of the request under way ends it, or has it sent again later
abbrev pub answered : ParamReconfigResponse → (now : ℕ) → Association → Association
answered r now a =
    followed (answer_to r.reconfig_response_sequence_number r.result a.requests.under_way)
    (record a {
      requests = after_response r.reconfig_response_sequence_number r.result now
          a.outbound.rto.rto a.requests;
    })

-- ## A request that this side does not perform (RFC 6525 4.2, 4.3, 4.5, 4.6)

-- the expected request is denied; any other one is answered as before, or by "Bad sequence number" (5.2.1)
abbrev pub denied : (number : ℕ) → PeerRequests → PeerRequests
denied number p =
    if number == p.expected then after_answer Denied (after_request number p)
    else after_request number p

-- the number of the request whose header stands at a place: a parameter of fewer than eight bytes has none (4)
abbrev pub number_at : List ℕ → (at : ℕ) → Option ℕ
number_at raw at =
    if nat_le (at + 8) (length raw) && nat_le 8 (param_declared_length (drop at raw))
    then Some (u32_at (drop (at + 4) raw) 0) else None

abbrev pub denied_by : Option ℕ → Association → Association
denied_by None a = a
denied_by (Some number) a = record a { peer_requests = option_map (denied number) a.peer_requests }

-- ## A stream of the peer is reset (RFC 6525 5.2.2)

-- A stream past those that were agreed has a wrong number. While a TSN up to the last one of the request is missing the reset is in progress.
abbrev pub reset_result : (stream last : ℕ) → Inbound → ReconfigResult
reset_result stream last i =
    if nat_le i.streams stream then ErrorWrongSsn
    else (if comes_before i.receiver.cumulative_tsn last then InProgress else SuccessPerformed)

-- the receiver resets a stream that is open
abbrev pub reset_open : (stream last : ℕ) → Reception → Reception
reset_open stream last r = if is_open stream r then reset_stream stream last r else r

-- The user is told of a stream that the request names, and of one on which something came: it is open, or a message on it was too long.
abbrev pub is_told_of : (stream : ℕ) → (is_named : Bool) → Inbound → Bool
is_told_of stream is_named i = is_open stream i.receiver || (is_named || is_in stream i.discarded)

-- That waits to be told, where the request names the stream, or there is room for it. Of other streams nothing changes.
pub record TellsReset (stream : ℕ) (is_named is_told : Bool) (old new : List Bool) : Type 0 where
  pub told : is_told ≡ true → (is_named ≡ true) ⊎ (stream < length old) → is_in stream new ≡ true
  pub untold : is_told ≡ false → is_in stream new ≡ is_in stream old
  pub others : (n : ℕ) → (n == stream) ≡ false → is_in n new ≡ is_in n old

-- The receiver resets the stream, messages on it are dropped no more, and the user is told. Beside that only streams with a message to read may wait
-- to be told.
pub record IsPerformed (stream last : ℕ) (is_named : Bool) (i : Inbound) (e : Events) (j : Inbound)
    (f : Events) : Type 0 where
  pub receiver : j.receiver ≡ reset_open stream last i.receiver
  pub discarded : (n : ℕ)
      → is_in n j.discarded ≡ (if n == stream then false else is_in n i.discarded)
  pub streams : j.streams ≡ i.streams
  pub delay : j.delay ≡ i.delay
  pub came : j.came ≡ i.came
  pub unknown_stream : j.unknown_stream ≡ i.unknown_stream
  pub told : TellsReset stream is_named (is_told_of stream is_named i)
      e.reset_by_peer f.reset_by_peer
  pub events : f ≡ record e { reset_by_peer = f.reset_by_peer; readable = f.readable }

-- so it is where the reset is performed; else nothing changes
pub record ResetsOne (stream last : ℕ) (is_named : Bool) (r : ReconfigResult) (i : Inbound)
    (e : Events) (j : Inbound) (f : Events) : Type 0 where
  pub result : r ≡ reset_result stream last i
  pub performed : r ≡ SuccessPerformed → IsPerformed stream last is_named i e j f
  pub unperformed : (r ≡ SuccessPerformed → ⊥) → (j ≡ i) × (f ≡ e)

-- of an association that has no receiving half each stream has a wrong number
abbrev pub ResetsIn : (stream last : ℕ) → (is_named : Bool) → ReconfigResult → Option Inbound
    → Events → Option Inbound → Events → Type 0
ResetsIn stream last is_named r (Some i) e (Some j) f = ResetsOne stream last is_named r i e j f
ResetsIn stream last is_named r (Some i) e None f = ⊥
ResetsIn stream last is_named r None e j f = (r ≡ ErrorWrongSsn) × (j ≡ None) × (f ≡ e)

-- beside the receiving half, and the events, an association is as it was
pub record OnlyReceives (old new : Association) : Type 0 where
  pub config : new.config ≡ old.config
  pub key : new.key ≡ old.key
  pub machine : new.machine ≡ old.machine
  pub is_over : new.is_over ≡ old.is_over
  pub wants_shutdown : new.wants_shutdown ≡ old.wants_shutdown
  pub outbound : new.outbound ≡ old.outbound
  pub requests : new.requests ≡ old.requests
  pub peer_requests : new.peer_requests ≡ old.peer_requests
  pub control : new.control ≡ old.control
  pub guard : new.guard ≡ old.guard
  pub heartbeat : new.heartbeat ≡ old.heartbeat
  pub cookie : new.cookie ≡ old.cookie
  pub due : new.due ≡ old.due
  pub draft : new.draft ≡ old.draft

pub record ResetsStream (stream last : ℕ) (is_named : Bool) (r : ReconfigResult)
    (old new : Association) : Type 0 where
  pub resets : ResetsIn stream last is_named r old.inbound old.events new.inbound new.events
  pub rest : OnlyReceives old new

-- ## A request to reset outgoing streams of the peer (RFC 6525 4.1, 5.2.2)

-- the result of a request is that of its last stream with a wrong number; where it names no stream, none has one
abbrev pub result_with : (is_named : Bool) → (so_far one : ReconfigResult) → ReconfigResult
result_with false so_far one = so_far
result_with true so_far SuccessPerformed = so_far
result_with true so_far one = one

-- These streams are reset one after the other, up to one of which the reset is in progress. The request has then this outcome.
abbrev pub ResetsEach : (last : ℕ) → (is_named : Bool) → List ℕ → (so_far outcome : ReconfigResult)
    → (old new : Association) → Type 0
ResetsEach last is_named [] so_far outcome old new = (outcome ≡ so_far) × (new ≡ old)
ResetsEach last is_named (s ∷ ss) so_far outcome old new =
    ResetsStream s last is_named InProgress old new × (outcome ≡ InProgress)
    ⊎ ((one : ReconfigResult) × (one ≡ InProgress → ⊥)
    × ((mid : Association) × ResetsStream s last is_named one old mid
    × ResetsEach last is_named ss (result_with is_named so_far one) outcome mid new))

-- so many numbers, from the first one on
abbrev pub numbers_from : (count first : ℕ) → List ℕ
numbers_from zero first = []
numbers_from (suc count) first = first ∷ numbers_from count (suc first)

-- on how many streams the peer may send
abbrev pub inbound_agreed : Option Agreed → ℕ
inbound_agreed None = 0
inbound_agreed (Some a) = a.inbound_streams

-- the streams that the request lists are reset; or all that were agreed, where it lists none
abbrev pub ResetsListed : (last : ℕ) → List ℕ → (outcome : ReconfigResult) → (old new : Association)
    → Type 0
ResetsListed last [] outcome old new =
    ResetsEach last false (numbers_from (inbound_agreed (agreed old.machine)) 0) SuccessPerformed
    outcome old new
ResetsListed last (s ∷ ss) outcome old new =
    ResetsEach last true (s ∷ ss) SuccessPerformed outcome old new

abbrev pub with_peer : PeerRequests → Association → Association
with_peer p a = record a { peer_requests = Some p }

-- the request is performed, and answered by its outcome
pub record Performs (r : ResetRequest) (p : PeerRequests) (old new : Association) : Type 0 where
  pub outcome : ReconfigResult
  pub reset : Association
  pub listed : ResetsListed r.sender_last_tsn r.stream_identifiers outcome (with_peer p old) reset
  pub answered : new ≡ with_peer (after_answer outcome p) reset

-- so it is of the expected one; any other one is answered as before, or by "Bad sequence number" (5.2.1)
abbrev pub RequestBy : Due → ResetRequest → PeerRequests → (old new : Association) → Type 0
RequestBy Perform r p old new = Performs r p old new
RequestBy (Again result) r p old new = new ≡ with_peer p old
RequestBy Bad r p old new = new ≡ with_peer p old

abbrev pub RequestOn : ResetRequest → Option PeerRequests → (old new : Association) → Type 0
RequestOn r None old new = new ≡ old
RequestOn r (Some p) old new = RequestBy (due_for r.reconfig_request_sequence_number p) r
    (after_request r.reconfig_request_sequence_number p) old new

-- ## A parameter (RFC 6525 4)

abbrev pub FollowsParam : Parameter → (now : ℕ) → (old new : Association) → Type 0
FollowsParam (outgoing_reset_request r) now old new = RequestOn r old.peer_requests old new
FollowsParam (reconfig_response r) now old new = new ≡ answered r now old
FollowsParam _ now old new = new ≡ old

-- bytes that begin with a parameter are read; where they can't be read nothing changes
abbrev pub FollowsBytes : List ℕ → (now : ℕ) → (old new : Association) → Type 0
FollowsBytes bytes now old new =
    ((p : Parameter) × ReadsParam bytes p × FollowsParam p now old new)
    ⊎ (((p : Parameter) → ReadsParam bytes p → ⊥) × (new ≡ old))

abbrev pub is_read : (typ : ℕ) → Bool
is_read typ = (typ == 13) || (typ == 16)

abbrev pub is_denied : (typ : ℕ) → Bool
is_denied typ = (typ == 14) || ((typ == 15) || ((typ == 17) || (typ == 18)))

-- An Outgoing SSN Reset Request and a Re-configuration Response are followed. Any other request is denied. What is no request and no response
-- changes nothing.
pub record ParamOn (typ : ℕ) (raw : List ℕ) (at now : ℕ) (old new : Association) : Type 0 where
  pub read : is_read typ ≡ true → FollowsBytes (drop at raw) now old new
  pub denied : is_denied typ ≡ true → new ≡ denied_by (number_at raw at) old
  pub other : is_read typ ≡ false → is_denied typ ≡ false → new ≡ old

-- ## A chunk (RFC 6525 3.1)

-- no parameter stands at the place, or it is a second request to reset outgoing streams
abbrev pub is_end : List ℕ → (at : ℕ) → (has_request : Bool) → Bool
is_end raw at has_request =
    not (is_param raw at) || (((place raw at).typ == 13) && has_request)

-- parameters are followed one after the other, from a place on: at most so many, and up to one that is an end
abbrev pub ParamsOn : (most : ℕ) → List ℕ → (at : ℕ) → (has_request : Bool) → (now : ℕ)
    → (old new : Association) → Type 0
ParamsOn zero raw at has_request now old new = new ≡ old
ParamsOn (suc most) raw at has_request now old new =
    ((is_end raw at has_request ≡ true) × (new ≡ old))
    ⊎ ((is_end raw at has_request ≡ false)
    × ((mid : Association) × ParamOn (place raw at).typ raw at now old mid
    × ParamsOn most raw (place raw at).next (has_request || ((place raw at).typ == 13)) now
    mid new))

-- So it is of the parameters of a chunk, of which it has at most two.
pub record FollowsParams (raw : List ℕ) (now : ℕ) (old new : Association) : Type 0 where
  pub each : ParamsOn 2 raw 4 false now old new

-- where memory is wanting nothing is said (step `Cut`)
abbrev pub ReconfigOn : ChunkPlace → List ℕ → (now : ℕ) → Step → (old new : Association) → Type 0
ReconfigOn c datagram now Next old new =
    FollowsParams (take c.length (drop c.at datagram)) now old new
ReconfigOn c datagram now Stop old new = ⊥
ReconfigOn c datagram now Cut old new = ⊤
ReconfigOn c datagram now (Refused r) old new = ⊤
