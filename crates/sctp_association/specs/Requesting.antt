-- Which RE-CONFIG leaves, and what that makes of the requests of both sides (RFC 6525 3.1, 4.1, 4.4, 5.1, 5.2.1). Moments are nanoseconds.
use Rattle.std.specs.Prelude.{◌≡◌, ◌⊎◌, ℕ, ◌+◌, ◌-◌, ◌%◌, ◌^◌, ◌<◌, ◌≤◌, ⊤, max, length, is_some, Bool, true, false, if◌then◌else◌, List, [], ◌∷◌, Option, None}
use Rattle.std.specs.Prelude.{Some, Result, Ok}
use Rattle.std.specs.Option.{option_map}
use Rattle.sctp_association.specs.declared.association.Association.{Association}
use Rattle.sctp_association.specs.declared.fault.Fault.{Fault}
use Rattle.sctp_association.specs.Halves.{is_sent}
use Rattle.sctp_association.specs.Idle.{MayReply}
use Rattle.sctp_association.specs.Packets.{Adds, sum_of}
use Rattle.sctp_association.specs.Runs.{Sends}
use Rattle.sctp_association.specs.Still.{comes}
use Rattle.sctp_chunks.specs.Reconfig.{Reconfig}
use Rattle.sctp_chunks.specs.Wire.{Wire, reconfig_chunk}
use Rattle.sctp_packets.specs.Draft.{Draft}
use Rattle.sctp_packets.specs.Packet.{FitsParts, HavePacketEncoding, Parts, packet_encoding}
use Rattle.sctp_params.specs.Param.{outgoing_reset_request, reconfig_response}
use Rattle.sctp_params.specs.ResetRequest.{ResetRequest}
use Rattle.sctp_params.specs.declared.param.param_reconfig_response.ParamReconfigResponse.{ParamReconfigResponse}
use Rattle.sctp_path.specs.Timers.{is_due}
use Rattle.sctp_reset.specs.Own.{after_begin, after_sent}
use Rattle.sctp_reset.specs.Peer.{first_due, last_number, without_first}
use Rattle.sctp_reset.specs.Requests.{Request, Requests}
use Rattle.sctp_reset.specs.declared.peer_requests.PeerRequests.{PeerRequests}
use Rattle.sctp_sender.specs.Sender.{Transmission}
use Rattle.sctp_sender.specs.Settings.{is_drained}

-- ## One chunk

-- the number of the last request of the peer; 0 where the association did not stand (4.1)
abbrev pub last_asked : Option PeerRequests → ℕ
last_asked None = 0
last_asked (Some p) = last_number p

-- an Outgoing SSN Reset Request: it says what the request does, and the last number of the peer (4.1)
abbrev pub request_wire : (last : ℕ) → Request → ResetRequest
request_wire last r = record {
  reconfig_request_sequence_number = r.number;
  reconfig_response_sequence_number = last;
  sender_last_tsn = r.last_tsn;
  stream_identifiers = r.streams;
}

-- a RE-CONFIG with a response, a request, or both in this order (3.1)
abbrev pub reconfig_with : Option ParamReconfigResponse → Option ResetRequest → Option Reconfig
reconfig_with None None = None
reconfig_with None (Some q) =
    Some (record { param_a = Some (outgoing_reset_request q); param_b = None })
reconfig_with (Some p) q = Some (record {
  param_a = Some (reconfig_response p);
  param_b = option_map outgoing_reset_request q;
})

-- of these chunks
abbrev pub reconfigs_in : List Wire → List Reconfig
reconfigs_in [] = []
reconfigs_in (reconfig_chunk r ∷ ws) = r ∷ reconfigs_in ws
reconfigs_in (w ∷ ws) = reconfigs_in ws

-- one, or none
abbrev pub at_most_one : Option Reconfig → List Reconfig
at_most_one None = []
at_most_one (Some r) = r ∷ []

-- ## What is due

-- the requests of this side, and those of the peer with the responses to them
pub record Resets : Type 0 where
  pub own : Requests
  pub peer : Option PeerRequests

abbrev pub resets_of : Association → Resets
resets_of a = record { own = a.requests; peer = a.peer_requests }

-- Where no request is under way one begins, of the streams that wait for it and of which no DATA waits or is in flight: of 64 at most. Its last TSN is the
-- last one that was assigned (5.1.2).
abbrev pub begun : (now : ℕ) → Transmission → Requests → Requests
begun now t o = after_begin (λ s. is_drained s t) 64
    ((t.flight.next_tsn + (2 ^ 32 - 1)) % 2 ^ 32) now o

-- the request under way, once its moment has come (5.1.1)
abbrev pub due_of : (now : ℕ) → Option Request → Option Request
due_of now None = None
due_of now (Some r) = if is_due now (comes r.at) then Some r else None

-- the response that is due, of two the older one (5.2.1)
abbrev pub first_response : Option PeerRequests → Option ParamReconfigResponse
first_response None = None
first_response (Some p) = first_due p

-- no response is due, and no request, also where one may begin
pub record OwesNoReset (now : ℕ) (t : Transmission) (r : Resets) : Type 0 where
  pub response : first_response r.peer ≡ None
  pub request : due_of now (begun now t r.own).under_way ≡ None

-- ## What leaves

-- no response leaves, and each that is due stays so; or the one that is due leaves, and is due no more
abbrev pub Answers : Option ParamReconfigResponse → (old new : Option PeerRequests) → Type 0
Answers None old new = new ≡ old
Answers (Some p) old new =
    (first_response old ≡ Some p) × (new ≡ option_map without_first old)

-- no request leaves, though one may begin; or the one that is due leaves, and again after the RTO
abbrev pub Asks : (now rto : ℕ) → Transmission → Option Request → (old new : Requests) → Type 0
Asks now rto t None old new = (new ≡ old) ⊎ (new ≡ begun now t old)
Asks now rto t (Some r) old new = (due_of now (begun now t old).under_way ≡ Some r)
    × (new ≡ after_sent now rto (begun now t old))

-- This RE-CONFIG leaves, or none: it has the response, and the request, that leave.
pub record LeavesReset (now rto : ℕ) (t : Transmission) (reconfig : Option Reconfig)
    (old new : Resets) : Type 0 where
  pub response : Option ParamReconfigResponse
  pub request : Option Request
  pub chunk : reconfig
      ≡ reconfig_with response (option_map (request_wire (last_asked old.peer)) request)
  pub answers : Answers response old.peer new.peer
  pub asks : Asks now rto t request old.own new.own

-- ## Into a packet that is being written

-- no RE-CONFIG is put, and all stays due
pub record KeepsResets (old new : Association) : Type 0 where
  pub chunks : List Wire
  pub added : Adds chunks old.draft.bytes new.draft.bytes
  pub none : reconfigs_in chunks ≡ []
  pub same : resets_of new ≡ resets_of old

-- at most one is put. An RTO of 0 counts as a nanosecond
pub record PutsReset (now : ℕ) (old new : Association) : Type 0 where
  pub chunks : List Wire
  pub added : Adds chunks old.draft.bytes new.draft.bytes
  pub reconfig : Option Reconfig
  pub each : reconfigs_in chunks ≡ at_most_one reconfig
  pub leaves : LeavesReset now (max old.outbound.rto.rto 1) old.outbound.sender reconfig
      (resets_of old) (resets_of new)

-- a packet was begun, and has room for a RE-CONFIG of any response, and of a request of so many streams
pub record HasRoom (d : Draft) : Type 0 where
  pub begun : 12 ≤ length d.bytes
  pub room : 168 ≤ d.limit - length d.bytes

abbrev pub IsFewOf : Option ResetRequest → Type 0
IsFewOf None = ⊤
IsFewOf (Some q) = length q.stream_identifiers ≤ 64

-- the request under way was sent, where there is one
abbrev pub sent_where : Bool → (now rto : ℕ) → Requests → Requests
sent_where true now rto o = after_sent now rto o
sent_where false now rto o = o

-- the RE-CONFIG of these is put, where there is one
pub record PutsExact (now : ℕ) (p : Option ParamReconfigResponse) (q : Option ResetRequest)
    (old new : Association) : Type 0 where
  pub chunks : List Wire
  pub added : Adds chunks old.draft.bytes new.draft.bytes
  pub each : reconfigs_in chunks ≡ at_most_one (reconfig_with p q)
  pub sent : new.requests ≡ sent_where (is_some q) now (max old.outbound.rto.rto 1) old.requests
  pub longer : is_some (reconfig_with p q) ≡ true → 12 < length new.draft.bytes

-- ## By a datagram

-- the bytes are a packet that has this RE-CONFIG and no other, or none
pub record HasReconfig (reconfig : Option Reconfig) (bytes : List ℕ) : Type 0 where
  pub packet : Parts
  pub is_zero : Bool
  pub encoded : bytes ≡ packet_encoding (sum_of is_zero) packet
  pub encodings : HavePacketEncoding packet
  pub fits : FitsParts packet
  pub each : reconfigs_in packet.chunks ≡ at_most_one reconfig

-- it leaves in the datagram, where there is one
pub record LeavesResetIn (now : ℕ) (sent : Bool) (t : Transmission) (old new : Association)
    : Type 0 where
  pub reconfig : Option Reconfig
  pub leaves : LeavesReset now (max old.outbound.rto.rto 1) t reconfig
      (resets_of old) (resets_of new)
  pub written : sent ≡ true → HasReconfig reconfig new.draft.bytes
  pub none : sent ≡ false → reconfig ≡ None

-- So it is of what the sender is once messages past their lifetime are dropped. Where there is no datagram, though a reply may leave, none is due.
pub record LeavesResetBy (now : ℕ) (result : Result Bool Fault) (old new : Association)
    : Type 0 where
  pub kept : Transmission
  pub dropped : Sends [] old.outbound.sender kept
  pub leaves : LeavesResetIn now (is_sent result) kept old new
  pub owes : result ≡ Ok false → MayReply new → OwesNoReset now kept (resets_of old)
