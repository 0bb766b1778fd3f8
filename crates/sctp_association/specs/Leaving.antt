-- What is due stays due until a packet has its chunk, so that none of it is lost (RFC 9260 5.1, 8.3, 9.2). What leaves was due, and is due no more.
use Rattle.std.specs.Prelude.{◌≡◌, ◌≢◌, ◌⊎◌, ⊤, ℕ, ◌+◌, ◌<◌, ◌≤◌, Bool, true, false, not, ◌||◌, List, [], ◌∷◌, ◌++◌, Contains, Option, None, Some, length}
use Rattle.std.specs.Prelude.{IfSome, is_some}
use Rattle.std.specs.Option.{option_map}
use Rattle.sctp_association.specs.declared.association.Association.{Association}
use Rattle.sctp_association.specs.declared.due.Due.{Due}
use Rattle.sctp_association.specs.declared.due.Report.{Report}
use Rattle.sctp_association.specs.declared.inbound.Inbound.{Inbound}
use Rattle.sctp_association.specs.Kept.{sack_waits, unknown_in}
use Rattle.sctp_association.specs.Packets.{Adds, Stands, put_where, sum_of}
use Rattle.sctp_association.specs.Reports.{one_cause}
use Rattle.sctp_association.specs.Sending.{may_drop}
use Rattle.sctp_association.specs.Served.{is_usable}
use Rattle.sctp_association.specs.Still.{comes, heartbeat_time}
use Rattle.sctp_chunks.specs.Reconfig.{Reconfig}
use Rattle.sctp_chunks.specs.Wire.{HasEncoding, Wire}
use Rattle.sctp_chunks.specs.Wire.{cookie_ack_chunk, cookie_echo_chunk, data_chunk, error_chunk, forward_tsn_chunk, heartbeat_ack_chunk, heartbeat_chunk}
use Rattle.sctp_chunks.specs.Wire.{reconfig_chunk}
use Rattle.sctp_chunks.specs.Wire.{sack_chunk, shutdown_ack_chunk, shutdown_chunk}
use Rattle.sctp_chunks.specs.declared.chunk.error_cause.ErrorCause.{ErrorCause}
use Rattle.sctp_data.specs.SelectiveAck.{Sack}
use Rattle.sctp_handshake.specs.declared.state.State.{State}
use Rattle.sctp_handshake.specs.declared.state.State.TheVariants.{ShutdownAckSent, ShutdownSent}
use Rattle.sctp_packets.specs.Draft.{Draft, IsDraft}
use Rattle.sctp_packets.specs.Packet.{FitsParts, HavePacketEncoding, Parts, packet_encoding, padded_encoding}
use Rattle.sctp_params.specs.Param.{Parameter, heartbeat_info, outgoing_reset_request, reconfig_response}
use Rattle.sctp_path.specs.Timers.{is_due}
use Rattle.sctp_reset.specs.Own.{is_none_of}
use Rattle.sctp_util.specs.Field.{be16}
use Rattle.sctp_reset.specs.Requests.{Request, Requests}
use Rattle.sctp_reset.specs.declared.peer_requests.PeerRequests.{PeerRequests}

-- ## What is due

-- Which replies are due beside a packet of one reply, what they say, and how many bytes a packet may have. And whether a SACK waits, what an ERROR is to
-- report, and of which stream one is to tell.
pub record Replies : Type 0 where
  pub cookie_echo : Bool
  pub cookie_ack : Bool
  pub shutdown : Bool
  pub shutdown_ack : Bool
  pub heartbeat : Option (List ℕ)
  pub cookie : Option (List ℕ)
  pub acked : Option ℕ
  pub limit : ℕ
  pub sack : Bool
  pub report : Option Report
  pub unknown : Option ℕ

-- the cumulative TSN, where there is a receiver
abbrev pub acked_of : Option Inbound → Option ℕ
acked_of i = option_map (λ i. i.receiver.cumulative_tsn) i

abbrev pub replies_of : Association → Replies
replies_of a = record {
  cookie_echo = a.due.cookie_echo;
  cookie_ack = a.due.cookie_ack;
  shutdown = a.due.shutdown;
  shutdown_ack = a.due.shutdown_ack;
  heartbeat = a.due.heartbeat;
  cookie = a.cookie;
  acked = acked_of a.inbound;
  limit = a.draft.limit;
  sack = sack_waits a.inbound;
  report = a.due.report;
  unknown = unknown_in a.inbound;
}

-- the answer to a HEARTBEAT: its information comes back (8.3)
abbrev pub heartbeat_ack_of : List ℕ → Wire
heartbeat_ack_of info = heartbeat_ack_chunk (heartbeat_info info ∷ [])

-- the ERROR that reports: its cause and what is said of it (3.2, 3.3.10)
abbrev pub error_about : Report → Wire
error_about r = error_chunk (one_cause r.code r.raw)

-- the ERROR about a stream that there is not: cause 1 tells its number, and two bytes 0 behind it (6.5, 3.3.10.1)
abbrev pub stream_error : ℕ → Wire
stream_error stream = error_chunk (one_cause 1 (be16 stream ++ 0 ∷ 0 ∷ []))

-- ## What leaves

-- no packet of at most so many bytes has room for it behind a header of 12
abbrev pub IsTooLong : (limit : ℕ) → Wire → Type 0
IsTooLong limit w = HasEncoding w → 12 + length (padded_encoding w) ≤ limit → ⊥

-- Each stays due, or its chunk is among these: a COOKIE-ECHO has the cookie, a SHUTDOWN and a SACK the cumulative TSN, and a HEARTBEAT-ACK what the
-- HEARTBEAT had. An ERROR has what is reported, or the stream. One that is too long for a whole packet is dropped, since no control chunk is cut (6.10).
pub record Leaves (In TooLong : Wire → Type 0) (old new : Replies) : Type 0 where
  pub cookie_echo : old.cookie_echo ≡ true → (new.cookie_echo ≡ true)
      ⊎ ((cookie : List ℕ) × (old.cookie ≡ Some cookie) × In (cookie_echo_chunk cookie))
  pub cookie_ack : old.cookie_ack ≡ true → (new.cookie_ack ≡ true) ⊎ In cookie_ack_chunk
  pub shutdown : old.shutdown ≡ true → (new.shutdown ≡ true)
      ⊎ ((tsn : ℕ) × (old.acked ≡ Some tsn) × In (shutdown_chunk tsn))
  pub shutdown_ack : old.shutdown_ack ≡ true → (new.shutdown_ack ≡ true) ⊎ In shutdown_ack_chunk
  pub heartbeat : (info : List ℕ) → old.heartbeat ≡ Some info → (new.heartbeat ≡ Some info)
      ⊎ (In (heartbeat_ack_of info) ⊎ TooLong (heartbeat_ack_of info))
  pub sack : old.sack ≡ true → (new.sack ≡ true)
      ⊎ ((s : Sack) × (old.acked ≡ Some s.cumulative_tsn_ack) × In (sack_chunk s))
  pub report : (r : Report) → old.report ≡ Some r → (new.report ≡ Some r)
      ⊎ (In (error_about r) ⊎ TooLong (error_about r))
  pub unknown : (s : ℕ) → old.unknown ≡ Some s → (new.unknown ≡ Some s)
      ⊎ (In (stream_error s) ⊎ TooLong (stream_error s))
  pub cookie : new.cookie ≡ old.cookie
  pub acked : new.acked ≡ old.acked
  pub limit : new.limit ≡ old.limit

-- ## What leaves was due, and is due no more

-- what is due, the cookie that a COOKIE-ECHO brings back, the state, whether a SACK waits, and of which stream an ERROR is to tell
pub record Owed : Type 0 where
  pub due : Due
  pub cookie : Option (List ℕ)
  pub state : State
  pub sack : Bool
  pub unknown : Option ℕ

abbrev pub owed_of : Association → Owed
owed_of a = record {
  due = a.due;
  cookie = a.cookie;
  state = a.machine.state;
  sack = sack_waits a.inbound;
  unknown = unknown_in a.inbound;
}

-- the machine comes to this state
abbrev pub Reaches : State → (old new : Owed) → Type 0
Reaches s old new = (old.state ≢ s) × (new.state ≡ s)

-- the report was due, with this cause (3.2, 3.3.10.6, 3.3.10.8)
abbrev pub TellsReport : (old new : Owed) → List ErrorCause → Type 0
TellsReport old new causes = (r : Report) × (old.due.report ≡ Some r)
    × (causes ≡ one_cause r.code r.raw) × (new.due.report ≡ None)

-- DATA had come on a stream that there is not: cause 1 tells its number, and two bytes 0 behind it (6.5, 3.3.10.1)
abbrev pub TellsStream : (old new : Owed) → List ErrorCause → Type 0
TellsStream old new causes = (stream : ℕ) × (old.unknown ≡ Some stream)
    × (causes ≡ one_cause 1 (be16 stream ++ 0 ∷ 0 ∷ [])) × (new.unknown ≡ None)

-- Such a chunk was due, as it says, and is due no more. A SHUTDOWN or SHUTDOWN-ACK may be due just now, as the shutdown goes on (9.2). No other
-- chunk is among these.
abbrev pub IsReplyOnce : (old new : Owed) → Wire → Type 0
IsReplyOnce old new (cookie_echo_chunk cookie) = (old.due.cookie_echo ≡ true)
    × (old.cookie ≡ Some cookie) × (new.due.cookie_echo ≡ false)
IsReplyOnce old new cookie_ack_chunk =
    (old.due.cookie_ack ≡ true) × (new.due.cookie_ack ≡ false)
IsReplyOnce old new (shutdown_chunk tsn) =
    ((old.due.shutdown ≡ true) ⊎ Reaches ShutdownSent old new) × (new.due.shutdown ≡ false)
IsReplyOnce old new shutdown_ack_chunk = ((old.due.shutdown_ack ≡ true)
    ⊎ Reaches ShutdownAckSent old new) × (new.due.shutdown_ack ≡ false)
IsReplyOnce old new (heartbeat_ack_chunk ps) = (info : List ℕ) × (old.due.heartbeat ≡ Some info)
    × (ps ≡ heartbeat_info info ∷ []) × (new.due.heartbeat ≡ None)
IsReplyOnce old new (sack_chunk s) = (old.sack ≡ true) × (new.sack ≡ false)
IsReplyOnce old new (error_chunk causes) =
    TellsReport old new causes ⊎ TellsStream old new causes
IsReplyOnce old new _ = ⊥

-- a HEARTBEAT is due (8.3)
abbrev pub beats : ℕ → Association → Bool
beats now a = is_due now (heartbeat_time a)

abbrev pub request_in : ℕ → (waiting : List ℕ) → Option Request → Bool
request_in now waiting None = not (is_none_of waiting)
request_in now waiting (Some r) = is_due now (comes r.at)

-- a request to reset streams is due: streams wait for one, or the moment of the one under way has come (RFC 6525 5.1.1)
abbrev pub requests_due : ℕ → Requests → Bool
requests_due now o = request_in now o.waiting o.under_way

abbrev pub one_where : Bool → ℕ
one_where true = 1
one_where false = 0

-- how many responses to requests of the peer are due (RFC 6525 5.2.1)
abbrev pub responses_due : Option PeerRequests → ℕ
responses_due None = 0
responses_due (Some p) = one_where (is_some p.older) + one_where (is_some p.newer)

-- what is due at a moment, whether a HEARTBEAT, a request and a FORWARD-TSN are, and how many responses
pub record OwedAt : Type 0 where
  pub owed : Owed
  pub beat : Bool
  pub request : Bool
  pub responses : ℕ
  pub skip : Bool

abbrev pub owed_at : ℕ → Association → OwedAt
owed_at now a = record {
  owed = owed_of a;
  beat = beats now a;
  request = requests_due now a.requests;
  responses = responses_due a.peer_requests;
  skip = a.outbound.is_skip_due;
}

-- a FORWARD-TSN comes to be due, too, where something is abandoned (RFC 3758 3.5 C1)
abbrev pub owed_before : ℕ → Association → OwedAt
owed_before now a = record (owed_at now a) {
  skip = may_drop now a.outbound.sender || a.outbound.is_skip_due;
}

-- neither a HEARTBEAT nor a request is due that was not, and no response more
pub record OwesNoMoreAt (old new : OwedAt) : Type 0 where
  pub beat : old.beat ≡ false → new.beat ≡ false
  pub request : old.request ≡ false → new.request ≡ false
  pub responses : new.responses ≤ old.responses

-- at a moment
abbrev pub AsksNoMore : ℕ → Association → Association → Type 0
AsksNoMore now old new = OwesNoMoreAt (owed_at now old) (owed_at now new)

-- of a RE-CONFIG a request was due, and is not, and a response was: fewer are
abbrev pub IsParamOnce : (old new : OwedAt) → Parameter → Type 0
IsParamOnce old new (outgoing_reset_request r) = (old.request ≡ true) × (new.request ≡ false)
IsParamOnce old new (reconfig_response r) = new.responses < old.responses
IsParamOnce old new _ = ⊥

-- a response is among them only where there is one, and so a request
abbrev pub IsParamOf : (responds asks : Bool) → Parameter → Type 0
IsParamOf responds asks (outgoing_reset_request r) = asks ≡ true
IsParamOf responds asks (reconfig_response r) = responds ≡ true
IsParamOf responds asks _ = ⊥

pub record IsReconfigOf (responds asks : Bool) (r : Reconfig) : Type 0 where
  pub first : IfSome r.param_a (IsParamOf responds asks)
  pub second : IfSome r.param_b (IsParamOf responds asks)

-- a RE-CONFIG of these is put, where it fits, or nothing
pub record PutsReconfig (responds asks : Bool) (old new : Draft) : Type 0 where
  pub is_put : Bool
  pub chunk : Reconfig
  pub own : IsReconfigOf responds asks chunk
  pub some : is_put ≡ true → is_some chunk.param_a ≡ true
  pub added : Adds (put_where is_put (reconfig_chunk chunk)) old.bytes new.bytes

-- The same of a HEARTBEAT too: its moment had come, and the next one is later. So of the parameters of a RE-CONFIG, of which it has one or two, and of a
-- FORWARD-TSN.
abbrev pub IsDueOnce : (old new : OwedAt) → Wire → Type 0
IsDueOnce old new (heartbeat_chunk ps) = (old.beat ≡ true) × (new.beat ≡ false)
IsDueOnce old new (reconfig_chunk r) = (is_some r.param_a ≡ true)
    × (IfSome r.param_a (IsParamOnce old new) × IfSome r.param_b (IsParamOnce old new))
IsDueOnce old new (forward_tsn_chunk f) = (old.skip ≡ true) × (new.skip ≡ false)
IsDueOnce old new w = IsReplyOnce old.owed new.owed w

-- so it is of each chunk of a packet of what is due but DATA
abbrev pub IsDueOrData : (old new : OwedAt) → Wire → Type 0
IsDueOrData old new (data_chunk d) = ⊤
IsDueOrData old new w = IsDueOnce old new w

-- Nothing is due that was not, but a SHUTDOWN or SHUTDOWN-ACK as the shutdown goes on (9.2).
pub record OwesNothingNew (old new : Owed) : Type 0 where
  pub cookie_echo : new.due.cookie_echo ≡ true → old.due.cookie_echo ≡ true
  pub cookie_ack : new.due.cookie_ack ≡ true → old.due.cookie_ack ≡ true
  pub shutdown : new.due.shutdown ≡ true
      → (old.due.shutdown ≡ true) ⊎ Reaches ShutdownSent old new
  pub shutdown_ack : new.due.shutdown_ack ≡ true
      → (old.due.shutdown_ack ≡ true) ⊎ Reaches ShutdownAckSent old new
  pub heartbeat : (info : List ℕ) → new.due.heartbeat ≡ Some info
      → old.due.heartbeat ≡ Some info
  pub report : (r : Report) → new.due.report ≡ Some r → old.due.report ≡ Some r
  pub sack : old.sack ≡ false → new.sack ≡ false
  pub unknown : (s : ℕ) → new.unknown ≡ Some s → old.unknown ≡ Some s
  pub cookie : new.cookie ≡ old.cookie

-- the peer is told of the stream that there is not: beside that the receiving half stays
pub record IsStreamTold (old new : Inbound) : Type 0 where
  pub unknown : new.unknown_stream ≡ None
  pub receiver : new.receiver ≡ old.receiver
  pub delay : new.delay ≡ old.delay
  pub usable : (s : ℕ) → is_usable s new ≡ is_usable s old

-- ## Into a packet that is being written

-- the packet was begun
abbrev pub IsTooLongIn : (limit : ℕ) → List ℕ → Wire → Type 0
IsTooLongIn limit old w = (p : Parts) → IsDraft p old → IsTooLong limit w

-- each stays due, or its chunk is put
abbrev pub LeavesInto : Association → Association → Type 0
LeavesInto old new = Leaves (Stands old.draft.bytes new.draft.bytes)
    (IsTooLongIn old.draft.limit old.draft.bytes) (replies_of old) (replies_of new)

-- ## By a datagram

-- the bytes are a packet that has this chunk
pub record HasChunk (bytes : List ℕ) (w : Wire) : Type 0 where
  pub packet : Parts
  pub is_zero : Bool
  pub encoded : bytes ≡ packet_encoding (sum_of is_zero) packet
  pub encodings : HavePacketEncoding packet
  pub fits : FitsParts packet
  pub own : Contains packet.chunks w

-- there is a datagram, and it has this chunk
abbrev pub IsSentIn : Bool → List ℕ → Wire → Type 0
IsSentIn sent bytes w = (sent ≡ true) × HasChunk bytes w

-- each stays due, or leaves in the datagram
abbrev pub LeavesBy : (sent : Bool) → Association → Association → Type 0
LeavesBy sent old new = Leaves (IsSentIn sent new.draft.bytes) (IsTooLong old.draft.limit)
    (replies_of old) (replies_of new)

-- each stays due
abbrev pub StaysDue : Association → Association → Type 0
StaysDue old new = Leaves (λ _. ⊥) (λ _. ⊥) (replies_of old) (replies_of new)
