-- What a HEARTBEAT asks for (RFC 9260 8.3), and what a HEARTBEAT-ACK makes of the sending half: the RTO and the failures (6.3.1, 8.1, 8.3). Moments are
-- nanoseconds.
use Rattle.std.specs.Int.{w64, from_be_bytes}
use Rattle.std.specs.Prelude.{◌≡◌, ⊤, ℕ, nat_lt, if◌then◌else◌, List, [], ◌∷◌, drop, length, take, Option, Some, None}
use Rattle.sctp_association.specs.Halves.{receiver_of}
use Rattle.sctp_association.specs.declared.association.Association.{Association}
use Rattle.sctp_association.specs.declared.association.arrivals.Step.{Step}
use Rattle.sctp_association.specs.declared.association.arrivals.Step.TheVariants.{Next, Stop, Cut, Refused}
use Rattle.sctp_association.specs.declared.outbound.Outbound.{Outbound}
use Rattle.sctp_chunks.specs.Wire.{heartbeat_ack_chunk, heartbeat_chunk}
use Rattle.sctp_datagram.specs.Framing.{StartsWith}
use Rattle.sctp_params.specs.Param.{heartbeat_info}
use Rattle.sctp_path.specs.Heartbeats.{asked_after, trip_of}
use Rattle.sctp_path.specs.Rto.{after_trip}
use Rattle.sctp_path.specs.declared.heartbeat.Heartbeat.{Heartbeat}

-- the nonce that comes back: the first eight bytes of the Heartbeat Info, the highest first
abbrev pub nonce_in : List ℕ → Option ℕ
nonce_in info = if nat_lt (length info) 8 then None else Some (from_be_bytes w64 (take 8 info))

-- the round trip that it tells: only where a HEARTBEAT with that nonce waits for its answer
abbrev pub trip_by : (now : ℕ) → Option ℕ → Option Heartbeat → Option ℕ
trip_by now None h = None
trip_by now (Some nonce) None = None
trip_by now (Some nonce) (Some h) = trip_of now nonce h.asked

-- then none waits: so a HEARTBEAT tells one round trip
abbrev pub heartbeat_after : Option ℕ → Option Heartbeat → Option Heartbeat
heartbeat_after None h = h
heartbeat_after (Some nonce) None = None
heartbeat_after (Some nonce) (Some h) = Some (record h { asked = asked_after nonce h.asked })

-- a round trip makes the RTO (6.3.1 C2, C3), and clears the failures (8.1); where none is told all stays
abbrev pub after_beat : Option ℕ → Outbound → Outbound
after_beat None o = o
after_beat (Some trip) o = record o {
  rto = after_trip trip o.rto;
  failures = record o.failures { count = 0 };
}

-- the nonce came back
pub record IsBeaten (now : ℕ) (nonce : Option ℕ) (old new : Association) : Type 0 where
  pub outbound : new.outbound ≡ after_beat (trip_by now nonce old.heartbeat) old.outbound
  pub heartbeat : new.heartbeat ≡ heartbeat_after nonce old.heartbeat

-- so it is of the HEARTBEAT-ACK at a place
pub record BeatsAt (at : ℕ) (datagram : List ℕ) (now : ℕ) (old new : Association) : Type 0 where
  pub info : List ℕ
  pub reads : StartsWith (drop at datagram) (heartbeat_ack_chunk (heartbeat_info info ∷ []))
  pub beats : IsBeaten now (nonce_in info) old new

-- so it is of one that is taken; it ends nothing
abbrev pub BeatsOn : (at : ℕ) → List ℕ → (now : ℕ) → Step → (old new : Association) → Type 0
BeatsOn at datagram now Next old new = BeatsAt at datagram now old new
BeatsOn at datagram now Stop old new = ⊥
BeatsOn at datagram now Cut old new = ⊥
BeatsOn at datagram now (Refused r) old new = ⊤

-- ## The HEARTBEAT that is answered

-- The HEARTBEAT at a place: its answer is due with its information. The sender and the receiver stay, and the association goes on.
pub record AnswersAt (at : ℕ) (datagram : List ℕ) (old new : Association) : Type 0 where
  pub info : List ℕ
  pub reads : StartsWith (drop at datagram) (heartbeat_chunk (heartbeat_info info ∷ []))
  pub due : new.due.heartbeat ≡ Some info
  pub outbound : new.outbound ≡ old.outbound
  pub receiver : receiver_of new.inbound ≡ receiver_of old.inbound
  pub over : new.is_over ≡ old.is_over

-- so it is of one that is taken; it ends nothing
abbrev pub AnswersOn : (at : ℕ) → List ℕ → Step → (old new : Association) → Type 0
AnswersOn at datagram Next old new = AnswersAt at datagram old new
AnswersOn at datagram Stop old new = ⊥
AnswersOn at datagram Cut old new = ⊥
AnswersOn at datagram (Refused r) old new = ⊤
