-- Which HEARTBEAT leaves, and that its answer is awaited (RFC 9260 8.3). Moments are nanoseconds.
use Rattle.std.specs.Int.{w64, to_be_bytes}
use Rattle.std.specs.Prelude.{◌≡◌, ◌⊎◌, ℕ, Bool, true, false, List, [], ◌∷◌}
use Rattle.std.specs.Option.{option_map}
use Rattle.sctp_association.specs.declared.association.Association.{Association}
use Rattle.sctp_association.specs.Leaving.{beats}
use Rattle.sctp_association.specs.Packets.{Adds, sum_of}
use Rattle.sctp_chunks.specs.Wire.{Wire, heartbeat_chunk}
use Rattle.sctp_packets.specs.Packet.{FitsParts, HavePacketEncoding, Parts, packet_encoding}
use Rattle.sctp_params.specs.Param.{Parameter, heartbeat_info}
use Rattle.sctp_path.specs.declared.heartbeat.Heartbeat.{Heartbeat}
use Rattle.sctp_path.specs.Heartbeats.{after_asking}

-- ## Chunks

-- a HEARTBEAT of this side: its information is the moment, in eight bytes
abbrev pub beat_at : (now : ℕ) → List Parameter
beat_at now = heartbeat_info (to_be_bytes w64 now) ∷ []

-- the HEARTBEATs among these
abbrev pub beats_in : List Wire → List (List Parameter)
beats_in [] = []
beats_in (heartbeat_chunk ps ∷ ws) = ps ∷ beats_in ws
beats_in (w ∷ ws) = beats_in ws

-- one, or none
abbrev pub beat_where : (asks : Bool) → (now : ℕ) → List (List Parameter)
beat_where true now = beat_at now ∷ []
beat_where false now = []

-- ## What leaves

-- when the next one is due stays, and so does the one whose answer is awaited
abbrev pub Waits : (old new : Association) → Type 0
Waits old new = new.heartbeat ≡ old.heartbeat

-- the path is used now
abbrev pub used_at : ℕ → Heartbeat → Heartbeat
used_at now h = record h { used = now }

-- or DATA leaves now: the path is not idle
abbrev pub WaitsIdle : (now : ℕ) → (old new : Association) → Type 0
WaitsIdle now old new = Waits old new
    ⊎ ((new.outbound.used ≡ now) × (new.heartbeat ≡ option_map (used_at now) old.heartbeat))

-- No HEARTBEAT leaves. Or one was due, and leaves: its answer is awaited, with the moment in it, and that of an earlier one no more.
abbrev pub Probes : (Association → Association → Type 0) → (now : ℕ) → (asks : Bool)
    → (old new : Association) → Type 0
Probes Stays now false old new = Stays old new
Probes Stays now true old new = (beats now old ≡ true)
    × (new.heartbeat ≡ option_map (after_asking now now) old.heartbeat)

-- ## Into a packet that is being written

-- none is put
pub record KeepsBeat (old new : Association) : Type 0 where
  pub chunks : List Wire
  pub added : Adds chunks old.draft.bytes new.draft.bytes
  pub none : beats_in chunks ≡ []
  pub same : Waits old new

-- one is put at most
pub record PutsBeat (Stays : Association → Association → Type 0) (now : ℕ) (old new : Association)
    : Type 0 where
  pub chunks : List Wire
  pub added : Adds chunks old.draft.bytes new.draft.bytes
  pub asks : Bool
  pub each : beats_in chunks ≡ beat_where asks now
  pub probes : Probes Stays now asks old new

-- ## By a datagram

-- the bytes are a packet that has exactly these HEARTBEATs
pub record HasBeats (bs : List (List Parameter)) (bytes : List ℕ) : Type 0 where
  pub packet : Parts
  pub is_zero : Bool
  pub encoded : bytes ≡ packet_encoding (sum_of is_zero) packet
  pub encodings : HavePacketEncoding packet
  pub fits : FitsParts packet
  pub each : beats_in packet.chunks ≡ bs

-- one leaves at most: in the datagram, where there is one
pub record LeavesBeat (now : ℕ) (sent : Bool) (old new : Association) : Type 0 where
  pub asks : Bool
  pub probes : Probes (WaitsIdle now) now asks old new
  pub written : sent ≡ true → HasBeats (beat_where asks now) new.draft.bytes
  pub none : sent ≡ false → asks ≡ false
