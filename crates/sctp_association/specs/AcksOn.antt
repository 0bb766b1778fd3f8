-- What a chunk makes of the SACK that is due (RFC 9260 6.2; RFC 3758 3.6). Moments are nanoseconds.
use Rattle.std.specs.Prelude.{◌≡◌, ⊤, ℕ, List, drop, Option, Some}
use Rattle.std.specs.Option.{option_map}
use Rattle.sctp_association.specs.AcksDue.{AcksData, AcksTold, acks_of, with_due}
use Rattle.sctp_association.specs.Rows.{row_of}
use Rattle.sctp_association.specs.declared.association.Association.{Association}
use Rattle.sctp_association.specs.declared.association.arrivals.Step.{Step}
use Rattle.sctp_association.specs.declared.association.arrivals.Step.TheVariants.{Next, Stop, Cut, Refused}
use Rattle.sctp_association.specs.declared.inbound.Inbound.{Inbound}
use Rattle.sctp_chunks.specs.Wire.{data_chunk}
use Rattle.sctp_data.specs.PayloadData.{data_of}
use Rattle.sctp_data.specs.declared.chunk.chunk_payload_data.ChunkPayloadData.{ChunkPayloadData}
use Rattle.sctp_datagram.specs.Framing.{StartsWith}
use Rattle.sctp_datagram.specs.declared.datagram.ChunkPlace.{ChunkPlace}

-- the DATA chunk at a place of the datagram is noted, or a SACK is due now
pub record AcksDataAt (at : ℕ) (datagram : List ℕ) (now : ℕ) (old new : Inbound) : Type 0 where
  pub chunk : ChunkPayloadData
  pub reads : StartsWith (drop at datagram) (data_chunk (data_of chunk))
  pub acks : AcksData chunk now old new

-- there is a receiving half
abbrev pub AcksDataIn : (at : ℕ) → List ℕ → (now : ℕ) → (old new : Option Inbound) → Type 0
AcksDataIn at datagram now (Some old) (Some new) = AcksDataAt at datagram now old new
AcksDataIn at datagram now _ _ = ⊥

-- By a FORWARD-TSN a SACK is due now. Other chunks leave when one is, unless the association begins by them.
pub record AcksNext (c : ChunkPlace) (datagram : List ℕ) (now : ℕ) (old new : Association)
    : Type 0 where
  pub noted : c.typ ≡ 0 → AcksDataIn c.at datagram now old.inbound new.inbound
  pub skipped : c.typ ≡ 192 → acks_of new.inbound ≡ option_map (with_due now) (acks_of old.inbound)
  pub other : (c.typ ≡ 0 → ⊥) → (c.typ ≡ 192 → ⊥)
      → AcksTold (row_of c datagram now old).answer.told old.config.sack_delay
      (acks_of old.inbound) (acks_of new.inbound)

-- so it is of one behind which the datagram goes on
abbrev pub AcksOn : ChunkPlace → List ℕ → (now : ℕ) → Step → (old new : Association) → Type 0
AcksOn c datagram now Next old new = AcksNext c datagram now old new
AcksOn c datagram now Stop old new = ⊤
AcksOn c datagram now Cut old new = ⊤
AcksOn c datagram now (Refused r) old new = ⊤
