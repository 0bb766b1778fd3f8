-- What becomes of a chunk by itself. Moments are nanoseconds.
use Rattle.std.specs.Prelude.{◌≡◌, ⊤, ℕ, true, List}
use Rattle.sctp_association.specs.AcksOn.{AcksOn}
use Rattle.sctp_association.specs.Beats.{AnswersOn, BeatsOn}
use Rattle.sctp_association.specs.Brought.{BringsOnly}
use Rattle.sctp_association.specs.Causes.{cause_after, cause_in}
use Rattle.sctp_association.specs.Cookies.{cookie_in}
use Rattle.sctp_association.specs.Openings.{EchoesOn, InitAckOn, OffersTo}
use Rattle.sctp_association.specs.Reconfigs.{ReconfigOn}
use Rattle.sctp_association.specs.Reports.{value_in}
use Rattle.sctp_association.specs.Rows.{RowOn, has_row}
use Rattle.sctp_association.specs.Shutting.{ShutsOn}
use Rattle.sctp_association.specs.declared.association.Association.{Association}
use Rattle.sctp_association.specs.declared.association.arrivals.Step.{Step}
use Rattle.sctp_association.specs.declared.association.arrivals.Step.TheVariants.{Next, Stop, Cut, Refused}
use Rattle.sctp_datagram.specs.declared.datagram.ChunkPlace.{ChunkPlace}

-- an INIT that is taken is answered, and nothing more of the datagram is looked at
abbrev pub OffersOn : ChunkPlace → List ℕ → (now : ℕ) → Step → (old new : Association) → Type 0
OffersOn c datagram now Next old new = ⊥
OffersOn c datagram now Stop old new = OffersTo (value_in datagram c) now old new
OffersOn c datagram now Cut old new = ⊥
OffersOn c datagram now (Refused r) old new = ⊤

-- the cause of an ERROR that is taken waits to be told
abbrev pub CauseOn : ChunkPlace → List ℕ → Step → (old new : Association) → Type 0
CauseOn c datagram Next old new =
    new.events.peer_error ≡ cause_after (cause_in datagram c) old.events.peer_error
CauseOn c datagram Stop old new = ⊥
CauseOn c datagram Cut old new = ⊥
CauseOn c datagram (Refused r) old new = ⊤

-- What RFC 9260 says of a chunk by its type is so, wherever it stands in a packet with this tag.
pub record AloneOn (c : ChunkPlace) (tag : ℕ) (datagram : List ℕ) (now : ℕ) (s : Step)
    (old new : Association) : Type 0 where
  -- An INIT is answered: an INIT ACK is due, to its tag, with a ticket of both offers; or what else its row says (5.1 B). So is one with a Host
  -- Name Address, by an ABORT (5.1.2).
  pub init : c.typ ≡ 1 → OffersOn c datagram now s old new
  -- The cookie of an INIT ACK is kept, and a COOKIE-ECHO is due; or what was begun ends (5.1 C).
  pub init_ack : c.typ ≡ 2 → InitAckOn c datagram now s old new
  -- A HEARTBEAT is answered: the HEARTBEAT-ACK is due with its information. The sender and the receiver stay (8.3).
  pub heartbeat : c.typ ≡ 4 → AnswersOn c.at datagram s old new
  -- A HEARTBEAT-ACK measures a round trip for the RTO, and clears the failures, only where a HEARTBEAT with its nonce waits for the answer. Then none
  -- waits, and nothing else of the sending half changes (6.3.1, 8.1, 8.3).
  pub heartbeat_ack : c.typ ≡ 5 → BeatsOn c.at datagram now s old new
  -- A SHUTDOWN acknowledges up to its TSN: the sending half is what that makes of it. One that is outdated, or acknowledges what was not sent,
  -- changes nothing of it (3.3.8, 6.3, 7.2, 9.2).
  pub shutdown : c.typ ≡ 7 → ShutsOn c.at datagram now s old.outbound new.outbound
  -- The first cause of an ERROR waits to be told; one without a cause tells nothing (3.3.10).
  pub error : c.typ ≡ 9 → CauseOn c datagram s old new
  -- A COOKIE-ECHO is of this side. The machine takes the step of its ticket: the association stands, or stands anew, and a COOKIE-ACK is due; or an
  -- ERROR is (5.1 D, 5.2.4).
  pub cookie_echo : c.typ ≡ 10 → EchoesOn tag (cookie_in datagram c) now s old new
  -- Of each other chunk but a RE-CONFIG the machine makes what the row of its state says. Its reply is due, and no other; what it tells waits to be
  -- told; and the association is over where the row ends it. By DATA, a SACK or a FORWARD-TSN this side may end it (4, 5, 9).
  pub row : has_row c.typ ≡ true → RowOn c datagram now s old new
  -- DATA is noted, and is acknowledged at once where it is a repeat, has the I bit, or there is a gap. By DATA that is refused, and by a FORWARD-TSN, a SACK
  -- is due now. Other chunks leave when one is (6.2, 6.7; RFC 7053; RFC 3758 3.6).
  pub acks : has_row c.typ ≡ true → AcksOn c datagram now s old new
  -- By its type it brings events, and no others: a message can be read, or is too long, on the stream of DATA alone (6.2, 6.5, 9, 11.2).
  pub events : BringsOnly c datagram old new
  -- A RE-CONFIG: its parameters are followed. A request of the peer resets streams that the peer sends on, and is answered; a response ends the
  -- request of this side, and its streams begin at SSN 0 again. Nothing else changes (RFC 6525 4, 5.2).
  pub reconfig : c.typ ≡ 130 → ReconfigOn c datagram now s old new

-- it is none of DATA, INIT, INIT ACK, COOKIE-ECHO, FORWARD-TSN and RE-CONFIG
abbrev pub IsOther : ℕ → Type 0
IsOther typ = (typ ≡ 0 → ⊥) × (typ ≡ 1 → ⊥) × (typ ≡ 2 → ⊥) × (typ ≡ 10 → ⊥)
    × (typ ≡ 192 → ⊥) × (typ ≡ 130 → ⊥)
