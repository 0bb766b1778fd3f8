-- In which order the chunks of a packet stand, and how many it has of a type (RFC 9260 6.10; RFC 6525 3.1).
use Rattle.std.specs.Prelude.{◌≡◌, ◌⊎◌, ℕ, Bool, List, [], ◌∷◌, ◌++◌}
use Rattle.std.specs.List.{AllByRecursion}
use Rattle.sctp_association.specs.Packets.{Adds, IsData, sum_of}
use Rattle.sctp_chunks.specs.Wire.{Wire, type_of}
use Rattle.sctp_packets.specs.Packet.{FitsParts, HavePacketEncoding, Parts, packet_encoding}

-- ## Some chunks

abbrev pub Begins : ℕ → (List Wire → Type 0) → List Wire → Type 0
Begins t Rest [] = ⊥
Begins t Rest (w ∷ ws) = (type_of w ≡ t) × Rest ws

-- they have these types, in this order, and one of each at most
abbrev pub AreOf : (types : List ℕ) → List Wire → Type 0
AreOf [] ws = ws ≡ []
AreOf (t ∷ ts) ws = AreOf ts ws ⊎ Begins t (AreOf ts) ws

-- and behind them stands only DATA
pub record StandInOrder (types : List ℕ) (ws : List Wire) : Type 0 where
  pub control : List Wire
  pub users : List Wire
  pub all : ws ≡ control ++ users
  pub order : AreOf types control
  pub behind : AllByRecursion IsData users

-- COOKIE-ECHO, COOKIE-ACK, SACK, SHUTDOWN, SHUTDOWN-ACK, HEARTBEAT-ACK, HEARTBEAT, two ERRORs, RE-CONFIG and FORWARD-TSN
abbrev pub control_order : List ℕ
control_order = 10 ∷ 11 ∷ 3 ∷ 7 ∷ 8 ∷ 5 ∷ 4 ∷ 9 ∷ 9 ∷ 130 ∷ 192 ∷ []

-- ## Into a packet that is being written

pub record PutsTypes (types : List ℕ) (old new : List ℕ) : Type 0 where
  pub chunks : List Wire
  pub added : Adds chunks old new
  pub order : AreOf types chunks

pub record PutsInOrder (types : List ℕ) (old new : List ℕ) : Type 0 where
  pub chunks : List Wire
  pub added : Adds chunks old new
  pub order : StandInOrder types chunks

-- ## A datagram

-- Of each of these types it has one at most, of ERROR two: control chunks in this order, and then DATA.
pub record IsInOrder (bytes : List ℕ) : Type 0 where
  pub packet : Parts
  pub is_zero : Bool
  pub encoded : bytes ≡ packet_encoding (sum_of is_zero) packet
  pub encodings : HavePacketEncoding packet
  pub fits : FitsParts packet
  pub order : StandInOrder control_order packet.chunks
