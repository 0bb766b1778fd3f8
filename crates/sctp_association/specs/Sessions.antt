-- What a datagram carries, in a session of the sender (`sctp_delivery`).
use Rattle.std.specs.Prelude.{◌≡◌, ⊤, Bool, true, List, ◌++◌, Contains, map}
use Rattle.std.specs.List.{AllByRecursion}
use Rattle.sctp_association.specs.Packets.{Sides, Transmits, sum_of}
use Rattle.sctp_chunks.specs.Wire.{Wire, data_chunk, forward_tsn_chunk}
use Rattle.sctp_delivery.specs.Returns.{CallOrReturn, RunsWithReturns, makes}
use Rattle.sctp_delivery.specs.SenderCalls.{Made, SenderCall}
use Rattle.sctp_delivery.specs.SenderCalls as made
use Rattle.sctp_delivery.specs.Session.{Session, of_sender}
use Rattle.sctp_packets.specs.Packet.{Parts, packet_encoding}
use Rattle.sctp_sender.specs.Sender.{Transmission}

abbrev pub of_session : List SenderCall → List CallOrReturn
of_session calls = map (λ c. makes (of_sender c)) calls

-- the session goes on by calls of its sender, up to where that stands so, and these chunks are made meanwhile
pub record GoesOn (made : List Made) (s : Session) (new : Transmission) : Type 0 where
  pub calls : List SenderCall
  pub ended : Session
  pub run : RunsWithReturns s (of_session calls) ended
  pub sender : ended.sending.sender ≡ new
  pub more : ended.made ≡ made ++ s.made

-- DATA and FORWARD-TSN were made
abbrev pub IsMade : List Made → Wire → Type 0
IsMade ms (data_chunk d) = Contains ms (made.data_chunk d)
IsMade ms (forward_tsn_chunk f) = Contains ms (made.forward_tsn f)
IsMade ms _ = ⊤

-- the datagram is a packet, of which DATA and FORWARD-TSN were made in the session
pub record IsSentIn (s : Session) (old new : Sides) : Type 0 where
  pub made : List Made
  pub goes_on : GoesOn made s new.sender
  pub packet : Parts
  pub is_zero : Bool
  pub encoded : new.bytes ≡ packet_encoding (sum_of is_zero) packet
  pub carried : AllByRecursion (IsMade goes_on.ended.made) packet.chunks

-- whatever session the sender stands in, each datagram is of it
abbrev pub EachIsSent : Type 0
EachIsSent =
    (old new : Sides) → Transmits true old new
    → (s : Session) → s.sending.sender ≡ old.sender → IsSentIn s old new
