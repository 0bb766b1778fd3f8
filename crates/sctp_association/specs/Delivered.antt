-- What comes was made: what a datagram carries that the peer wrote, and so each call that it brings, is of what the peer's halves made.
use Rattle.std.specs.Prelude.{◌≡◌, ◌⊎◌, ⊤, Bool, true, false, List, ◌++◌, ℕ, Contains, Some, map}
use Rattle.std.specs.List.{AllByRecursion}
use Rattle.sctp_association.specs.Arrivals.{Arrival, Arrives, Halves, HasType, IsBrought, IsNamed, acks, begins, counts, hears, passes, receives, renews}
use Rattle.sctp_association.specs.Arrivals.{restarts, without_gaps}
use Rattle.sctp_association.specs.Packets.{IsAcked, IsOf, IsWritten, Sides, Transmits}
use Rattle.sctp_association.specs.Sessions.{GoesOn}
use Rattle.sctp_chunks.specs.Wire.{Wire}
use Rattle.sctp_data.specs.ForwardTsn.{ForwardTsn}
use Rattle.sctp_data.specs.PayloadData.{Data, data_of}
use Rattle.sctp_data.specs.SelectiveAck.{Sack}
use Rattle.sctp_datagram.specs.Carried.{Carries}
use Rattle.sctp_delivery.specs.ReceiverCalls.{ReceiverCall}
use Rattle.sctp_delivery.specs.Returns.{CallOrReturn, RunsWithReturns, makes}
use Rattle.sctp_delivery.specs.SenderCalls.{Made}
use Rattle.sctp_delivery.specs.SenderCalls as made
use Rattle.sctp_delivery.specs.Session.{Session, of_receiver}
use Rattle.sctp_receiver.specs.Receiver.{Reception}
use Rattle.sctp_receiver.specs.ReceiverRuns.{Call, closes, discards, forwards, opens, resets, takes}

-- ## What is carried

-- each DATA chunk and FORWARD-TSN that the datagram carries is one of those, each SACK one of these, and a SHUTDOWN acknowledges as one of
-- these does
abbrev pub CarriesOnly : List Made → List Sack → List ℕ → Type 0
CarriesOnly ms sacks datagram = (w : Wire) → Carries datagram w → IsOf ms sacks w

-- so it is of every datagram that `poll_transmit` writes
abbrev pub EachCarriesOnly : Type 0
EachCarriesOnly =
    (ms : List Made) (sacks : List Sack) (datagram : List ℕ) → IsWritten ms sacks datagram
    → CarriesOnly ms sacks datagram

-- ## What is called

-- a DATA chunk was made of which this holds
pub record WasMade (P : Data → Type 0) (ms : List Made) : Type 0 where
  pub chunk : Data
  pub own : Contains ms (made.data_chunk chunk)
  pub is : P chunk

-- a FORWARD-TSN was made that names the stream
pub record WasSkipped (stream : ℕ) (ms : List Made) : Type 0 where
  pub skip : ForwardTsn
  pub own : Contains ms (made.forward_tsn skip)
  pub named : IsNamed skip stream

-- the receiver's call is for a chunk that was made. Of a request to reset streams nothing is said
abbrev pub IsForMade : List Made → Call → Type 0
IsForMade ms (takes c arrival) = Contains ms (made.data_chunk (data_of c))
IsForMade ms (forwards f) = Contains ms (made.forward_tsn f)
IsForMade ms (opens stream) = WasMade (λ d. stream ≡ d.stream_identifier) ms ⊎ WasSkipped stream ms
IsForMade ms (closes stream) = WasMade (λ d. stream ≡ d.stream_identifier) ms
IsForMade ms (discards tsn) = WasMade (λ d. tsn ≡ d.tsn) ms
IsForMade ms (resets stream last) = ⊤
IsForMade ms _ = ⊥

-- a SACK was made; it may count without its gap ack blocks
pub record WasReported (sacks : List Sack) (taken : Sack) : Type 0 where
  pub sack : Sack
  pub own : Contains sacks sack
  pub is : (taken ≡ sack) ⊎ (taken ≡ without_gaps sack)

-- the sender's call is for a SACK that was made, or for a SHUTDOWN that acknowledges as one does. Nothing is said of a response to a reset, nor of
-- how an association begins
abbrev pub IsFor : List Made → List Sack → Arrival → Type 0
IsFor ms sacks (receives call) = IsForMade ms call
IsFor ms sacks (hears (acks sack back gone)) = WasReported sacks sack
IsFor ms sacks (hears (passes tsn gone)) = IsAcked sacks tsn
IsFor ms sacks (hears (counts count)) = (s : Sack) × Contains sacks s
IsFor ms sacks (hears (restarts stream)) = ⊤
IsFor ms sacks (begins tsn max limits) = ⊤
IsFor ms sacks (renews tsn size max) = ⊤

-- each call that the datagram brings is for what was made
abbrev pub BringsOnly : List Made → List Sack → List ℕ → Type 0
BringsOnly ms sacks datagram =
    (old new : Halves) (h : Arrives datagram old new) → AllByRecursion (IsFor ms sacks) h.calls

abbrev pub EachBringsOnly : Type 0
EachBringsOnly =
    (ms : List Made) (sacks : List Sack) (datagram : List ℕ) → IsWritten ms sacks datagram
    → BringsOnly ms sacks datagram

-- ## What few datagrams bring

-- a stream is reset, or an association begins
abbrev pub is_seldom : Arrival → Bool
is_seldom (receives (resets stream last)) = true
is_seldom (receives _) = false
is_seldom (hears (restarts stream)) = true
is_seldom (hears _) = false
is_seldom (begins tsn max limits) = true
is_seldom (renews tsn size max) = true

-- only a datagram with a COOKIE-ECHO, a COOKIE-ACK or a RE-CONFIG chunk brings that
abbrev pub EachSeldomIsCarried : Type 0
EachSeldomIsCarried =
    (datagram : List ℕ) (a : Arrival) → IsBrought datagram a → is_seldom a ≡ true
    → HasType datagram 10 ⊎ HasType datagram 11 ⊎ HasType datagram 130

-- ## In sessions

abbrev pub of_peer : List ReceiverCall → List CallOrReturn
of_peer calls = map (λ c. makes (of_receiver c)) calls

-- the session goes on by calls of its receiver, up to where that stands so, and these SACKs are made meanwhile
pub record GoesOnReporting (sacks : List Sack) (s : Session) (new : Reception) : Type 0 where
  pub calls : List ReceiverCall
  pub ended : Session
  pub run : RunsWithReturns s (of_peer calls) ended
  pub receiver : ended.receiving.receiver ≡ new
  pub more : ended.sacks ≡ sacks ++ s.sacks

-- the sender stands in the one session and the receiver in the other. Both go on up to where the datagram is written, and what that carries and
-- brings was made in them
pub record ComesOf (forth back : Session) (new : Sides) : Type 0 where
  pub made : List Made
  pub sacks : List Sack
  pub receiver : Reception
  pub is : new.receiver ≡ Some receiver
  pub sends : GoesOn made forth new.sender
  pub reports : GoesOnReporting sacks back receiver
  pub carries : CarriesOnly sends.ended.made reports.ended.sacks new.bytes
  pub brings : BringsOnly sends.ended.made reports.ended.sacks new.bytes

-- in whatever sessions the halves of the peer stand when its `poll_transmit` writes a datagram
abbrev pub EachComes : Type 0
EachComes =
    (old new : Sides) → Transmits true old new → (forth back : Session)
    → forth.sending.sender ≡ old.sender → old.receiver ≡ Some back.receiving.receiver
    → ComesOf forth back new
