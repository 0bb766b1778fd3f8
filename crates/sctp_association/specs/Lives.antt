-- The life of an association: by which datagrams it knows its peer (RFC 9260 5.1).
use Rattle.std.specs.Prelude.{◌≡◌, ◌⊎◌, ⊤, ℕ, List, [], ◌∷◌, Contains, Option, Some, None}
use Rattle.sctp_association.specs.Arrivals.{Arrival, ArrivesAs, begins}
use Rattle.sctp_association.specs.Beginnings.{AnswersInit, ArrivesAsOffered, BeginsToAsk, HasAsked, IsEchoed, IsKeptButMtu, IsMadeOf, KeepsPeer}
use Rattle.sctp_association.specs.Beginnings.{OffersInit, begins_by}
use Rattle.sctp_association.specs.Halves.{halves_of}
use Rattle.sctp_association.specs.Kept.{OwesTicket, ticket_due}
use Rattle.sctp_association.specs.Offering.{OffersAsDue}
use Rattle.sctp_association.specs.declared.association.Association.{Association}
use Rattle.sctp_association.specs.declared.config.Config.{Config}
use Rattle.sctp_handshake.specs.declared.offer.Offer.{Offer}
use Rattle.sctp_handshake.specs.declared.ticket.Ticket.{Ticket}

-- ## What it does

-- the key, the datagrams that it was handed, and the tickets over which it has sealed a cookie; each list has the last one first
pub record Life : Type 0 where
  pub key : List ℕ
  pub came : List (List ℕ)
  pub sealed : List Ticket

abbrev pub new_life : List ℕ → Life
new_life key = record { key = key; came = []; sealed = [] }

pub data Deed : Type 0 where
  -- a call that no datagram brings, and that is none of the others
  stays : Deed
  -- `connect`
  asks : Deed
  -- `set_mtu`
  resizes : Deed
  -- `poll_transmit` answers that this datagram is there
  writes : List ℕ → Deed
  -- `handle_datagram`
  handles : List ℕ → Deed

-- what the clauses of these calls say
abbrev pub DoesDeed : Deed → Association → Association → Type 0
DoesDeed stays a b = KeepsPeer a b
DoesDeed asks a b = BeginsToAsk a b × HasAsked b
DoesDeed resizes a b = IsKeptButMtu a b
DoesDeed (writes datagram) a b = KeepsPeer a b × OffersAsDue a datagram
DoesDeed (handles datagram) a b = ArrivesAsOffered datagram a b

-- the cookie of an INIT ACK is sealed when its datagram is written
abbrev pub with_sealed : Option Ticket → List Ticket → List Ticket
with_sealed None tickets = tickets
with_sealed (Some ticket) tickets = ticket ∷ tickets

abbrev pub life_after : Deed → Association → Life → Life
life_after (writes datagram) a l =
    record l { sealed = with_sealed (ticket_due a.due.alone) l.sealed }
life_after (handles datagram) a l = record l { came = datagram ∷ l.came }
life_after _ a l = l

-- ## What came

-- an INIT that came made the offer
abbrev pub CameInInit : Life → Offer → Type 0
CameInInit l offer = (datagram : List ℕ) × Contains l.came datagram × OffersInit datagram offer

-- an INIT ACK did
abbrev pub CameInInitAck : Life → Offer → Type 0
CameInInitAck l offer =
    (datagram : List ℕ) × Contains l.came datagram × AnswersInit datagram offer

-- a COOKIE-ECHO that came has a cookie under the key over this ticket
abbrev pub WasEchoed : Life → Ticket → Type 0
WasEchoed l ticket =
    (datagram : List ℕ) × Contains l.came datagram × IsEchoed datagram l.key ticket

-- the peer's offer came in an INIT ACK, or in a ticket that was echoed
abbrev pub CameSo : Life → Offer → Type 0
CameSo l offer =
    CameInInitAck l offer ⊎ ((ticket : Ticket) × WasEchoed l ticket × (ticket.peer ≡ offer))

-- what the association knows came, and each ticket that it sealed, or that is due, has the offer of an INIT that came
pub record Knows (l : Life) (a : Association) : Type 0 where
  pub key : a.key ≡ l.key
  pub peer : (offer : Offer) → a.machine.peer ≡ Some offer → CameSo l offer
  pub due : (ticket : Ticket) → OwesTicket a ticket → CameInInit l ticket.peer
  pub sealed : (ticket : Ticket) → Contains l.sealed ticket → CameInInit l ticket.peer

-- a receiver that is new begins by an offer of which this holds, and by the config
abbrev pub BeginsBySome : (Offer → Type 0) → Config → Arrival → Type 0
BeginsBySome P c (begins tsn max limits) =
    (offer : Offer) × P offer × (begins tsn max limits ≡ begins_by offer c)
BeginsBySome P c _ = ⊤

-- nobody without the key has made a cookie: each that was echoed has a ticket that this side has sealed
abbrev pub IsUnforged : Life → Type 0
IsUnforged l = (ticket : Ticket) → WasEchoed l ticket → Contains l.sealed ticket

-- ## The law

abbrev pub EachLifeBegins : Type 0
EachLifeBegins =
    (config : Config) (key : List ℕ) (tsn : ℕ) (a : Association) → IsMadeOf config key tsn a
    → Knows (new_life key) a

abbrev pub EachDeedIsKnown : Type 0
EachDeedIsKnown =
    (deed : Deed) (a b : Association) (l : Life) → DoesDeed deed a b → Knows l a
    → Knows (life_after deed a l) b

-- each receiver begins by what came
abbrev pub EachBeginningCame : Type 0
EachBeginningCame =
    (datagram : List ℕ) (a b : Association) (l : Life) → ArrivesAsOffered datagram a b → Knows l a
    → ArrivesAs (BeginsBySome (CameSo (life_after (handles datagram) a l)) a.config) datagram
    (halves_of a) (halves_of b)

-- and where no cookie was forged, by the offer of an INIT or of an INIT ACK that came
abbrev pub EachUnforgedCame : Type 0
EachUnforgedCame =
    (l : Life) (a : Association) → Knows l a → IsUnforged l → (offer : Offer) → CameSo l offer
    → CameInInit l offer ⊎ CameInInitAck l offer

-- of a datagram that an association wrote: the offer of an INIT has its first TSN, and that of an INIT ACK the first TSN of the ticket that was due
abbrev pub EachOfferIsRead : Type 0
EachOfferIsRead =
    (a : Association) (datagram : List ℕ) → OffersAsDue a datagram → (offer : Offer)
    → (OffersInit datagram offer → offer.first_tsn ≡ a.machine.own.first_tsn)
    × (AnswersInit datagram offer
    → (ticket : Ticket) × OwesTicket a ticket × (offer.first_tsn ≡ ticket.own.first_tsn))
