-- How an association begins (RFC 9260 5.1, 5.2.4).
use Rattle.std.specs.Prelude.{◌≡◌, ◌⊎◌, ⊤, ℕ, Bool, true, false, List, drop, Option, Some, None, Ok, ◌<◌}
use Rattle.sctp_association.specs.Causes.{TellsStale, cause_in}
use Rattle.sctp_association.specs.Arrivals.{Arrival, Arrives, ArrivesAs, Does, Halves, begins, hears, receives, renews}
use Rattle.sctp_association.specs.Cookies.{IsSealedAt, cookie_in}
use Rattle.sctp_association.specs.declared.association.Association.{Association}
use Rattle.sctp_association.specs.declared.config.Config.{Config}
use Rattle.sctp_association.specs.declared.due.Alone.{Alone}
use Rattle.sctp_association.specs.declared.due.AloneKind.TheVariants.{Init}
use Rattle.sctp_association.specs.Halves.{fragment_size, halves_of}
use Rattle.sctp_association.specs.Kept.{OwesNoMore, OwesTicket, ticket_due}
use Rattle.sctp_association.specs.Lasting.{StaysWithin}
use Rattle.sctp_association.specs.Reached.{limits_of}
use Rattle.sctp_chunks.specs.Framing.{value_at}
use Rattle.sctp_datagram.specs.Carried.{IsChunkOf}
use Rattle.sctp_datagram.specs.declared.datagram.ChunkPlace.{ChunkPlace}
use Rattle.sctp_datagram.specs.declared.params.ParamPlace.{ParamPlace}
use Rattle.sctp_handshake.specs.InitValues as values
use Rattle.sctp_handshake.specs.Machines.{into}
use Rattle.sctp_handshake.specs.declared.answer.Told.{Told}
use Rattle.sctp_handshake.specs.declared.answer.Told.TheVariants as told
use Rattle.sctp_handshake.specs.declared.machine.Machine.{Machine}
use Rattle.sctp_handshake.specs.declared.offer.Offer.{Offer}
use Rattle.sctp_handshake.specs.declared.state.State.{State}
use Rattle.sctp_handshake.specs.declared.state.State.TheVariants.{Closed, CookieWait, CookieEchoed, Established}
use Rattle.sctp_handshake.specs.declared.state.State.TheVariants.{ShutdownPending, ShutdownSent, ShutdownReceived, ShutdownAckSent}
use Rattle.sctp_handshake.specs.declared.ticket.Ticket.{Ticket}
use Rattle.sctp_util.specs.Field.{u32_at}

-- an INIT, to a peer whose tag is not known
abbrev pub init_alone : Alone
init_alone = record { tag = 0; kind = Init }

-- an INIT is due
abbrev pub OwesInit : Association → Type 0
OwesInit a = a.due.alone ≡ Some init_alone

-- it was not begun, and did not end
abbrev pub IsUnbegun : Association → Type 0
IsUnbegun a = (a.is_over ≡ false) × (a.machine.state ≡ Closed)

-- `connect` asked the peer: an INIT is due, and the INIT ACK is waited for
abbrev pub HasAsked : Association → Type 0
HasAsked a = (a.machine.state ≡ CookieWait) × OwesInit a

-- ## Halves that are new

-- the receiver is a new one, with the first TSN that the peer offers, and by the config
abbrev pub begins_by : Offer → Config → Arrival
begins_by peer c = begins peer.first_tsn c.max_message_size (limits_of c)

-- the sender is a new one, with this first TSN, and by the config
abbrev pub renews_by : ℕ → Config → Arrival
renews_by tsn c = renews tsn (fragment_size c.mtu) c.max_message_size

-- the receiver is a new one, where the peer's offer is known
abbrev pub Begins : Option Offer → Config → Halves → Halves → Type 0
Begins None c old new = new ≡ old
Begins (Some peer) c old new = Does (begins_by peer c) old new

-- the sender is a new one, and then the receiver
pub record BeginsAnew (m : Machine) (c : Config) (old new : Halves) : Type 0 where
  pub middle : Halves
  pub renewed : Does (renews_by m.own.first_tsn c) old middle
  pub begun : Begins m.peer c middle new

-- by what is told, and what the machine knows then
abbrev pub BeginsBy : Option Told → Machine → Config → Halves → Halves → Type 0
BeginsBy None m c old new = new ≡ old
BeginsBy (Some told.Connected) m c old new = old.receiver ≡ None → Begins m.peer c old new
BeginsBy (Some told.Restarted) m c old new = BeginsAnew m c old new
BeginsBy (Some told.ShutdownBegun) m c old new = new ≡ old
BeginsBy (Some told.Closed) m c old new = new ≡ old
BeginsBy (Some told.Failed) m c old new = new ≡ old

-- ## By whose offer

-- this side has sent an INIT, and no association stands yet
abbrev pub is_asking : State → Bool
is_asking Closed = false
is_asking CookieWait = true
is_asking CookieEchoed = true
is_asking Established = false
is_asking ShutdownPending = false
is_asking ShutdownSent = false
is_asking ShutdownReceived = false
is_asking ShutdownAckSent = false

-- an association stands
abbrev pub is_standing : State → Bool
is_standing Closed = false
is_standing CookieWait = false
is_standing CookieEchoed = false
is_standing Established = true
is_standing ShutdownPending = true
is_standing ShutdownSent = true
is_standing ShutdownReceived = true
is_standing ShutdownAckSent = true

-- a COOKIE-ECHO of the datagram has a cookie that this side has sealed under the key, over this ticket
pub record IsEchoed (datagram key : List ℕ) (ticket : Ticket) : Type 0 where
  pub place : ChunkPlace
  pub own : IsChunkOf datagram place
  pub typ : place.typ ≡ 10
  pub moment : ℕ
  pub made : IsSealedAt moment key ticket.own.tag (cookie_in datagram place)
  pub is : made.ticket ≡ ticket

-- an INIT ACK of the datagram makes this offer
pub record AnswersInit (datagram : List ℕ) (offer : Offer) : Type 0 where
  pub place : ChunkPlace
  pub own : IsChunkOf datagram place
  pub typ : place.typ ≡ 2
  pub cookie : ParamPlace
  pub reads : values.cookie_in (values.init_in (value_at (drop place.at datagram)))
      ≡ Ok (offer, cookie)

-- an INIT of the datagram makes this offer
pub record OffersInit (datagram : List ℕ) (offer : Offer) : Type 0 where
  pub place : ChunkPlace
  pub own : IsChunkOf datagram place
  pub typ : place.typ ≡ 1
  pub cookie : Option ParamPlace
  pub reads : values.init_in (value_at (drop place.at datagram))
      ≡ Ok (record { offer = offer; cookie = cookie })

-- By this offer of the peer the association may begin when the datagram comes: it is that of a ticket that the datagram echoes; or this side has asked,
-- and it is that of an INIT ACK of the datagram, or the one that this side keeps of an earlier INIT ACK.
pub data IsOffered (datagram : List ℕ) (a : Association) (offer : Offer) : Type 0 where
  by_ticket : (ticket : Ticket) → IsEchoed datagram a.key ticket → ticket.peer ≡ offer
      → IsOffered datagram a offer
  by_init_ack : is_asking a.machine.state ≡ true → AnswersInit datagram offer
      → IsOffered datagram a offer
  by_kept : is_asking a.machine.state ≡ true → a.machine.peer ≡ Some offer
      → IsOffered datagram a offer

-- the receiver begins with the first TSN of such an offer, and by the config
pub record BeginsByOffer (datagram : List ℕ) (a : Association) (call : Arrival) : Type 0 where
  pub peer : Offer
  pub offered : IsOffered datagram a peer
  pub is : call ≡ begins_by peer a.config

-- the sender begins with the first TSN that this side offers in a ticket that the datagram echoes, and by the config; and the peer has begun again
pub record RenewsByTicket (datagram : List ℕ) (old new : Association) (call : Arrival)
    : Type 0 where
  pub ticket : Ticket
  pub echoed : IsEchoed datagram old.key ticket
  pub is : call ≡ renews_by ticket.own.first_tsn old.config
  pub restarted : new.machine.has_restarted ≡ true

-- a call of a half that is there, or a half begins so
abbrev pub IsBegunBy : List ℕ → (old new : Association) → Arrival → Type 0
IsBegunBy datagram old new (receives call) = ⊤
IsBegunBy datagram old new (hears call) = ⊤
IsBegunBy datagram old new (begins tsn max limits) =
    BeginsByOffer datagram old (begins tsn max limits)
IsBegunBy datagram old new (renews tsn size max) =
    RenewsByTicket datagram old new (renews tsn size max)

-- the offer of this side in a ticket that the datagram echoes
abbrev pub IsOwnEchoed : (datagram key : List ℕ) → Offer → Type 0
IsOwnEchoed datagram key offer = (ticket : Ticket) × IsEchoed datagram key ticket × (ticket.own ≡ offer)

-- it offers the same with another tag, which is not 0 (5.2.6, 5.3.1)
pub record HasFreshTag (old new : Offer) : Type 0 where
  pub same : new ≡ record old { tag = new.tag }
  pub some : 0 < new.tag

-- what this side offers, or what a ticket says that is echoed; with another tag, where an ERROR of the datagram tells that the cookie is stale
pub record IsOwnOffer (datagram : List ℕ) (a : Association) (offer : Offer) : Type 0 where
  pub base : Offer
  pub is : (base ≡ a.machine.own) ⊎ IsOwnEchoed datagram a.key base
  pub tag : (offer ≡ base) ⊎ (TellsStale datagram × HasFreshTag base offer)

-- the ticket has the offer of an INIT of the datagram, and the first TSN of this side; the tag of this side, or another one, which is not 0
-- (RFC 9260 5.2.1, 5.2.2, 5.3.1)
pub record IsOwedFor (datagram : List ℕ) (a : Association) (ticket : Ticket) : Type 0 where
  pub offered : OffersInit datagram ticket.peer
  pub own : Offer
  pub is : IsOwnOffer datagram a own
  pub tsn : ticket.own.first_tsn ≡ own.first_tsn
  pub tag : (ticket.own.tag ≡ own.tag) ⊎ (0 < ticket.own.tag)

-- What the datagram brings, where each half that is new begins so. The peer is the one that was known, or one by whose offer the association may begin.
-- This side asks no peer that it did not ask before. It offers what it offered, or what a ticket says that is echoed; a fresh tag may take the place of
-- its tag (5.2.6). An INIT ACK that is due was due before, or its ticket has the offer of an INIT of the datagram, and the first TSN of this side. That
-- the peer has begun again stays noted. The limits of the machine stay, and those of what is sent, also where the sender begins anew.
pub record ArrivesAsOffered (datagram : List ℕ) (old new : Association) : Type 0 where
  pub arrives : ArrivesAs (IsBegunBy datagram old new) datagram (halves_of old) (halves_of new)
  pub restarted : old.machine.has_restarted ≡ true → new.machine.has_restarted ≡ true
  pub config : new.config ≡ old.config
  pub key : new.key ≡ old.key
  pub asking : is_asking new.machine.state ≡ true → is_asking old.machine.state ≡ true
  pub peer : (offer : Offer) → new.machine.peer ≡ Some offer
      → (old.machine.peer ≡ Some offer) ⊎ IsOffered datagram old offer
  pub own : IsOwnOffer datagram old new.machine.own
  pub owes : (ticket : Ticket) → OwesTicket new ticket
      → OwesTicket old ticket ⊎ IsOwedFor datagram old ticket
  pub machine : new.machine.limits ≡ old.machine.limits
  pub sending : StaysWithin old new

-- ## What stays

-- of a peer nothing new is known, and this side offers the same, by the same limits; no association stands that did not before
pub record KnowsNoMore (old new : Machine) : Type 0 where
  pub asking : is_asking new.state ≡ true → is_asking old.state ≡ true
  pub standing : is_standing new.state ≡ true → is_standing old.state ≡ true
  pub peer : (offer : Offer) → new.peer ≡ Some offer → old.peer ≡ Some offer
  pub own : new.own ≡ old.own
  pub restarted : new.has_restarted ≡ old.has_restarted
  pub limits : new.limits ≡ old.limits

-- the peer is the one that was known, or is forgotten; the limits of what is sent stay
pub record KeepsPeer (old new : Association) : Type 0 where
  pub config : new.config ≡ old.config
  pub key : new.key ≡ old.key
  pub machine : KnowsNoMore old.machine new.machine
  pub owes : OwesNoMore old new
  pub sending : StaysWithin old new

-- the same but for the tag of this side, which is fresh at most where this ERROR tells that the cookie is stale
pub record KeepsPeerButTag (c : ChunkPlace) (datagram : List ℕ) (old new : Association)
    : Type 0 where
  pub keeps : KeepsPeer old (record new {
    machine = record new.machine { own = old.machine.own };
  })
  pub own : (new.machine.own ≡ old.machine.own)
      ⊎ ((cause_in datagram c ≡ Some 3) × HasFreshTag old.machine.own new.machine.own)

-- ## Calls that no datagram brings

-- a new one: it has these, knows no peer, and no INIT ACK is due
pub record IsMadeOf (c : Config) (k : List ℕ) (tsn : ℕ) (new : Association) : Type 0 where
  pub config : new.config ≡ c
  pub key : new.key ≡ k
  pub own : new.machine.own.first_tsn ≡ tsn
  pub peer : new.machine.peer ≡ None
  pub owes : ticket_due new.due.alone ≡ None

-- `connect`: this side asks; what an association begins by stays, and so do the limits of what it sends
pub record BeginsToAsk (old new : Association) : Type 0 where
  pub config : new.config ≡ old.config
  pub key : new.key ≡ old.key
  pub machine : new.machine ≡ into CookieWait old.machine
  pub sending : StaysWithin old new

-- `set_mtu`: no more changes of what an association begins by than how many bytes a packet has
pub record IsKeptButMtu (old new : Association) : Type 0 where
  pub config : new.config ≡ record old.config { mtu = new.config.mtu }
  pub key : new.key ≡ old.key
  pub machine : new.machine ≡ old.machine
  pub due : new.due ≡ old.due
  pub sending : StaysWithin old new

-- ## From the state Closed

-- the offer is that of the ticket over which this side has sealed the cookie
pub record BeginsByTicket (key : List ℕ) (tag : ℕ) (cookie : List ℕ) (c : Config)
    (old new : Halves) : Type 0 where
  pub moment : ℕ
  pub made : IsSealedAt moment key tag cookie
  pub begins : Does (begins_by made.ticket.peer c) old new

-- so by the COOKIE-ECHO of a datagram; then calls for its chunks lead on
pub record BeginsByDatagram (datagram key : List ℕ) (c : Config) (old new : Halves)
    : Type 0 where
  pub place : ChunkPlace
  pub own : IsChunkOf datagram place
  pub typ : place.typ ≡ 10
  pub middle : Halves
  pub first : BeginsByTicket key (u32_at datagram 4) (cookie_in datagram place) c old middle
  pub came : Arrives datagram middle new
