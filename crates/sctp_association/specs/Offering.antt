-- Which INIT and INIT ACK this side writes: with its first TSN, and with a cookie that it sealed over the ticket that is due (RFC 9260 5.1).
use Rattle.std.specs.Prelude.{◌≡◌, ⊤, ℕ, Bool, if◌then◌else◌, List, [], ◌∷◌, ◌++◌, Option, Some, None, is_some}
use Rattle.std.specs.List.{AllByRecursion}
use Rattle.sctp_association.specs.Halves.{HalvesAlike}
use Rattle.sctp_association.specs.Kept.{IsUnmoved}
use Rattle.sctp_association.specs.Packets.{Adds, IsOf, IsPacketOf}
use Rattle.sctp_association.specs.declared.association.Association.{Association}
use Rattle.sctp_association.specs.declared.due.Alone.{Alone}
use Rattle.sctp_association.specs.declared.due.AloneKind.{AloneKind}
use Rattle.sctp_association.specs.declared.due.AloneKind.TheVariants as alone
use Rattle.sctp_chunks.specs.Init.{Init}
use Rattle.sctp_chunks.specs.Wire.{Wire, init_chunk}
use Rattle.sctp_cookie.specs.Cookie.{sealed}
use Rattle.sctp_cookie.specs.Hmac.{hmac_sha256}
use Rattle.sctp_handshake.specs.Tickets.{ticket_bytes}
use Rattle.sctp_handshake.specs.declared.machine.Machine.{Machine}
use Rattle.sctp_handshake.specs.declared.offer.Offer.{Offer}
use Rattle.sctp_handshake.specs.declared.ticket.Ticket.{Ticket}
use Rattle.sctp_params.specs.Param.{Parameter, forward_tsn_supported, state_cookie, supported_extensions, unknown_param}

-- ## One chunk

-- Forward-TSN-Supported (RFC 3758 3.1), Supported Extensions with RE-CONFIG and FORWARD-TSN (RFC 5061 4.2.7), and for DTLS Zero Checksum Acceptable
-- (RFC 9653 4.1)
abbrev pub offered : (zero_checksum : Bool) → List Parameter
offered zero_checksum = forward_tsn_supported
    ∷ supported_extensions (record { 0 = 130 } ∷ record { 0 = 192 } ∷ [])
    ∷ (if zero_checksum then unknown_param 0x8001 (0 ∷ 0 ∷ 0 ∷ 1 ∷ []) ∷ [] else [])

-- with a cookie that goes first, and then what is told of the INIT
abbrev pub answered : Option (List ℕ) → (told : List Parameter) → List Parameter
answered None told = []
answered (Some cookie) told = state_cookie cookie ∷ told

-- an INIT, or with a cookie an INIT ACK: it says what the offer does
abbrev pub init_with : Offer → (cookie : Option (List ℕ)) → (told : List Parameter) → Init
init_with offer cookie told = record {
  is_ack = is_some cookie;
  initiate_tag = offer.tag;
  advertised_receiver_window_credit = offer.window;
  num_outbound_streams = offer.outbound_streams;
  num_inbound_streams = offer.inbound_streams;
  initial_tsn = offer.first_tsn;
  params = answered cookie told ++ offered offer.zero_checksum;
}

-- whatever that is told
abbrev pub IsInitWith : Offer → (cookie : Option (List ℕ)) → Init → Type 0
IsInitWith offer cookie i = (told : List Parameter) × (i ≡ init_with offer cookie told)

-- this side sealed the cookie over the ticket
abbrev pub IsCookieOf : (key : List ℕ) → Ticket → List ℕ → Type 0
IsCookieOf key ticket cookie =
    (moment : ℕ) × (cookie ≡ sealed (hmac_sha256 key) moment (ticket_bytes ticket))

-- an INIT of this side, or an INIT ACK with a cookie over the ticket: no other reply has one
abbrev pub IsInitOf : (key : List ℕ) → Machine → AloneKind → Init → Type 0
IsInitOf key m alone.Init i = IsInitWith m.own None i
IsInitOf key m (alone.InitAck ticket) i =
    (cookie : List ℕ) × IsCookieOf key ticket cookie × IsInitWith ticket.own (Some cookie) i
IsInitOf key m _ i = ⊥

-- so it is of a chunk, where that is an INIT or an INIT ACK
abbrev pub IsReplyOf : (key : List ℕ) → Machine → AloneKind → Wire → Type 0
IsReplyOf key m kind (init_chunk i) = IsInitOf key m kind i
IsReplyOf key m kind _ = ⊤

-- ## What is written

-- the chunks of a reply are put, and what the association begins by stays
pub record PutsReply (kind : AloneKind) (old new : Association) : Type 0 where
  pub halves : HalvesAlike old new
  pub chunks : List Wire
  pub added : Adds chunks old.draft.bytes new.draft.bytes
  pub own : AllByRecursion (IsOf [] []) chunks
  pub replies : AllByRecursion (IsReplyOf old.key old.machine kind) chunks
  pub kept : IsUnmoved old new

-- by the reply that is due: where none is, no INIT is
abbrev pub IsInitDue : (key : List ℕ) → Machine → Option Alone → Init → Type 0
IsInitDue key m None i = ⊥
IsInitDue key m (Some due) i = IsInitOf key m due.kind i

abbrev pub IsOffering : Association → Wire → Type 0
IsOffering a (init_chunk i) = IsInitDue a.key a.machine a.due.alone i
IsOffering a _ = ⊤

-- Each INIT of the datagram has the first TSN that this side offers; and each INIT ACK has that of the ticket that was due, and a cookie that this
-- side has sealed over that ticket.
abbrev pub OffersAsDue : Association → List ℕ → Type 0
OffersAsDue a datagram = IsPacketOf (IsOffering a) datagram
