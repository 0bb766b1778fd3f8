-- What an INIT, an INIT ACK and a COOKIE-ECHO make of an association (RFC 9260 5.1, 5.2). Moments are nanoseconds.
use Rattle.std.specs.Prelude.{◌≡◌, ◌≢◌, ◌⊎◌, ⊤, ℕ, ◌+◌, ◌-◌, Bool, true, false, nat_lt, List, slice_range, Option, Some, None, Ok, Err, is_some}
use Rattle.sctp_association.specs.AcksDue.{AcksTold, acks_of}
use Rattle.sctp_association.specs.Cookies.{IsSealedAt}
use Rattle.sctp_association.specs.Fresh.{fresh_tag}
use Rattle.sctp_association.specs.Reports.{EndsBegun, host_name_told, params_told, report_with, to_tag, value_in}
use Rattle.sctp_association.specs.Rows.{FollowsStep, owed_by}
use Rattle.sctp_association.specs.declared.association.Association.{Association}
use Rattle.sctp_association.specs.declared.association.arrivals.Step as arrivals
use Rattle.sctp_association.specs.declared.association.arrivals.Step.TheVariants as chunk
use Rattle.sctp_association.specs.declared.due.AloneKind.{AloneKind}
use Rattle.sctp_association.specs.declared.due.AloneKind.TheVariants as alone
use Rattle.sctp_association.specs.declared.due.Due.{Due}
use Rattle.sctp_datagram.specs.declared.datagram.ChunkPlace.{ChunkPlace}
use Rattle.sctp_datagram.specs.declared.params.ParamPlace.{ParamPlace}
use Rattle.sctp_handshake.specs.Beginnings.{init_reply, on_init_ack}
use Rattle.sctp_handshake.specs.Cookies.{on_cookie_echo}
use Rattle.sctp_handshake.specs.InitValues.{host_name_of, init_in}
use Rattle.sctp_handshake.specs.InitValues as values
use Rattle.sctp_handshake.specs.Machines.{Step}
use Rattle.sctp_handshake.specs.declared.answer.Reply.{Reply}
use Rattle.sctp_handshake.specs.declared.answer.Reply.TheVariants as reply
use Rattle.sctp_handshake.specs.declared.init_value.InitFault.TheVariants.{MissingCookie}
use Rattle.sctp_handshake.specs.declared.init_value.Said.{Said}
use Rattle.sctp_handshake.specs.declared.offer.Offer.{Offer}
use Rattle.sctp_handshake.specs.declared.state.State.TheVariants.{CookieWait}
use Rattle.sctp_handshake.specs.declared.ticket.Ticket.{Ticket}
use Rattle.sctp_util.specs.Field.{u32_at}

-- ## A COOKIE-ECHO

-- its cookie was made longer than its life ago (5.1.5)
abbrev pub is_old : (now life moment : ℕ) → Bool
is_old now life moment = nat_lt life (now - moment)

-- the step of the ticket in a cookie that was made at a moment (5.1 D, 5.2.4)
abbrev pub echo_step : (now moment : ℕ) → Ticket → Association → Step
echo_step now moment ticket a =
    on_cookie_echo ticket (is_old now a.config.cookie_life moment) a.machine

-- This side has sealed the cookie under the key, with the tag of the packet, and the machine takes the step. When a SACK is due stays, unless the
-- association begins.
pub record Echoes (tag : ℕ) (cookie : List ℕ) (now : ℕ) (step : Step) (old new : Association)
    : Type 0 where
  pub moment : ℕ
  pub made : IsSealedAt moment old.key tag cookie
  pub is : step ≡ echo_step now moment made.ticket old
  pub follows : FollowsStep step made.ticket.peer.tag now old new
  pub acks : AcksTold step.answer.told old.config.sack_delay
      (acks_of old.inbound) (acks_of new.inbound)

-- the answer is that the cookie is stale: nothing more of the packet is looked at (5.1.5)
abbrev pub is_stale_reply : Option Reply → Bool
is_stale_reply None = false
is_stale_reply (Some reply.StaleCookie) = true
is_stale_reply (Some _) = false

-- so it is of one that is taken: the datagram goes on, unless the answer is that the cookie is stale
abbrev pub EchoesOn : (tag : ℕ) → (cookie : List ℕ) → (now : ℕ) → arrivals.Step
    → (old new : Association) → Type 0
EchoesOn tag cookie now chunk.Next old new = (step : Step)
    × (is_stale_reply step.answer.reply ≡ false) × Echoes tag cookie now step old new
EchoesOn tag cookie now chunk.Stop old new = (step : Step)
    × (is_stale_reply step.answer.reply ≡ true) × Echoes tag cookie now step old new
EchoesOn tag cookie now chunk.Cut old new = ⊥
EchoesOn tag cookie now (chunk.Refused r) old new = ⊤

-- ## An INIT ACK

-- It makes this offer: the machine takes the step, and the cookie is kept, to be echoed (5.1 C). Its sender is told of parameters (3.2.2). When a SACK is
-- due stays.
pub record TakesInitAck (c : ChunkPlace) (datagram : List ℕ) (now : ℕ) (old new : Association)
    : Type 0 where
  pub waits : old.machine.state ≡ CookieWait
  pub plain : host_name_of (value_in datagram c) ≡ None
  pub offer : Offer
  pub place : ParamPlace
  pub reads : values.cookie_in (init_in (value_in datagram c)) ≡ Ok (offer, place)
  pub follows : FollowsStep (on_init_ack offer old.machine) offer.tag now old new
  pub acks : AcksTold (on_init_ack offer old.machine).answer.told old.config.sack_delay
      (acks_of old.inbound) (acks_of new.inbound)
  pub cookie : (on_init_ack offer old.machine).answer.told ≡ None
      → new.cookie ≡ Some (slice_range (value_in datagram c) place.at (place.at + place.length))
  pub told : new.due.report
      ≡ report_with (params_told old.config.mtu (value_in datagram c)) old.due.report

-- it has a Host Name Address, or is read and has no cookie; and its sender has a tag (5.1, 5.1.2)
pub record BringsEnd (c : ChunkPlace) (datagram : List ℕ) : Type 0 where
  pub why : (is_some (host_name_of (value_in datagram c)) ≡ true)
      ⊎ (values.cookie_in (init_in (value_in datagram c)) ≡ Err MissingCookie)
  pub tagged : u32_at (value_in datagram c) 0 ≢ 0

-- which ABORT answers it, and what that tells: the Host Name Address, where it has one
abbrev pub end_kind : Option ParamPlace → AloneKind
end_kind None = alone.NoCookie
end_kind (Some p) = alone.HostName

abbrev pub end_told : (value : List ℕ) → (mtu : ℕ) → Option ParamPlace → Option (List ℕ)
end_told value mtu None = None
end_told value mtu (Some p) = host_name_told value p mtu

-- by that ABORT, with its tag, what was begun ends
pub record EndsAsked (c : ChunkPlace) (datagram : List ℕ) (old new : Association) : Type 0 where
  pub waits : old.machine.state ≡ CookieWait
  pub brings : BringsEnd c datagram
  pub ends : EndsBegun (end_kind (host_name_of (value_in datagram c)))
      (end_told (value_in datagram c) old.config.mtu (host_name_of (value_in datagram c)))
      (u32_at (value_in datagram c) 0) old new

-- so it is of one that is taken
abbrev pub InitAckOn : ChunkPlace → List ℕ → (now : ℕ) → arrivals.Step
    → (old new : Association) → Type 0
InitAckOn c datagram now chunk.Next old new = TakesInitAck c datagram now old new
InitAckOn c datagram now chunk.Stop old new = EndsAsked c datagram old new
InitAckOn c datagram now chunk.Cut old new = ⊥
InitAckOn c datagram now (chunk.Refused r) old new = ⊤

-- ## An INIT

-- what is due once an INIT is answered, to its tag
abbrev pub owed_to_init : Option Reply → (tag : ℕ) → Due → Due
owed_to_init (Some (reply.InitAck ticket)) tag d =
    record d { alone = Some (to_tag (alone.InitAck ticket) tag) }
owed_to_init r tag d = owed_by r tag d

-- It says this, and the reply of the row is due: an INIT ACK, or an ABORT to an offer that cannot stand, or a SHUTDOWN-ACK (5.1 B, 5.2.1, 5.2.2, 9.2).
-- Of which parameters an INIT ACK tells is kept (3.2.2).
pub record AnswersOffer (value : List ℕ) (now : ℕ) (old new : Association) : Type 0 where
  pub said : Said
  pub reads : init_in value ≡ Ok said
  pub due : new.due ≡ record (
      owed_to_init (init_reply said.offer (fresh_tag old.key now said.offer) old.machine)
      said.offer.tag old.due
      ) { unknown_params = params_told old.config.mtu value }

-- it has a Host Name Address: an ABORT is due, to its tag, which tells that, where it fits into a packet (5.1.2)
abbrev pub RefusesHost : (value : List ℕ) → ParamPlace → (old new : Association) → Type 0
RefusesHost value p old new = new.due ≡ record old.due {
  alone = Some (to_tag alone.HostName (u32_at value 0));
  unknown_params = host_name_told value p old.config.mtu;
}

-- so it is, by whether it has one
abbrev pub OffersBy : Option ParamPlace → (value : List ℕ) → (now : ℕ) → (old new : Association)
    → Type 0
OffersBy None value now old new = AnswersOffer value now old new
OffersBy (Some p) value now old new = RefusesHost value p old new

abbrev pub OffersTo : (value : List ℕ) → (now : ℕ) → (old new : Association) → Type 0
OffersTo value now old new = OffersBy (host_name_of value) value now old new
