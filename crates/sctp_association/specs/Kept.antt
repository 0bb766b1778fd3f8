-- What of an association stays: what it begins by, and the INIT ACK that is due (RFC 9260 5.1).
use Rattle.std.specs.Prelude.{◌≡◌, ℕ, Bool, false, List, Option, Some, None, is_some}
use Rattle.sctp_association.specs.AcksDue.{acks_of}
use Rattle.sctp_association.specs.declared.association.Association.{Association}
use Rattle.sctp_association.specs.declared.due.Alone.{Alone}
use Rattle.sctp_association.specs.declared.due.AloneKind.{AloneKind}
use Rattle.sctp_association.specs.declared.due.AloneKind.TheVariants.{InitAck}
use Rattle.sctp_association.specs.declared.due.Due.{Due}
use Rattle.sctp_association.specs.Events.{brought_at}
use Rattle.sctp_association.specs.Entering.{usable_in}
use Rattle.sctp_association.specs.Lasting.{StaysWithin}
use Rattle.sctp_association.specs.declared.due.Report.{Report}
use Rattle.sctp_association.specs.declared.inbound.Inbound.{Inbound}
use Rattle.sctp_handshake.specs.declared.ticket.Ticket.{Ticket}

-- ## The INIT ACK that is due

-- the ticket that its cookie is to hold
abbrev pub ticket_in_kind : AloneKind → Option Ticket
ticket_in_kind (InitAck ticket) = Some ticket
ticket_in_kind _ = None

-- where an INIT ACK is due
abbrev pub ticket_due : Option Alone → Option Ticket
ticket_due None = None
ticket_due (Some alone) = ticket_in_kind alone.kind

abbrev pub OwesTicket : Association → Ticket → Type 0
OwesTicket a ticket = ticket_due a.due.alone ≡ Some ticket

-- no INIT ACK is due that was not due before
abbrev pub OwesNoMore : Association → Association → Type 0
OwesNoMore old new = (ticket : Ticket) → OwesTicket new ticket → OwesTicket old ticket

-- ## What stays

-- the machine, what an association begins by, and the limits of what it sends
pub record IsKept (old new : Association) : Type 0 where
  pub config : new.config ≡ old.config
  pub key : new.key ≡ old.key
  pub machine : new.machine ≡ old.machine
  pub owes : OwesNoMore old new
  pub sending : StaysWithin old new

-- Beside both halves and the requests of both sides: what is due, when a SACK is, the timers of the state, whether it is over, and whether a shutdown is
-- asked for. Of events those stay that no RE-CONFIG brings.
pub record RestStays (old new : Association) : Type 0 where
  pub due : new.due ≡ old.due
  pub control : new.control ≡ old.control
  pub guard : new.guard ≡ old.guard
  pub over : new.is_over ≡ old.is_over
  pub wants : new.wants_shutdown ≡ old.wants_shutdown
  pub acks : acks_of new.inbound ≡ acks_of old.inbound
  pub events : new.events ≡ brought_at 130 old.events new.events

-- DATA came that no SACK told of: one waits, or is due at once (6.2)
abbrev pub sack_waits : Option Inbound → Bool
sack_waits None = false
sack_waits (Some i) = is_some i.delay.due

-- the stream that an ERROR is to tell of, since DATA came on it, and there is none such (6.5)
abbrev pub unknown_in : Option Inbound → Option ℕ
unknown_in None = None
unknown_in (Some i) = i.unknown_stream

-- of these replies none is due that was not
pub record OwesLess (old new : Due) : Type 0 where
  pub cookie_echo : old.cookie_echo ≡ false → new.cookie_echo ≡ false
  pub cookie_ack : old.cookie_ack ≡ false → new.cookie_ack ≡ false
  pub shutdown : old.shutdown ≡ false → new.shutdown ≡ false
  pub shutdown_ack : old.shutdown_ack ≡ false → new.shutdown_ack ≡ false
  pub heartbeat : (info : List ℕ) → new.heartbeat ≡ Some info → old.heartbeat ≡ Some info
  pub report : (r : Report) → new.report ≡ Some r → old.report ≡ Some r

-- And the same reply is due, and the same cookie is kept. No SACK waits, and no stream is to be told of, that was not before. What waits to be told
-- stays, the association is over if it was, no failure is counted or forgotten, and the RTO stays. So do the timers of the state, and whether a
-- shutdown is asked for. The peer may use the same streams.
pub record IsUnmoved (old new : Association) : Type 0 where
  pub config : new.config ≡ old.config
  pub key : new.key ≡ old.key
  pub machine : new.machine ≡ old.machine
  pub alone : new.due.alone ≡ old.due.alone
  pub cookie : new.cookie ≡ old.cookie
  pub events : new.events ≡ old.events
  pub over : new.is_over ≡ old.is_over
  pub wants : new.wants_shutdown ≡ old.wants_shutdown
  pub control : new.control ≡ old.control
  pub guard : new.guard ≡ old.guard
  pub failures : new.outbound.failures ≡ old.outbound.failures
  pub rto : new.outbound.rto ≡ old.outbound.rto
  pub usable : (s : ℕ) → usable_in s new.inbound ≡ usable_in s old.inbound
  pub due : OwesLess old.due new.due
  pub sack : sack_waits old.inbound ≡ false → sack_waits new.inbound ≡ false
  pub unknown : (s : ℕ) → unknown_in new.inbound ≡ Some s → unknown_in old.inbound ≡ Some s
