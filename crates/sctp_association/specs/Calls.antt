-- Why calls of an application are refused, want of memory apart.
use Rattle.std.specs.Prelude.{ℕ, Bool, false, not, ◌&&◌, ◌||◌, nat_le, nat_lt, if◌then◌else◌, Option, Some, None}
use Rattle.sctp_association.specs.declared.association.Association.{Association}
use Rattle.sctp_association.specs.declared.fault.Fault.{Fault}
use Rattle.sctp_association.specs.declared.fault.Fault.TheVariants.{WrongState, NoSuchStream, Resetting}
use Rattle.sctp_association.specs.Still.{is_closed}
use Rattle.sctp_association.specs.Waiting.{waiting_fault}
use Rattle.sctp_handshake.specs.declared.machine.Agreed.{Agreed}
use Rattle.sctp_handshake.specs.Machines.{agreed}
use Rattle.sctp_handshake.specs.States.{accepts_writes}
use Rattle.sctp_reset.specs.Own.{is_asked}

-- before the association was begun what is written waits, and after its end nothing is taken
abbrev pub can_write : Association → Bool
can_write a = (is_closed a.machine.state && not a.is_over) || accepts_writes a.machine.state

-- the streams that both sides agreed on; before that those of this side
abbrev pub streams_of : ℕ → Option Agreed → ℕ
streams_of own None = own
streams_of own (Some g) = g.outbound_streams

abbrev pub use_fault : ℕ → Association → Option Fault
use_fault stream a =
    if not (can_write a) then Some WrongState
    else (if nat_le (streams_of a.config.outbound_streams (agreed a.machine)) stream
    then Some NoSuchStream else None)

abbrev pub or_else : Option Fault → Option Fault → Option Fault
or_else None f = f
or_else (Some e) f = Some e

abbrev pub reset_fault : ℕ → Association → Option Fault
reset_fault stream a = if is_asked stream a.requests then Some Resetting else None

-- both sides take resets, and the stream is one of those that they agreed on (RFC 6525 5.1.1)
abbrev pub takes_reset : ℕ → Option Agreed → Bool
takes_reset stream None = false
takes_reset stream (Some g) = g.reconfig && nat_lt stream g.outbound_streams

abbrev pub is_resettable : ℕ → Association → Bool
is_resettable stream a = takes_reset stream (agreed a.machine)

-- a message of so many bytes, in the order in which it is looked for
abbrev pub write_fault : ℕ → ℕ → Association → Option Fault
write_fault stream len a = or_else (use_fault stream a) (or_else (reset_fault stream a)
    (waiting_fault stream len a.outbound.most_waiting a.outbound.sender))
