-- What is counted until an association is over (RFC 9260 4, 8.1, 9.2).
use Rattle.std.specs.Prelude.{◌≡◌, ◌≤◌, false, true, Option, Some, None, is_some}
use Rattle.sctp_association.specs.declared.association.Association.{Association}
use Rattle.sctp_association.specs.declared.due.Alone.{Alone}
use Rattle.sctp_association.specs.declared.due.AloneKind.{AloneKind}
use Rattle.sctp_handshake.specs.declared.machine.Machine.{Machine}
use Rattle.sctp_handshake.specs.declared.offer.Offer.{Offer}
use Rattle.sctp_handshake.specs.declared.state.State.TheVariants.{ShutdownSent}
use Rattle.sctp_handshake.specs.Timeouts.{on_timed_out}
use Rattle.sctp_path.specs.declared.failures.Failures.{Failures}
use Rattle.sctp_path.specs.Timers.{is_passed, one_more}

-- the packet by which an association ends, to the peer, where one is known (RFC 9260 9.1)
abbrev pub farewell_to : AloneKind → Option Offer → Option Alone
farewell_to kind None = None
farewell_to kind (Some peer) = Some (record { tag = peer.tag; kind = kind })

-- one failure more at least is counted, and the limit is not passed
pub record IsCounted (old new : Failures) : Type 0 where
  pub more : (one_more old).count ≤ new.count
  pub within : is_passed new ≡ false
  pub limit : new.most ≡ old.most

-- what waits for its answer is sent again, and that is counted
pub record IsTimedOut (old new : Machine) : Type 0 where
  pub machine : new ≡ (on_timed_out old).machine
  pub goes_on : is_some (on_timed_out old).answer.told ≡ false

-- while the SHUTDOWN of this side is not answered T5-shutdown-guard runs
abbrev pub IsGuarded : Association → Type 0
IsGuarded a = a.machine.state ≡ ShutdownSent → is_some a.guard.at ≡ true
