-- What `new` makes, and when `set_mtu` is refused.
use Rattle.std.specs.Prelude.{◌≡◌, ℕ, false, not, ◌&&◌, nat_lt, if◌then◌else◌, Option, Some, None}
use Rattle.sctp_association.specs.Configs.{is_mtu, offer_by}
use Rattle.sctp_association.specs.Events.{NoneWaits}
use Rattle.sctp_association.specs.Lasting.{limits_by}
use Rattle.sctp_association.specs.Sending.{holds_nothing}
use Rattle.sctp_association.specs.declared.association.Association.{Association}
use Rattle.sctp_association.specs.declared.config.Config.{Config}
use Rattle.sctp_association.specs.declared.config.Secrets.{Secrets}
use Rattle.sctp_association.specs.declared.due.Due.{Due}
use Rattle.sctp_association.specs.declared.fault.Fault.{Fault}
use Rattle.sctp_association.specs.declared.fault.Fault.TheVariants.{BadConfig, WrongState}
use Rattle.sctp_handshake.specs.Machines.{new_machine}
use Rattle.sctp_reset.specs.Own.{start}

-- why `set_mtu` is refused: a lower MTU is taken only where nothing waits and nothing is in flight
abbrev pub mtu_fault : ℕ → Association → Option Fault
mtu_fault mtu a = if not (is_mtu mtu) then Some BadConfig
    else (if nat_lt mtu a.config.mtu && not (holds_nothing a.outbound.sender)
    then Some WrongState else None)

-- nothing is due
abbrev pub owes_nothing : Due
owes_nothing = record {
  alone = None;
  cookie_echo = false;
  cookie_ack = false;
  shutdown = false;
  shutdown_ack = false;
  heartbeat = None;
  report = None;
  unknown_params = None;
  farewell = None;
}

-- No association was begun: this side offers that, nothing is due or asked for, no event waits, and no timer runs.
pub record IsNew (c : Config) (s : Secrets) (a : Association) : Type 0 where
  pub machine : a.machine ≡ new_machine (offer_by c s) (limits_by c)
  pub due : a.due ≡ owes_nothing
  pub wants : a.wants_shutdown ≡ false
  pub events : NoneWaits a.events
  pub control : a.control.at ≡ None
  pub guard : a.guard.at ≡ None
  pub requests : a.requests ≡ start s.first_tsn
  pub peer_requests : a.peer_requests ≡ None
  pub heartbeat : a.heartbeat ≡ None
  pub cookie : a.cookie ≡ None
