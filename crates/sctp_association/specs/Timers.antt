-- The timers of the state: T1-init, T1-cookie or T2-shutdown, and T5-shutdown-guard (RFC 9260 4, 5.1, 9.2). Moments are nanoseconds.
use Rattle.std.specs.Prelude.{◌≡◌, ◌≢◌, ◌⊎◌, ℕ, Bool, true, false, Option, Some, None, is_some}
use Rattle.sctp_association.specs.declared.association.Association.{Association}
use Rattle.sctp_handshake.specs.States.{timer}
use Rattle.sctp_handshake.specs.declared.answer.Answer.{Answer}
use Rattle.sctp_handshake.specs.declared.answer.Reply.TheVariants.{Shutdown}
use Rattle.sctp_handshake.specs.declared.answer.Told.{Told}
use Rattle.sctp_handshake.specs.declared.answer.Told.TheVariants as told
use Rattle.sctp_handshake.specs.declared.state.State.{State}
use Rattle.sctp_handshake.specs.declared.state.State.TheVariants.{ShutdownSent}
use Rattle.sctp_handshake.specs.declared.state.Timer.{Timer}
use Rattle.sctp_path.specs.Timers.{later, started}

-- where the state has a timer, it expires an RTO from now on
abbrev pub expiry : Option Timer → (now rto : ℕ) → Option ℕ
expiry None now rto = None
expiry (Some t) now rto = Some (later now rto)

-- T5-shutdown-guard runs from the first SHUTDOWN of this side on
abbrev pub guard_in : State → (now after : ℕ) → Option ℕ → Option ℕ
guard_in ShutdownSent now after at = started now after at
guard_in _ now after at = at

-- The timer of the state begins anew, by the RTO as it is then; one of an earlier state stops. T5-shutdown-guard runs in ShutdownSent.
pub record StartsTimers (now : ℕ) (old new : Association) : Type 0 where
  pub control : new.control.at ≡ expiry (timer new.machine.state) now new.outbound.rto.rto
  pub guard : new.guard.at
      ≡ guard_in new.machine.state now new.config.shutdown_guard old.guard.at

pub record KeepsTimers (old new : Association) : Type 0 where
  pub control : new.control ≡ old.control
  pub guard : new.guard ≡ old.guard

pub record StopsTimers (new : Association) : Type 0 where
  pub control : new.control.at ≡ None
  pub guard : new.guard.at ≡ None

-- where another state is entered that has a timer they begin anew, and else they are left
pub record EntersTimers (now : ℕ) (old new : Association) : Type 0 where
  pub start : new.machine.state ≢ old.machine.state
      → is_some (timer new.machine.state) ≡ true → StartsTimers now old new
  pub keep : (new.machine.state ≡ old.machine.state) ⊎ (timer new.machine.state ≡ None)
      → KeepsTimers old new

-- the association ends, or begins anew
abbrev pub stops : Option Told → Bool
stops None = false
stops (Some told.Connected) = false
stops (Some told.Restarted) = true
stops (Some told.ShutdownBegun) = false
stops (Some told.Closed) = true
stops (Some told.Failed) = true

-- What an answer of the state machine makes of them, where `before` was the state. Where it tells that the association ends, or begins anew, they
-- stop. Else they begin where the state is another one, or a SHUTDOWN is due; and are left where neither is so.
pub record RunsTimers (a : Answer) (before : State) (now : ℕ) (old new : Association)
    : Type 0 where
  pub stop : stops a.told ≡ true → StopsTimers new
  pub start : stops a.told ≡ false
      → (new.machine.state ≢ before) ⊎ (a.reply ≡ Some Shutdown) → StartsTimers now old new
  pub keep : stops a.told ≡ false → new.machine.state ≡ before → a.reply ≢ Some Shutdown
      → KeepsTimers old new
