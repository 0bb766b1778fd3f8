-- A SHUTDOWN that comes alone.
use Rattle.std.proofs.Common.{◌≡◌, ℕ, List, Option, None, Some, ap, sym, subst}
use Rattle.sctp_association.specs.Shutting.{ShutsAt}
use Rattle.sctp_association.specs.declared.outbound.Outbound.{Outbound}
use Rattle.sctp_handshake.specs.Endings.{on_shutdown, shutdown_row}
use Rattle.sctp_handshake.specs.declared.answer.Answer.{Answer}
use Rattle.sctp_handshake.specs.declared.answer.Told.{Told}
use Rattle.sctp_handshake.specs.declared.answer.Told.TheVariants.{ShutdownBegun}
use Rattle.sctp_handshake.specs.declared.machine.Machine.{Machine}
use Rattle.sctp_handshake.specs.declared.state.State.{State}
use Rattle.sctp_handshake.specs.declared.state.State.TheVariants.{Closed, CookieWait, CookieEchoed, Established}
use Rattle.sctp_handshake.specs.declared.state.State.TheVariants.{ShutdownPending, ShutdownSent, ShutdownReceived, ShutdownAckSent}

-- ## What it tells

-- nothing, or that the shutdown has begun
shutdown-told : (s : State) (m : Machine) (X : Option Told → Type 0) → X None → X (Some ShutdownBegun) → X (shutdown_row s m).answer.told
shutdown-told Closed m X none begun = none
shutdown-told CookieWait m X none begun = none
shutdown-told CookieEchoed m X none begun = none
shutdown-told Established m X none begun = begun
shutdown-told ShutdownPending m X none begun = begun
shutdown-told ShutdownSent m X none begun = none
shutdown-told ShutdownReceived m X none begun = none
shutdown-told ShutdownAckSent m X none begun = none

pub shutdown_still : (m : Machine) (a : Answer) (x y : Outbound) → a ≡ (on_shutdown m).answer → (a.told ≡ None → y ≡ x)
    → (a.told ≡ Some ShutdownBegun → y ≡ x) → y ≡ x
shutdown_still m a x y is none begun =
    let told : a.told ≡ (shutdown_row m.state m).answer.told = ap (λ (k : Answer). k.told) is in
    shutdown-told m.state m (λ t. a.told ≡ t → y ≡ x) none begun told

-- ## What it makes

-- what comes behind it leaves the sending half
pub shuts_still : (at : ℕ) (d : List ℕ) (now : ℕ) (a b e : Outbound) → e ≡ b → ShutsAt at d now a b → ShutsAt at d now a e
shuts_still at d now a b e same h = subst (λ (o : Outbound). ShutsAt at d now a o) (sym same) h
