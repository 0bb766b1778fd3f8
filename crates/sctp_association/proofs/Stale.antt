-- What is answered by a stale cookie changed nothing.
use Rattle.std.proofs.Common.{◌≡◌, Bool, Some, true, false, refl, ap}
use Rattle.std.proofs.lemmas.Bool.{false≢true}
use Rattle.sctp_association.specs.Openings.{is_stale_reply}
use Rattle.sctp_handshake.specs.declared.answer.Reply.TheVariants as reply
use Rattle.sctp_handshake.specs.declared.machine.cookies.CookieRow.{CookieRow}
use Rattle.sctp_handshake.specs.declared.machine.cookies.CookieRow.TheVariants.{First, Restart, Collision, Late, Repeat, Unlisted}
use Rattle.sctp_handshake.specs.declared.machine.Machine.{Machine}
use Rattle.sctp_handshake.specs.declared.state.State.{State}
use Rattle.sctp_handshake.specs.declared.state.State.TheVariants.{CookieEchoed}
use Rattle.sctp_handshake.specs.declared.state.State.TheVariants.{ShutdownAckSent}
use Rattle.sctp_handshake.specs.declared.ticket.Ticket.{Ticket}
use Rattle.sctp_handshake.specs.Cookies.{row_of, renewal_row, repeat_row, unless_stale, cookie_step, on_cookie_echo}
use Rattle.sctp_handshake.specs.Machines.{Step}

-- a step that answers so leaves the machine
abbrev Keeps : Machine → Step → Type 0
Keeps m s = is_stale_reply s.answer.reply ≡ true → s.machine ≡ m

unless : (stale : Bool) (m : Machine) (s : Step) → Keeps m s → Keeps m (unless_stale stale m s)
unless true m s h = λ e. refl
unless false m s h = h

renewal : (s : State) (t : Ticket) (m : Machine) → Keeps m (renewal_row s t m)
renewal ShutdownAckSent t m = λ e. refl
renewal _ t m = λ e. absurd (false≢true e)

repeated : (s : State) (m : Machine) → Keeps m (repeat_row s m)
repeated CookieEchoed m = λ e. absurd (false≢true e)
repeated _ m = λ e. refl

row : (r : CookieRow) (t : Ticket) (stale : Bool) (m : Machine) → Keeps m (cookie_step r t stale m)
row First t stale m = unless stale m _ (renewal m.state t m)
row Restart t stale m = unless stale m _ (renewal m.state t m)
row Collision t stale m = unless stale m _ (renewal m.state t m)
row Late t stale m = unless stale m _ (λ e. refl)
row Repeat t stale m = repeated m.state m
row Unlisted t stale m = unless stale m _ (λ e. refl)

pub stale_keeps : (t : Ticket) (stale : Bool) (m : Machine)
    → (on_cookie_echo t stale m).answer.reply ≡ Some reply.StaleCookie → (on_cookie_echo t stale m).machine ≡ m
stale_keeps t stale m e = row (row_of t m) t stale m (ap is_stale_reply e)
