-- What inputs do one after another.
use Rattle.std.specs.Prelude.{ℕ, Bool, List, [], ◌∷◌}
use Rattle.sctp_handshake.specs.declared.answer.Answer.{Answer}
use Rattle.sctp_handshake.specs.declared.machine.Machine.{Machine}
use Rattle.sctp_handshake.specs.declared.offer.Offer.{Offer}
use Rattle.sctp_handshake.specs.declared.state.State.{State}
use Rattle.sctp_handshake.specs.declared.state.State.TheVariants.{Closed, CookieWait, CookieEchoed, Established}
use Rattle.sctp_handshake.specs.declared.state.State.TheVariants.{ShutdownPending, ShutdownSent, ShutdownReceived, ShutdownAckSent}
use Rattle.sctp_handshake.specs.declared.ticket.Ticket.{Ticket}
use Rattle.sctp_handshake.specs.Beginnings.{on_connect, on_init_ack}
use Rattle.sctp_handshake.specs.Cookies.{on_cookie_echo, on_cookie_ack, on_stale_cookie}
use Rattle.sctp_handshake.specs.Endings.{on_shutdown_asked, on_drained, on_shutdown, on_shutdown_ack, on_shutdown_complete}
use Rattle.sctp_handshake.specs.Endings.{on_abort, on_abort_asked}
use Rattle.sctp_handshake.specs.Machines.{Step, dropped}
use Rattle.sctp_handshake.specs.Timeouts.{on_timed_out, on_packet_arrived}

-- each input that may change a machine; an INIT changes none
pub data Input : Type 0 where
  connect : Input
  init_ack : Offer → Input
  cookie_echo : Ticket → Bool → Input
  cookie_ack : Input
  stale_cookie : (fresh : ℕ) → Input
  shutdown_asked : Input
  drained : Input
  shutdown : Input
  shutdown_ack : Input
  shutdown_complete : Input
  abort : Input
  abort_asked : Input
  timed_out : Input
  packet_arrived : Bool → Input

-- `connect` is refused in each state but one
abbrev pub connect_row : State → Machine → Step
connect_row Closed m = on_connect m
connect_row CookieWait m = dropped m
connect_row CookieEchoed m = dropped m
connect_row Established m = dropped m
connect_row ShutdownPending m = dropped m
connect_row ShutdownSent m = dropped m
connect_row ShutdownReceived m = dropped m
connect_row ShutdownAckSent m = dropped m

abbrev pub on : Input → Machine → Step
on connect m = connect_row m.state m
on (init_ack peer) m = on_init_ack peer m
on (cookie_echo ticket stale) m = on_cookie_echo ticket stale m
on cookie_ack m = on_cookie_ack m
on (stale_cookie fresh) m = on_stale_cookie fresh m
on shutdown_asked m = on_shutdown_asked m
on drained m = on_drained m
on shutdown m = on_shutdown m
on shutdown_ack m = on_shutdown_ack m
on shutdown_complete m = on_shutdown_complete m
on abort m = on_abort m
on abort_asked m = on_abort_asked m
on timed_out m = on_timed_out m
on (packet_arrived has_data) m = on_packet_arrived has_data m

-- the machine after some inputs
abbrev pub after : List Input → Machine → Machine
after [] m = m
after (i ∷ is) m = after is (on i m).machine

-- what they were answered
abbrev pub answers_to : List Input → Machine → List Answer
answers_to [] m = []
answers_to (i ∷ is) m = (on i m).answer ∷ answers_to is (on i m).machine
