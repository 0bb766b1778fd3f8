-- What is sent again, and how often (RFC 9260 4, 5.1, 9.2).
use Rattle.std.specs.Prelude.{ℕ, ◌+◌, Bool, true, false, nat_lt, if◌then◌else◌}
use Rattle.sctp_handshake.specs.declared.answer.Answer.{Answer}
use Rattle.sctp_handshake.specs.declared.answer.Reply.{Reply}
use Rattle.sctp_handshake.specs.declared.answer.Reply.TheVariants as reply
use Rattle.sctp_handshake.specs.declared.machine.Machine.{Machine}
use Rattle.sctp_handshake.specs.declared.state.State.{State}
use Rattle.sctp_handshake.specs.declared.state.State.TheVariants.{Closed, CookieWait, CookieEchoed, Established}
use Rattle.sctp_handshake.specs.declared.state.State.TheVariants.{ShutdownPending, ShutdownSent, ShutdownReceived, ShutdownAckSent}
use Rattle.sctp_handshake.specs.Answers.{silent, replied}
use Rattle.sctp_handshake.specs.Machines.{Step, dropped, failed}

-- ## `timed_out`: the timer of the state ran out

abbrev pub sent_again : Reply → Machine → Step
sent_again r m =
    record { machine = record m { attempts = m.attempts + 1 }; answer = replied r }

-- it is sent again, at most so many times; then the association fails
abbrev pub again : ℕ → Reply → Machine → Step
again most r m = if nat_lt m.attempts most then sent_again r m else failed m

abbrev pub timed_out_row : State → Machine → Step
timed_out_row Closed m = dropped m
timed_out_row CookieWait m = again m.limits.max_init_retransmits reply.Init m
timed_out_row CookieEchoed m = again m.limits.max_init_retransmits reply.CookieEcho m
timed_out_row Established m = dropped m
timed_out_row ShutdownPending m = dropped m
timed_out_row ShutdownSent m = again m.limits.association_max_retrans reply.Shutdown m
timed_out_row ShutdownReceived m = dropped m
timed_out_row ShutdownAckSent m = again m.limits.association_max_retrans reply.ShutdownAck m

abbrev pub on_timed_out : Machine → Step
on_timed_out m = timed_out_row m.state m

-- ## `packet_arrived`: a packet of the peer came while a SHUTDOWN waits for its answer (RFC 9260 9.2)

abbrev pub shutdown_for : Bool → Answer
shutdown_for true = replied reply.Shutdown
shutdown_for false = silent

abbrev pub packet_arrived_row : State → Bool → Machine → Step
packet_arrived_row Closed has_data m = dropped m
packet_arrived_row CookieWait has_data m = dropped m
packet_arrived_row CookieEchoed has_data m = dropped m
packet_arrived_row Established has_data m = dropped m
packet_arrived_row ShutdownPending has_data m = dropped m
packet_arrived_row ShutdownSent has_data m =
    record { machine = record m { attempts = 0 }; answer = shutdown_for has_data }
packet_arrived_row ShutdownReceived has_data m = dropped m
packet_arrived_row ShutdownAckSent has_data m = dropped m

abbrev pub on_packet_arrived : Bool → Machine → Step
on_packet_arrived has_data m = packet_arrived_row m.state has_data m
