-- How an association ends (RFC 9260 9).
use Rattle.std.specs.Prelude.{true, false}
use Rattle.sctp_handshake.specs.declared.answer.AbortCause.TheVariants.{UserInitiatedAbort}
use Rattle.sctp_handshake.specs.declared.answer.Answer.{Answer}
use Rattle.sctp_handshake.specs.declared.answer.Reply.TheVariants as reply
use Rattle.sctp_handshake.specs.declared.answer.Told.TheVariants as told
use Rattle.sctp_handshake.specs.declared.machine.Machine.{Machine}
use Rattle.sctp_handshake.specs.declared.state.State.{State}
use Rattle.sctp_handshake.specs.declared.state.State.TheVariants.{Closed, CookieWait, CookieEchoed, Established}
use Rattle.sctp_handshake.specs.declared.state.State.TheVariants.{ShutdownPending, ShutdownSent, ShutdownReceived, ShutdownAckSent}
use Rattle.sctp_handshake.specs.Answers.{silent, replied, noticed, both}
use Rattle.sctp_handshake.specs.Machines.{Step, dropped, answered, into, closed}

abbrev pub ends : Answer → Machine → Step
ends a m = record { machine = closed m; answer = a }

abbrev pub enters : State → Answer → Machine → Step
enters s a m = record { machine = into s m; answer = a }

-- ## `shutdown_asked`, of the application (RFC 9260 9.2)

-- Before the association stands the RFC leaves it open: as in dcSCTP, nothing is sent where the peer is not known, and a shutdown begins else.
abbrev pub shutdown_asked_row : State → Machine → Step
shutdown_asked_row Closed m = dropped m
shutdown_asked_row CookieWait m = ends (noticed told.Closed) m
shutdown_asked_row CookieEchoed m = dropped m
shutdown_asked_row Established m = enters ShutdownPending silent m
shutdown_asked_row ShutdownPending m = dropped m
shutdown_asked_row ShutdownSent m = dropped m
shutdown_asked_row ShutdownReceived m = dropped m
shutdown_asked_row ShutdownAckSent m = dropped m

abbrev pub on_shutdown_asked : Machine → Step
on_shutdown_asked m = shutdown_asked_row m.state m

-- ## `drained`: nothing waits or is in flight (RFC 9260 9.2)

abbrev pub drained_row : State → Machine → Step
drained_row Closed m = dropped m
drained_row CookieWait m = dropped m
drained_row CookieEchoed m = dropped m
drained_row Established m = dropped m
drained_row ShutdownPending m = enters ShutdownSent (replied reply.Shutdown) m
drained_row ShutdownSent m = dropped m
drained_row ShutdownReceived m = enters ShutdownAckSent (replied reply.ShutdownAck) m
drained_row ShutdownAckSent m = dropped m

abbrev pub on_drained : Machine → Step
on_drained m = drained_row m.state m

-- ## `shutdown`, the chunk (RFC 9260 9.2)

-- In ShutdownSent both sides ask at once. In ShutdownAckSent the RFC leaves it open: as in usrsctp, the SHUTDOWN ACK is sent again.
abbrev pub shutdown_row : State → Machine → Step
shutdown_row Closed m = dropped m
shutdown_row CookieWait m = dropped m
shutdown_row CookieEchoed m = dropped m
shutdown_row Established m = enters ShutdownReceived (noticed told.ShutdownBegun) m
shutdown_row ShutdownPending m = enters ShutdownReceived (noticed told.ShutdownBegun) m
shutdown_row ShutdownSent m = enters ShutdownAckSent (replied reply.ShutdownAck) m
shutdown_row ShutdownReceived m = dropped m
shutdown_row ShutdownAckSent m = answered reply.ShutdownAck m

abbrev pub on_shutdown : Machine → Step
on_shutdown m = shutdown_row m.state m

-- ## `shutdown_ack` (RFC 9260 9.2)

-- Where no shutdown is under way that an association could end with, it is out of the blue (RFC 9260 8.4, 8.5.1 E). Where an association
-- stands, the RFC leaves it open: as in usrsctp, it is dropped.
abbrev pub shutdown_ack_row : State → Machine → Step
shutdown_ack_row Closed m = answered (reply.ShutdownComplete true) m
shutdown_ack_row CookieWait m = answered (reply.ShutdownComplete true) m
shutdown_ack_row CookieEchoed m = answered (reply.ShutdownComplete true) m
shutdown_ack_row Established m = dropped m
shutdown_ack_row ShutdownPending m = dropped m
shutdown_ack_row ShutdownSent m = ends (both (reply.ShutdownComplete false) told.Closed) m
shutdown_ack_row ShutdownReceived m = dropped m
shutdown_ack_row ShutdownAckSent m = ends (both (reply.ShutdownComplete false) told.Closed) m

abbrev pub on_shutdown_ack : Machine → Step
on_shutdown_ack m = shutdown_ack_row m.state m

-- ## `shutdown_complete` (RFC 9260 8.5.1 C, 9.2)

abbrev pub shutdown_complete_row : State → Machine → Step
shutdown_complete_row Closed m = dropped m
shutdown_complete_row CookieWait m = dropped m
shutdown_complete_row CookieEchoed m = dropped m
shutdown_complete_row Established m = dropped m
shutdown_complete_row ShutdownPending m = dropped m
shutdown_complete_row ShutdownSent m = dropped m
shutdown_complete_row ShutdownReceived m = dropped m
shutdown_complete_row ShutdownAckSent m = ends (noticed told.Closed) m

abbrev pub on_shutdown_complete : Machine → Step
on_shutdown_complete m = shutdown_complete_row m.state m

-- ## `abort`, the chunk, and `abort_asked`, of the application (RFC 9260 9.1)

abbrev pub abort_row : State → Machine → Step
abort_row Closed m = dropped m
abort_row CookieWait m = ends (noticed told.Failed) m
abort_row CookieEchoed m = ends (noticed told.Failed) m
abort_row Established m = ends (noticed told.Failed) m
abort_row ShutdownPending m = ends (noticed told.Failed) m
abort_row ShutdownSent m = ends (noticed told.Failed) m
abort_row ShutdownReceived m = ends (noticed told.Failed) m
abort_row ShutdownAckSent m = ends (noticed told.Failed) m

abbrev pub on_abort : Machine → Step
on_abort m = abort_row m.state m

-- where the peer's tag is not known, no ABORT can be sent
abbrev pub aborted : Answer
aborted = both (reply.Abort UserInitiatedAbort) told.Closed

abbrev pub abort_asked_row : State → Machine → Step
abort_asked_row Closed m = dropped m
abort_asked_row CookieWait m = ends (noticed told.Closed) m
abort_asked_row CookieEchoed m = ends aborted m
abort_asked_row Established m = ends aborted m
abort_asked_row ShutdownPending m = ends aborted m
abort_asked_row ShutdownSent m = ends aborted m
abort_asked_row ShutdownReceived m = ends aborted m
abort_asked_row ShutdownAckSent m = ends aborted m

abbrev pub on_abort_asked : Machine → Step
on_abort_asked m = abort_asked_row m.state m
