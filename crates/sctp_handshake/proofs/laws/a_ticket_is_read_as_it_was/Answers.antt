use Rattle.sctp_handshake.proofs.TicketBytes.{again}
use Rattle.sctp_handshake.proofs.laws.a_ticket_is_read_as_it_was.Goals as goal

pub returns : goal.returns
returns c = again
