use Rattle.std.proofs.Common.{arith}
use Rattle.sctp_handshake.proofs.TicketBytes.{written}
use Rattle.sctp_handshake.proofs.laws.a_ticket_is_read_from_its_bytes.Goals as goal

pub returns : goal.returns
returns c = written c.args.bytes.now (λ i. omega (arith, c.type_inv.bytes i))
