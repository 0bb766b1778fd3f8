use Rattle.std.proofs.Common.{Ok, ap}
use Rattle.sctp_association.proofs.Going.{heartbeat_ack_read}
use Rattle.sctp_association.proofs.association.Association.take_heartbeat_ack.Goals as goal

-- a HEARTBEAT-ACK is read
pub returns-in_default-clause-expected : goal.returns-in_default-clause-expected
returns-in_default-clause-expected c typ =
    let read = heartbeat_ack_read _ _ c.requires.place typ in
    absurd (c.in_ok-ack.ensures.some read.0 read.1.0 read.1.1 (ap Ok c.in_default.is))
