use Rattle.std.proofs.Common.{Ok, ap}
use Rattle.sctp_association.proofs.Going.{heartbeat_read}
use Rattle.sctp_association.proofs.association.Association.take_heartbeat.Goals as goal

-- a HEARTBEAT is read
pub returns-in_default-clause-expected : goal.returns-in_default-clause-expected
returns-in_default-clause-expected c typ =
    let read = heartbeat_read _ _ c.requires.place typ in
    absurd (c.in_ok-heartbeat.ensures.some read.0 read.1.0 read.1.1 (ap Ok c.in_default.is))
