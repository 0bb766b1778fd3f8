use Rattle.sctp_reassembly.proofs.lemmas.reassembly_queue.SerialPlaces.{flag_is_off}
use Rattle.sctp_reassembly.proofs.reassembly_queue.pool.is_searched.Goals as goal

pub returns-then-known-clause-flag : goal.returns-then-known-clause-flag
returns-then-known-clause-flag c = c.requires c.if-known.true

pub returns-then-not-is_serial-clause-flag : goal.returns-then-not-is_serial-clause-flag
returns-then-not-is_serial-clause-flag c serial none = flag_is_off _ c.args.left.now.chunks c.if-not-is_serial.true c.is_serial.ensures serial

pub returns-in-Some-clause-flag : goal.returns-in-Some-clause-flag
returns-in-Some-clause-flag c serial none = none _ _ c.in-Some.ensures.found.run

pub returns-in-None-clause-flag : goal.returns-in-None-clause-flag
returns-in-None-clause-flag c = c.in-None.ensures.none
