use Rattle.std.proofs.Common.{length}
use Rattle.sctp_util.specs.Walk.{Walks}
use Rattle.sctp_dissect.specs.Causes.{after_padded_cause, ShowsCause}
use Rattle.sctp_dissect.proofs.causes.dissect_causes.Given as goal

abbrev pub invariant-walk : goal.invariant-walk
invariant-walk l = Walks ShowsCause after_padded_cause l.fn.raw l.items.items l.rest

abbrev pub decreases-walk : goal.decreases-walk
decreases-walk l = length l.rest
