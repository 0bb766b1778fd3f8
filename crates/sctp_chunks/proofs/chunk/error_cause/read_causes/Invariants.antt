use Rattle.std.proofs.Common.{length}
use Rattle.sctp_util.specs.Walk.{Walks}
use Rattle.sctp_chunks.specs.ErrorCause.{ReadsCause, after_cause}
use Rattle.sctp_chunks.proofs.chunk.error_cause.read_causes.Given as goal

abbrev pub invariant-walk : goal.invariant-walk
invariant-walk l = Walks ReadsCause after_cause l.fn.raw l.causes.items l.rest

abbrev pub decreases-walk : goal.decreases-walk
decreases-walk l = length l.rest
