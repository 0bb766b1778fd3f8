use Rattle.std.proofs.Common.{◌≡◌, ◌-◌, ◌^◌, length, take, min}
use Rattle.sctp_chunks.specs.ErrorCause.{causes_encoding}
use Rattle.sctp_chunks.proofs.chunk.error_cause.causes_length.Given as goal

abbrev pub invariant-loop-cause : goal.invariant-loop-cause
invariant-loop-cause l = l.total ≡ min (length (causes_encoding (take l.cause-index l.causes))) (2 ^ 64 - 1)
