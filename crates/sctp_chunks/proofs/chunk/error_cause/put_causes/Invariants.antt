use Rattle.std.proofs.Common.{◌≡◌, ◌+◌, ◌++◌, length, take}
use Rattle.std.specs.List.{AllByRecursion}
use Rattle.sctp_chunks.specs.ErrorCause.{causes_encoding}
use Rattle.sctp_chunks.specs.Fits.{FitsCause}
use Rattle.sctp_chunks.proofs.chunk.error_cause.put_causes.Given as goal

abbrev pub invariant-loop-cause : goal.invariant-loop-cause
invariant-loop-cause l = record {
  items : l.buf.items ≡ l.fn.buf.items ++ causes_encoding (take l.cause-index l.causes);
  fits : AllByRecursion FitsCause (take l.cause-index l.causes);
  spare : l.buf.spare + length (causes_encoding (take l.cause-index l.causes)) ≡ l.fn.buf.spare;
}
