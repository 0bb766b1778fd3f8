use Rattle.std.proofs.Common.{◌≡◌, ◌+◌, ◌-◌}
use Rattle.sctp_capture.specs.Dump as dumps
use Rattle.sctp_capture.proofs.dump.skip_at.Given as goal

abbrev pub invariant-loop-passed : goal.invariant-loop-passed
invariant-loop-passed l = dumps.skip_at 16 l.line l.at ≡ dumps.skip_at (16 - l.passed) l.line (l.at + l.passed)
