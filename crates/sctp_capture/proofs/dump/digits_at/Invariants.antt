use Rattle.std.proofs.Common.{◌≡◌, ◌+◌, ◌-◌}
use Rattle.sctp_capture.specs.Dump as dumps
use Rattle.sctp_capture.proofs.dump.digits_at.Given as goal

abbrev pub invariant-loop-count : goal.invariant-loop-count
invariant-loop-count l = dumps.digits_at 9 l.line l.at ≡ l.count + dumps.digits_at (9 - l.count) l.line (l.at + l.count)
