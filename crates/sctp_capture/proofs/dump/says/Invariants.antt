use Rattle.std.proofs.Common.{◌≡◌, ◌-◌}
use Rattle.sctp_capture.specs.Dump as dumps
use Rattle.sctp_capture.proofs.dump.says.Given as goal

abbrev pub invariant-loop-behind : goal.invariant-loop-behind
invariant-loop-behind l = dumps.says l.digits l.line l.at l.number ≡ dumps.says (l.digits - l.behind) l.line l.at l.left
