use Rattle.std.proofs.Common.{◌≡◌, ◌-◌, length}
use Rattle.sctp_capture.specs.Fields as fields
use Rattle.sctp_capture.proofs.fields.seconds_in.Given as goal

abbrev pub invariant-loop-at : goal.invariant-loop-at
invariant-loop-at l = fields.seconds_by (length l.line) l.line 0 0 ≡ fields.seconds_by (length l.line - l.at) l.line l.at l.value
