use Rattle.std.proofs.Common.{◌≡◌, ◌+◌, ◌-◌, ◌≤◌, length}
use Rattle.sctp_capture.specs.Lead as leads
use Rattle.sctp_capture.proofs.lead.count_from.Given as goal

abbrev pub invariant-loop-passed : goal.invariant-loop-passed
invariant-loop-passed l = record {
  few : l.count ≤ l.passed;
  same : leads.count_from (length l.line - l.from) l.line l.from 0
      ≡ leads.count_from (length l.line - l.from - l.passed) l.line (l.from + l.passed) l.count;
}
