use Rattle.std.proofs.Common.{◌≡◌, ◌-◌, ◌≤◌, length}
use Rattle.sctp_capture.specs.Lead as leads
use Rattle.sctp_capture.proofs.lead.behind_text.Given as goal

abbrev pub invariant-loop-at : goal.invariant-loop-at
invariant-loop-at l = record {
  near : l.found ≤ l.at;
  same : leads.behind_text (length l.line) l.line 0 0 ≡ leads.behind_text (length l.line - l.at) l.line l.at l.found;
}
