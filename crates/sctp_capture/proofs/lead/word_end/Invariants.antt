use Rattle.std.proofs.Common.{◌≡◌, ◌+◌, ◌-◌, length}
use Rattle.sctp_capture.specs.Lead as leads
use Rattle.sctp_capture.proofs.lead.word_end.Given as goal

abbrev pub invariant-loop-passed : goal.invariant-loop-passed
invariant-loop-passed l =
    leads.word_end (length l.line - l.from) l.line l.from ≡ leads.word_end (length l.line - l.from - l.passed) l.line (l.from + l.passed)
