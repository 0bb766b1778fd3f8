use Rattle.std.proofs.Common.{◌≡◌, ◌+◌, ◌-◌, ◌≤◌, length}
use Rattle.sctp_show.specs.Rules.{causes_from}
use Rattle.sctp_show.proofs.rules.are_causes.Given as goal

abbrev pub invariant-loop-passed : goal.invariant-loop-passed
invariant-loop-passed l = record {
  within : l.at ≤ length l.value + 3;
  same : causes_from (length l.value) l.value 0 ≡ causes_from (length l.value - l._passed) l.value l.at;
}
