use Rattle.std.proofs.Common.{◌≤◌}
use Rattle.sctp_follow.proofs.summarize.take_each.Given as goal

abbrev pub invariant-pieces : goal.invariant-pieces
invariant-pieces g l = record {
  limited : l.initial.past.counts.shown ≤ l.options.limit → l.past.counts.shown ≤ l.options.limit;
}
