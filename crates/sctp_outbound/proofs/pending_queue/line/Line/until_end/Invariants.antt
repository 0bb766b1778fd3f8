use Rattle.std.proofs.Common.{◌-◌, ◌≤◌, length}
use Rattle.sctp_outbound.specs.pending_queue.Whole.{until_end}
use Rattle.sctp_outbound.proofs.pending_queue.line.Line.until_end.Given as goal

abbrev pub invariant-loop-low : goal.invariant-loop-low
invariant-loop-low l = record {
  begun : l.low ≤ until_end l.self-inside.chunks.items;
  ended : until_end l.self-inside.chunks.items ≤ l.high;
  most : l.high ≤ l.most;
  in_range : l.high ≤ length l.self-inside.chunks.items;
}

abbrev pub decreases-loop-low : goal.decreases-loop-low
decreases-loop-low l = l.high - l.low
