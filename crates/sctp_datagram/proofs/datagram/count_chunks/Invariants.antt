use Rattle.std.proofs.Common.{◌≤◌, ◌-◌, length}
use Rattle.sctp_datagram.proofs.Walk.{PassedTo}
use Rattle.sctp_datagram.proofs.datagram.count_chunks.Given as goal

abbrev pub invariant-walk : goal.invariant-walk
invariant-walk l = record {
  counted : PassedTo l.raw l.at l.count;
  within : l.at ≤ length l.raw;
  few : l.count ≤ l.at;
}

abbrev pub decreases-walk : goal.decreases-walk
decreases-walk l = length l.raw - l.at
