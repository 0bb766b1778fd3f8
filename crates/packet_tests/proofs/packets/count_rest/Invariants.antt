use Rattle.std.proofs.Common.{◌+◌, ◌≤◌, length}
use Rattle.packet_tests.specs.Passing.{HasRead}
use Rattle.packet_tests.proofs.packets.count_rest.Given as goal

abbrev pub invariant-walk : goal.invariant-walk
invariant-walk l = record {
  read : HasRead l.initial.reader l.reader l.count;
  short : l.count + length l.reader ≤ length l.initial.reader;
}

abbrev pub decreases-walk : goal.decreases-walk
decreases-walk l = length l.reader
