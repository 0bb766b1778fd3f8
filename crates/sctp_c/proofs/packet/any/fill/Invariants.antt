use Rattle.std.proofs.Common.{◌≡◌, ◌++◌}
use Rattle.std.specs.Prelude.{take, drop, map}
use Rattle.sctp_c.specs.AnyChunks.{any_row}
use Rattle.sctp_c.proofs.packet.any.fill.Given as goal

abbrev pub invariant-loop-i : goal.invariant-loop-i
invariant-loop-i l = record {
  left : l.datagram.left ≡ drop l.i l.fn.datagram.left;
  rows : l.rows ≡ take l.i (map any_row l.fn.datagram.left) ++ drop l.i l.fn.rows;
}
