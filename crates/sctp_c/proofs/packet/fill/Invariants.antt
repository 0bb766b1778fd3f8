use Rattle.std.proofs.Common.{◌≡◌, ◌-◌, ◌++◌}
use Rattle.std.specs.Prelude.{take, drop}
use Rattle.sctp_c.specs.Head.{Lie, chunks_from}
use Rattle.sctp_c.proofs.packet.fill.Given as goal

abbrev pub invariant-loop-i : goal.invariant-loop-i
invariant-loop-i l = record {
  lie : Lie l.packet l.at (l.count - l.i);
  rows : l.rows ≡ take l.i (chunks_from l.packet 12 l.count) ++ drop l.i l.fn.rows;
  places : drop l.i (chunks_from l.packet 12 l.count) ≡ chunks_from l.packet l.at (l.count - l.i);
}
