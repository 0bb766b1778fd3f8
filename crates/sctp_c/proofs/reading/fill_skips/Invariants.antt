use Rattle.std.proofs.Common.{◌≡◌, ◌++◌}
use Rattle.std.specs.Prelude.{map, take, drop}
use Rattle.sctp_c.specs.Answered.{skip_answered}
use Rattle.sctp_c.proofs.reading.fill_skips.Given as goal

abbrev pub invariant-loop-i : goal.invariant-loop-i
invariant-loop-i l = l.rows ≡ take l.i (map skip_answered l.streams) ++ drop l.i l.fn.rows
