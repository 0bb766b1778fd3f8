use Rattle.std.proofs.Common.{◌≡◌, ◌+◌, ◌*◌, ◌++◌}
use Rattle.std.specs.Prelude.{take, drop}
use Rattle.sctp_util.specs.Each.{each}
use Rattle.sctp_util.specs.Field.{u16_at}
use Rattle.sctp_c.proofs.reconfig.fill_shorts.Given as goal

abbrev pub invariant-loop-i : goal.invariant-loop-i
invariant-loop-i l = l.rows ≡ take l.i (each l.count (λ i. u16_at l.bytes (l.at + 2 * i))) ++ drop l.i l.fn.rows
