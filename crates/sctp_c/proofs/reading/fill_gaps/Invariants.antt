use Rattle.std.proofs.Common.{◌≡◌, ◌+◌, ◌*◌, ◌++◌}
use Rattle.std.specs.Prelude.{map, take, drop}
use Rattle.sctp_util.specs.Each.{each}
use Rattle.sctp_data.specs.SelectiveAck.{block_at}
use Rattle.sctp_c.specs.Answered.{gap_answered}
use Rattle.sctp_c.proofs.reading.fill_gaps.Given as goal

abbrev pub invariant-loop-i : goal.invariant-loop-i
invariant-loop-i l = l.rows ≡ take l.i (map gap_answered (each l.count (λ i. block_at l.value (12 + 4 * i)))) ++ drop l.i l.fn.rows
