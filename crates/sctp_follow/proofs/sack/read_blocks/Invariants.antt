use Rattle.std.proofs.Common.{◌≡◌, ◌+◌, ◌*◌}
use Rattle.sctp_util.specs.Each.{each}
use Rattle.sctp_data.specs.SelectiveAck.{block_at}
use Rattle.sctp_follow.proofs.sack.read_blocks.Given as goal

abbrev pub invariant-loop-i : goal.invariant-loop-i
invariant-loop-i l = l.blocks.items ≡ each l.i (λ i. block_at l.bytes (l.first + 4 * i))
