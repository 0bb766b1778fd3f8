use Rattle.std.proofs.Common.{◌≡◌, ◌+◌, ◌*◌}
use Rattle.sctp_util.specs.Each.{each}
use Rattle.sctp_data.specs.SelectiveAck.{block_at}
use Rattle.sctp_datagram.proofs.in_place.read_gaps.Given as goal

abbrev pub invariant-loop-i : goal.invariant-loop-i
invariant-loop-i l = l.gaps.items ≡ each l.i (λ i. block_at l.value (12 + 4 * i))
