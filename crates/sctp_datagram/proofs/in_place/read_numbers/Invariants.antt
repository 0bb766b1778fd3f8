use Rattle.std.proofs.Common.{◌≡◌, ◌+◌, ◌*◌}
use Rattle.sctp_util.specs.Each.{each}
use Rattle.sctp_util.specs.Field.{u32_at}
use Rattle.sctp_datagram.proofs.in_place.read_numbers.Given as goal

abbrev pub invariant-loop-i : goal.invariant-loop-i
invariant-loop-i l = l.numbers.items ≡ each l.i (λ i. u32_at l.bytes (l.at + 4 * i))
