use Rattle.std.proofs.Common.{◌≡◌, ◌+◌, ◌*◌}
use Rattle.sctp_util.specs.Each.{each}
use Rattle.sctp_follow.specs.Interleave.{name_at}
use Rattle.sctp_follow.proofs.interleave.names_in.Given as goal

abbrev pub invariant-loop-i : goal.invariant-loop-i
invariant-loop-i l = l.names.items ≡ each l.i (λ i. name_at l.bytes (8 + 8 * i))
