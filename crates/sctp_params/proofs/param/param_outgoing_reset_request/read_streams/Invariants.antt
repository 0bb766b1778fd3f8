use Rattle.std.proofs.Common.{◌≡◌, ◌+◌, ◌*◌}
use Rattle.sctp_util.specs.Field.{u16_at}
use Rattle.sctp_util.specs.Each.{each}
use Rattle.sctp_params.proofs.param.param_outgoing_reset_request.read_streams.Given as goal

abbrev pub invariant-loop-i : goal.invariant-loop-i
invariant-loop-i l = l.streams.items ≡ each l.i (λ i. u16_at l.value (l.at + 2 * i))
