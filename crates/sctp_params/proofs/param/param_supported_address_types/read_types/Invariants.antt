use Rattle.std.proofs.Common.{◌≡◌, ◌*◌}
use Rattle.sctp_util.specs.Field.{u16_at}
use Rattle.sctp_util.specs.Each.{each}
use Rattle.sctp_params.specs.ParamType.{type_from}
use Rattle.sctp_params.proofs.param.param_supported_address_types.read_types.Given as goal

abbrev pub invariant-loop-i : goal.invariant-loop-i
invariant-loop-i l = l.types.items ≡ each l.i (λ i. type_from (u16_at l.value (2 * i)))
