use Rattle.std.proofs.Common.{◌≡◌, ℕ, ◌*◌, ◌<◌}
use Rattle.sctp_util.specs.Field.{u16_at}
use Rattle.sctp_util.specs.Each.{each}
use Rattle.sctp_params.specs.HmacAlgorithm.{algorithm_from, IsRequestable}
use Rattle.sctp_params.proofs.param.param_requested_hmac_algorithm.read_algorithms.Given as goal

abbrev pub invariant-loop-i : goal.invariant-loop-i
invariant-loop-i l = record {
  requestable : (k : ℕ) → k < l.i → IsRequestable (u16_at l.value (2 * k));
  algorithms : l.algorithms.items ≡ each l.i (λ i. algorithm_from (u16_at l.value (2 * i)));
}
