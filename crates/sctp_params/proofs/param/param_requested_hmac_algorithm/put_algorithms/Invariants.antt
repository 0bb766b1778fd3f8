use Rattle.std.proofs.Common.{◌≡◌, ◌+◌, ◌*◌, ◌++◌, take}
use Rattle.std.specs.List.{flat_map}
use Rattle.sctp_params.specs.HmacAlgorithm.{algorithm_encoding}
use Rattle.sctp_params.proofs.param.param_requested_hmac_algorithm.put_algorithms.Given as goal

abbrev pub invariant-loop-algorithm : goal.invariant-loop-algorithm
invariant-loop-algorithm l = record {
  items : l.buf.items ≡ l.fn.buf.items ++ flat_map algorithm_encoding (take l.algorithm-index l.algorithms);
  spare : l.buf.spare + 2 * l.algorithm-index ≡ l.fn.buf.spare;
}
