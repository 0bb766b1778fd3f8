use Rattle.std.proofs.Common.{◌≡◌, ◌+◌, ◌-◌, ◌^◌, ◌<◌, length, drop, min}
use Rattle.std.specs.Prelude.{map}
use Rattle.sctp_params.specs.ParamKind.{parameter_of}
use Rattle.sctp_chunks.specs.Params.{params_encoding}
use Rattle.sctp_chunks.proofs.chunk.params.params_length.Given as goal

abbrev pub invariant-loop-i : goal.invariant-loop-i
invariant-loop-i l = record {
  fits : l.length < 2 ^ 64;
  length : min (l.length + length (params_encoding l.bare (map parameter_of (drop l.i l.params))))
      (2 ^ 64 - 1) ≡ min (length (params_encoding l.bare (map parameter_of l.params))) (2 ^ 64 - 1);
}
