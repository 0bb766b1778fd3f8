use Rattle.std.proofs.Common.{◌≡◌, ◌+◌, ◌<◌, ◌≤◌, ◌^◌, ◌++◌, length, drop}
use Rattle.std.specs.Prelude.{map}
use Rattle.sctp_params.specs.ParamKind.{parameter_of}
use Rattle.sctp_chunks.specs.Params.{params_encoding}
use Rattle.sctp_chunks.proofs.chunk.params.put_params.Given as goal

abbrev pub invariant-loop-i : goal.invariant-loop-i
invariant-loop-i l = record {
  items : l.buf.items ++ params_encoding l.bare (map parameter_of (drop l.i l.params)) ≡ l.fn.buf.items ++ params_encoding l.bare (map parameter_of l.params);
  encoding : length (params_encoding l.bare (map parameter_of (drop l.i l.params))) < 2 ^ 16;
  room : length (params_encoding l.bare (map parameter_of (drop l.i l.params))) ≤ l.buf.spare;
  spare : l.buf.spare + length (params_encoding l.bare (map parameter_of l.params))
      ≡ l.fn.buf.spare + length (params_encoding l.bare (map parameter_of (drop l.i l.params)));
}
