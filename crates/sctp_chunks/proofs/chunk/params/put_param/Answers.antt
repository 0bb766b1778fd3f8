use Rattle.std.proofs.Common.{◌+◌, length, append_assoc, refl}
use Rattle.sctp_params.specs.Param.{param_value_of}
use Rattle.sctp_params.specs.ParamKind.{parameter_of}
use Rattle.sctp_params.proofs.ParamLengths.{length_param_encoding}
use Rattle.sctp_chunks.proofs.ParamsEncoding.{padded_is, zeros, gap_small}
use Rattle.sctp_chunks.proofs.chunk.params.put_param.Goals as goal

pub returns-clause-items : goal.returns-clause-items
returns-clause-items c =
    let n = 4 + length (param_value_of (parameter_of c.args.param.now)) in
    rw (
      padded_is c.args.bare (parameter_of c.args.param.now),
      length_param_encoding (parameter_of c.args.param.now),
      c.extend_reserved.ensures.items,
      c.put.ensures.items,
      c.gap_after-padding.ensures,
      zeros _ (gap_small c.args.bare n),
      append_assoc,
    ) refl
