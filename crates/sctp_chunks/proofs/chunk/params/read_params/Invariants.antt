use Rattle.std.proofs.Common.{length}
use Rattle.std.specs.Prelude.{map}
use Rattle.sctp_util.specs.Walk.{Walks}
use Rattle.sctp_params.specs.ParamKind.{ReadsParam, parameter_of}
use Rattle.sctp_params.specs.ParamFraming.{after_param}
use Rattle.sctp_chunks.specs.Params.{ReadBack}
use Rattle.sctp_chunks.proofs.chunk.params.read_params.Given as goal

abbrev pub invariant-walk : goal.invariant-walk
invariant-walk l = record {
  walk : Walks ReadsParam after_param l.fn.raw (map parameter_of l.params.items) l.rest;
  again : ReadBack (map parameter_of l.params.items);
}

abbrev pub decreases-walk : goal.decreases-walk
decreases-walk l = length l.rest
