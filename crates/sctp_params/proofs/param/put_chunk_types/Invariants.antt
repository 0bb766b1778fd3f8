use Rattle.std.proofs.Common.{◌≡◌, ◌+◌, ◌++◌, take}
use Rattle.sctp_params.specs.Param.{chunk_type_numbers}
use Rattle.sctp_params.proofs.param.put_chunk_types.Given as goal

abbrev pub invariant-loop-typ : goal.invariant-loop-typ
invariant-loop-typ l = record {
  items : l.buf.items ≡ l.fn.buf.items ++ chunk_type_numbers (take l.typ-index l.types);
  spare : l.buf.spare + l.typ-index ≡ l.fn.buf.spare;
}
