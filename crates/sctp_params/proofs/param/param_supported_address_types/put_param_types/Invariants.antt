use Rattle.std.proofs.Common.{◌≡◌, ◌+◌, ◌*◌, ◌++◌, take}
use Rattle.std.specs.List.{flat_map}
use Rattle.sctp_params.specs.AddressTypes.{type_encoding}
use Rattle.sctp_params.proofs.param.param_supported_address_types.put_param_types.Given as goal

abbrev pub invariant-loop-typ : goal.invariant-loop-typ
invariant-loop-typ l = record {
  items : l.buf.items ≡ l.fn.buf.items ++ flat_map type_encoding (take l.typ-index l.types);
  spare : l.buf.spare + 2 * l.typ-index ≡ l.fn.buf.spare;
}
