-- The address types that a sender supports (RFC 4960 3.3.2.1).
use Rattle.std.specs.Prelude.{◌≡◌, ℕ, ◌*◌, ◌/◌, ◌%◌, List, length}
use Rattle.std.specs.List.{flat_map}
use Rattle.sctp_params.specs.declared.param.param_type.ParamType.{ParamType}
use Rattle.sctp_util.specs.Field.{be16, u16_at}
use Rattle.sctp_util.specs.Each.{each}
use Rattle.sctp_params.specs.ParamType.{type_number, type_from}

-- a value of address types: two bytes each
pub record ReadsAddressTypes (value : List ℕ) (ts : List ParamType) : Type 0 where
  pub even : length value % 2 ≡ 0
  pub types : ts ≡ each (length value / 2) (λ i. type_from (u16_at value (2 * i)))

abbrev pub type_encoding : ParamType → List ℕ
type_encoding t = be16 (type_number t)

unfoldable pub address_types_value : List ParamType → List ℕ
address_types_value types = flat_map type_encoding types
