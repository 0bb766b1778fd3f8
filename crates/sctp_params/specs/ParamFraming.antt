-- How a parameter is framed: type, length, value (RFC 4960 3.2.1).
use Rattle.std.specs.Prelude.{ℕ, ◌+◌, ◌^◌, ◌<◌, ◌≤◌, List, ◌++◌, length, drop, slice_range}
use Rattle.sctp_util.specs.Field.{be16, u16_at, AreBytes}
use Rattle.sctp_util.specs.Padding.{padded_length}

abbrev pub param_type_at : List ℕ → ℕ
param_type_at bytes = u16_at bytes 0

-- the length that the parameter declares: its header and its value
abbrev pub param_declared_length : List ℕ → ℕ
param_declared_length bytes = u16_at bytes 2

-- the value of the parameter that the bytes begin with: it ends at the declared length
unfoldable pub param_value_at : List ℕ → List ℕ
param_value_at bytes = slice_range bytes 4 (param_declared_length bytes)

-- the bytes begin with a parameter
pub record IsParam (bytes : List ℕ) : Type 0 where
  pub headed : 4 ≤ length bytes
  pub least : 4 ≤ param_declared_length bytes
  pub within : param_declared_length bytes ≤ length bytes

-- bytes that a parameter can have as its value
pub record IsParamValue (value : List ℕ) : Type 0 where
  pub bytes : AreBytes value
  pub short : 4 + length value < 2 ^ 16

-- what follows a parameter and its padding; the last padding may be missing
unfoldable pub after_param : List ℕ → List ℕ
after_param bytes = drop (padded_length (param_declared_length bytes)) bytes

-- a header and a value
abbrev pub param_framed : ℕ → List ℕ → List ℕ
param_framed typ value = be16 typ ++ be16 (4 + length value) ++ value
