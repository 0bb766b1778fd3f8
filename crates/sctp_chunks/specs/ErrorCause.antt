-- Error causes: a code, a length with its four header bytes, a value (RFC 4960 3.3.10).
use Rattle.std.specs.Prelude.{◌≡◌, ℕ, ◌+◌, ◌^◌, ◌<◌, ◌≤◌, List, ◌++◌, length, drop, slice_range}
use Rattle.std.specs.List.{flat_map}
use Rattle.sctp_util.specs.Field.{be16, u16_at}
use Rattle.sctp_util.specs.Walk.{Walks}
use Rattle.sctp_chunks.specs.declared.chunk.error_cause.ErrorCause.{ErrorCause}

abbrev pub cause_declared_length : List ℕ → ℕ
cause_declared_length bytes = u16_at bytes 2

-- the bytes begin with a cause
pub record IsCause (bytes : List ℕ) : Type 0 where
  pub headed : 4 ≤ length bytes
  pub least : 4 ≤ cause_declared_length bytes
  pub within : cause_declared_length bytes ≤ length bytes

unfoldable pub cause_value_at : List ℕ → List ℕ
cause_value_at bytes = slice_range bytes 4 (cause_declared_length bytes)

abbrev pub cause_in : List ℕ → ErrorCause
cause_in bytes = record { code = record { 0 = u16_at bytes 0 }; raw = cause_value_at bytes }

-- the bytes begin with this cause
pub record ReadsCause (bytes : List ℕ) (c : ErrorCause) : Type 0 where
  pub is_cause : IsCause bytes
  pub fields : c ≡ cause_in bytes

-- what follows a cause: no padding is looked for, though RFC 4960 3.2.1 has it between causes
unfoldable pub after_cause : List ℕ → List ℕ
after_cause bytes = drop (cause_declared_length bytes) bytes

-- causes by their declared lengths; up to three bytes after the last one are ignored
pub record ReadsCauses (bytes : List ℕ) (cs : List ErrorCause) : Type 0 where
  pub rest : List ℕ
  pub walk : Walks ReadsCause after_cause bytes cs rest
  pub ended : length rest < 4

abbrev pub HasCauseEncoding : ErrorCause → Type 0
HasCauseEncoding c = 4 + length c.raw < 2 ^ 16

unfoldable pub cause_encoding : ErrorCause → List ℕ
cause_encoding c = be16 c.code.0 ++ be16 (4 + length c.raw) ++ c.raw

abbrev pub causes_encoding : List ErrorCause → List ℕ
causes_encoding cs = flat_map cause_encoding cs
