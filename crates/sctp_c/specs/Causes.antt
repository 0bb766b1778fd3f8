-- Error causes as a caller in C reads and writes them (RFC 4960 3.3.10).
use Rattle.std.specs.Prelude.{◌≡◌, ℕ, ◌-◌, min, List, length}
use Rattle.sctp_util.specs.Field.{u16_at}
use Rattle.sctp_util.specs.Padding.{padded_length}
use Rattle.sctp_chunks.specs.declared.chunk.error_cause.ErrorCause.{ErrorCause}
use Rattle.sctp_chunks.specs.ErrorCause.{IsCause, HasCauseEncoding, cause_declared_length, cause_encoding}
use Rattle.sctp_c.specs.Out.{padded}
use Rattle.sctp_c.specs.declared.causes.SctpCause.{SctpCause}

-- the bytes begin with a cause of this code and length; the next one begins behind its padding, or at the end of the bytes
pub record TellsCause (bytes : List ℕ) (t : SctpCause) : Type 0 where
  pub is_cause : IsCause bytes
  pub code : t.code ≡ u16_at bytes 0
  pub value : t.length ≡ cause_declared_length bytes - 4
  pub later : t.next ≡ min (padded_length (cause_declared_length bytes)) (length bytes)

abbrev pub cause_of : ℕ → List ℕ → ErrorCause
cause_of code value = record { code = record { 0 = code }; raw = value }

-- the cause of a code and a value, whose length can be declared, and its padding
pub record IsPaddedCause (code : ℕ) (value bytes : List ℕ) : Type 0 where
  pub short : HasCauseEncoding (cause_of code value)
  pub encoding : bytes ≡ padded (cause_encoding (cause_of code value))
