-- Why a call refused bytes.
use Rattle.std.specs.Prelude.{◌≡◌, ℕ}
use Rattle.sctp_util.specs.declared.error.Error.{Error}
use Rattle.sctp_util.specs.Outcome.{OrMemory}
use Rattle.sctp_c.specs.Codes.{error_code}

-- the code is that of an error with a fault behind it, or of memory that ran out
pub record IsRefusal (Fault : Error → Type 0) (code : ℕ) : Type 0 where
  pub error : Error
  pub number : code ≡ error_code error
  pub fault : OrMemory error (Fault error)

-- the same, where no memory is taken
pub record IsFaultCode (Fault : Error → Type 0) (code : ℕ) : Type 0 where
  pub error : Error
  pub number : code ≡ error_code error
  pub fault : Fault error
