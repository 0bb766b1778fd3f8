-- What a call came to.
use Rattle.std.specs.Prelude.{◌≡◌, ◌⊎◌, Result, MatchResult}
use Rattle.sctp_util.specs.declared.error.Error.{Error}
use Rattle.sctp_util.specs.declared.error.Error.TheVariants.{ErrOutOfMemory}

-- e is this fault, or memory ran out
abbrev pub OrMemory : Error → Type 0 → Type 0
OrMemory e fault = (e ≡ ErrOutOfMemory) ⊎ fault

-- the call gave such a value, unless memory ran out
abbrev pub GivesUnlessMemory : {T : Type 0} → Result T Error → (T → Type 0) → Type 0
GivesUnlessMemory r P = MatchResult r P (λ e. e ≡ ErrOutOfMemory)
