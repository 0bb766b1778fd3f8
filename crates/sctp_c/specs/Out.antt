-- What a call writes into a caller's memory.
use Rattle.std.specs.Prelude.{◌≡◌, ℕ, ◌<◌, List, ◌++◌, length, take, drop, replicate}
use Rattle.sctp_util.specs.Padding.{padding_of}

-- bytes, and zeros behind them up to a multiple of four
unfoldable pub padded : List ℕ → List ℕ
padded bytes = bytes ++ replicate (padding_of (length bytes)) 0

-- the items at the front of a memory; what stands behind them is as it was
abbrev pub at_front : {T : Type 0} → List T → List T → List T
at_front items old = items ++ drop (length items) old

-- as many of the items as there is room for, from the first on; what stands behind them is as it was
abbrev pub filled : {T : Type 0} → List T → List T → List T
filled items old = take (length old) items ++ drop (length items) old

-- such bytes were written at the front of a buffer, and so many they are
pub record IsWritten (IsWanted : List ℕ → Type 0) (old new : List ℕ) (count : ℕ) : Type 0 where
  pub bytes : List ℕ
  pub wanted : IsWanted bytes
  pub front : new ≡ at_front bytes old
  pub written : count ≡ length bytes

-- there are such bytes, so many, more than the buffer has room for, and the buffer is as it was
pub record IsTooShort (IsWanted : List ℕ → Type 0) (old new : List ℕ) (count : ℕ) : Type 0 where
  pub bytes : List ℕ
  pub wanted : IsWanted bytes
  pub short : length old < length bytes
  pub same : new ≡ old
  pub written : count ≡ length bytes
