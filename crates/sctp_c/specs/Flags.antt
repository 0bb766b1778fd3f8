-- Values as a caller in C has them.
use Rattle.std.specs.Prelude.{ℕ, Bool, if◌then◌else◌, Option, Some, None}

-- 1 for yes, 0 for no
abbrev pub flag : Bool → ℕ
flag b = if b then 1 else 0

-- a moment, 0 where there is none
abbrev pub moment : Option ℕ → ℕ
moment None = 0
moment (Some t) = t
