-- The bytes of an input that are still to be looked at, where they are known.
use Rattle.std.specs.Prelude.{◌≡◌, ℕ, List, drop, Option, Some, IfSome}
use Rattle.sctp_capture.specs.declared.input.ReadFault.{ReadFault}
use Rattle.sctp_capture.specs.declared.input.ReadFault.TheVariants.{Input, Memory, Other}

-- known bytes lose their first n
abbrev pub Drops : Option (List ℕ) → Option (List ℕ) → ℕ → Type 0
Drops old new n = IfSome old (λ xs. new ≡ Some (drop n xs))

-- the reader failed, or there was no memory
abbrev pub IsFailure : ReadFault → Type 0
IsFailure (Input code) = Unit {0}
IsFailure Memory = Unit {0}
IsFailure (Other kind) = ⊥
